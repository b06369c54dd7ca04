-- Laws of bytes as text, as `digits` and the loops of `decode` and `encode` meet them.
-- Assumes nothing.
use Prim.Native.Nat.{ℕ, zero, suc, ◌+◌, ◌*◌, ◌/◌, ◌%◌, ◌<◌}
use mathlib.Core.Path.{◌≡◌, refl, ap}
use mathlib.Core.Bool.{Bool, false, not, ◌&&◌}
use mathlib.Core.List.{List, [], ◌∷◌}
use lib.Dec.{eqb}
use Rattle.std.specs.List.{list_all}
use native.Mathlib.Omega.{arith}
use native.Mathlib.Numerals.{add-one}
use lib.ListN.{length, get_or, set, take, length-set}
use lib.Seq.{take-suc, take-suc-set}
use Rattle.script.specs.Hex.{digit_of, glyph_of, digits_of, byte_of, bytes_of, all_digits, is_none}

-- one more element at the front is that of xs
pub front-next : (out xs : List ℕ) (k v : ℕ) → k < length out → k < length xs → v ≡ get_or xs k 0 → take k out ≡ take k xs → take (k + 1) (set out k v) ≡ take (k + 1) xs
front-next out xs k v h g e p = rw (add-one, take-suc-set out k v h, take-suc xs k 0 g, p, e)

digits-length : (bytes : List ℕ) → length (digits_of bytes) ≡ 2 * length bytes
unfolding digits_of
digits-length [] = refl
digits-length (b ∷ bytes) = omega (arith, digits-length bytes)

digits-high : (bytes : List ℕ) (i : ℕ) → i < length bytes → get_or (digits_of bytes) (2 * i) 0 ≡ glyph_of (get_or bytes i 0 / 16)
unfolding digits_of
digits-high [] i h = absurd (omega arith)
digits-high (b ∷ bytes) zero h = refl
digits-high (b ∷ bytes) (suc i) h =
    let e : 2 * suc i ≡ suc (suc (2 * i)) = omega arith in
    rw e (digits-high bytes i (omega arith))

digits_low : (bytes : List ℕ) (i : ℕ) → i < length bytes → get_or (digits_of bytes) (2 * i + 1) 0 ≡ glyph_of (get_or bytes i 0 % 16)
unfolding digits_of
digits_low [] i h = absurd (omega arith)
digits_low (b ∷ bytes) zero h = refl
digits_low (b ∷ bytes) (suc i) h =
    let e : 2 * suc i + 1 ≡ suc (suc (2 * i + 1)) = omega arith in
    rw e (digits_low bytes i (omega arith))

-- the two digits of one more byte
pub digits-next : (out bytes : List ℕ) (i x y : ℕ) → i < length bytes → 2 * i + 1 < length out → x ≡ glyph_of (get_or bytes i 0 / 16) → y ≡ glyph_of (get_or bytes i 0 % 16)
    → take (2 * i) out ≡ take (2 * i) (digits_of bytes) → take (2 * (i + 1)) (set (set out (2 * i) x) (2 * i + 1) y) ≡ take (2 * (i + 1)) (digits_of bytes)
digits-next out bytes i x y h g p q e =
    let n = digits-length bytes in
    let a = front-next out (digits_of bytes) (2 * i) x (omega arith) (omega arith) (rw (digits-high bytes i h) p) e in
    let b = front-next (set out (2 * i) x) (digits_of bytes) (2 * i + 1) y (rw length-set g) (omega arith) (rw (digits_low bytes i h) q) a in
    let s : 2 * (i + 1) ≡ 2 * i + 1 + 1 = omega arith in
    rw s b

-- the byte at i
pub bytes-at : (text : List ℕ) (i : ℕ) → 2 * i + 1 < length text → (i < length (bytes_of text)) × (get_or (bytes_of text) i 0 ≡ byte_of (get_or text (2 * i) 0) (get_or text (2 * i + 1) 0))
unfolding bytes_of
bytes-at [] i h = absurd (omega arith)
bytes-at (high ∷ []) i h = absurd (omega arith)
bytes-at (high ∷ low ∷ text) zero h = (omega arith, refl)
bytes-at (high ∷ low ∷ text) (suc i) h =
    let r = bytes-at text i (omega arith) in
    let e : 2 * suc i ≡ suc (suc (2 * i)) = omega arith in
    let f : 2 * suc i + 1 ≡ suc (suc (2 * i + 1)) = omega arith in
    (omega (arith, r.0), rw (f, e) r.1)

-- all bytes are digits, by the library's word
pub all_is : (text : List ℕ) → all_digits text ≡ list_all (λ b. not (eqb (digit_of b) 16)) text
unfolding all_digits
all_is [] = refl
all_is (b ∷ text) = ap (λ (r : Bool). not (eqb (digit_of b) 16) && r) (all_is text)

pub none_other : (text : List ℕ) → (length text ≡ 1 → ⊥) → is_none text ≡ false
unfolding is_none
none_other [] h = refl
none_other (b ∷ []) h = absurd (h refl)
none_other (b ∷ c ∷ text) h = refl

pub none-one : (text : List ℕ) → length text ≡ 1 → is_none text ≡ eqb (get_or text 0 0) 45
unfolding is_none
none-one [] h = absurd (omega arith)
none-one (b ∷ []) h = refl
none-one (b ∷ c ∷ text) h = absurd (omega arith)
