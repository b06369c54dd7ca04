-- Laws of numbers that are written by halves, and of a site as one number. Assumes nothing.
use Prim.Native.Nat.{ℕ, zero, suc, ◌+◌, ◌*◌, ◌/◌, ◌%◌, ◌<◌, ◌≤◌, ◌^◌}
use mathlib.Core.List.{List, [], ◌∷◌, ◌++◌}
use mathlib.Core.Path.{◌≡◌, refl, ap, ap₂, ◌∙◌}
use lib.ListN.{length, set, length-set}
use lib.Seq.{set_split}
use native.Mathlib.Nat.{zero-add, suc-add, pow-succ', div-one, div-div-eq-div-mul}
use native.Mathlib.Numerals.{add-one}
use native.Mathlib.Omega.{arith}
use Rattle.records.specs.Bytes.{le}
use Rattle.records.specs.Write.{place}
use Rattle.records.proofs.Bytes.{length-le}
use Rattle.records.proofs.Buffers.{place-place}

-- the low bytes of a number and its others
le_join : (m n x : ℕ) → le m x ++ le n (x / 256 ^ m) ≡ le (m + n) x
unfolding le
le_join zero n x = rw (zero-add, div-one)
le_join (suc m) n x = rw (suc-add, pow-succ', ← div-div-eq-div-mul) (ap (λ (l : List ℕ). x % 256 ∷ l) (le_join m n (x / 256)))

-- one byte
pub set-place : (at b : ℕ) (d : List ℕ) → at < length d → set d at b ≡ place at (b ∷ []) d
set-place at b d h = rw add-one (set_split d at b h)

-- two bytes, one by one
pub two_bytes : (at x : ℕ) (d : List ℕ) → at + 2 ≤ length d → set (set d at (x % 256)) (at + 1) (x / 256 % 256) ≡ place at (le 2 x) d
unfolding le
two_bytes at x d h =
    let low = x % 256 ∷ [] in
    let high = x / 256 % 256 ∷ [] in
    set-place (at + 1) (x / 256 % 256) (set d at (x % 256)) (rw length-set (omega arith))
    ∙ ap (place (at + 1) high) (set-place at (x % 256) d (omega arith))
    ∙ place-place at 1 low high d (omega arith) refl

-- a number's low bytes, and then its others behind them
pub by-halves : (m n at x : ℕ) (d : List ℕ) {half last : List ℕ} → at ≤ length d → half ≡ place at (le m x) d → last ≡ place (at + m) (le n (x / 256 ^ m)) half
    → last ≡ place at (le (m + n) x) d
by-halves m n at x d h low high =
    let rest = le n (x / 256 ^ m) in
    high ∙ ap (place (at + m) rest) low ∙ place-place at m (le m x) rest d h (length-le m x) ∙ ap (λ (p : List ℕ). place at p d) (le_join m n x)

-- the bytes of the number that a site's figures make
module _ (f s l x : ℕ) (a : f < 256) (b : s < 256) (e : x ≡ f + 256 * s + 65536 * l) where
  low : x % 256 ≡ f % 256
  low = omega (arith, a, b, e)

  middle : x / 256 % 256 ≡ s % 256
  middle = omega (arith, a, b, e)

  high : x / 256 / 256 ≡ l
  high = omega (arith, a, b, e)

  pub body_bytes : (w : ℕ) → le (2 + w) x ≡ le 1 f ++ (le 1 s ++ le w l)
  unfolding le
  body_bytes w =
      let k : 2 + w ≡ suc (suc w) = omega arith in
      ap (λ (m : ℕ). le m x) k ∙ ap₂ (λ (c : ℕ) (d : List ℕ). c ∷ d) low (ap₂ (λ (c : ℕ) (d : List ℕ). c ∷ d) middle (ap (le w) high))
