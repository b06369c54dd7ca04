-- Laws of numbers as bytes, each proved once over the width. Assumes nothing.
use Prim.Native.Nat.{ℕ, zero, suc, ◌+◌, ◌*◌, ◌/◌, ◌%◌, ◌<◌, ◌≤◌, ◌^◌}
use mathlib.Core.List.{List, [], ◌∷◌}
use mathlib.Core.Path.{◌≡◌, refl, ap, ◌∙◌}
use lib.ListN.{length, take, drop, get_or, length-take, length-drop}
use lib.Seq.{get_or-drop, drop-drop, take-take, length-take-le}
use native.Mathlib.Nat.{zero-add, suc-add, not-suc-le-zero, pow-suc, lt_of_lt_of_le, pow-le-pow_right}
use lib.Dec.{lit<}
use native.Mathlib.Omega.{arith}
use Rattle.records.specs.Bytes.{Bytes, le, value, Value, field}

pub length-le : (w x : ℕ) → length (le w x) ≡ w
unfolding le
length-le zero x = refl
length-le (suc w) x = ap suc (length-le w (x / 256))

-- a number that was written is read back
pub value-le : (w x : ℕ) → x < 256 ^ w → value (le w x) ≡ x
unfolding le value
value-le zero x h = omega arith
value-le (suc w) x h =
    let k : x < 256 ^ w * 256 = rw pow-suc at h in
    omega (arith, value-le w (x / 256) (omega arith))

pub value-small : (s : List ℕ) → Bytes s → value s < 256 ^ length s
unfolding value
value-small [] h = omega arith
value-small (b ∷ s) h = rw pow-suc (omega (arith, value-small s (λ i. h (suc i)), h 0))

-- bytes that were read are written again
pub le-value : (s : List ℕ) → Bytes s → le (length s) (value s) ≡ s
unfolding le value
le-value [] h = refl
le-value (b ∷ s) h =
    let m : (b + 256 * value s) % 256 ≡ b = omega (arith, h 0) in
    let d : (b + 256 * value s) / 256 ≡ value s = omega (arith, h 0) in
    rw (m, d) (ap (λ (l : List ℕ). b ∷ l) (le-value s (λ i. h (suc i))))

-- one byte more, below the others
pub value-cons : {b v : ℕ} {s : List ℕ} → b < 256 → Value s v → Value (b ∷ s) (v * 256 + b)
unfolding value
value-cons h r = record { is = omega (arith, r.is); small = rw pow-suc (omega (arith, r.small)) }

pub value-below : (w : ℕ) {v : ℕ} {s : List ℕ} → length s ≤ w → Value s v → v < 256 ^ w
value-below w h r = lt_of_lt_of_le r.small (pow-le-pow_right (lit< tt) h)

-- a number of one byte
pub value-one : (s : List ℕ) (at : ℕ) → at < length s → get_or s at 0 < 256 → Value (take 1 (drop at s)) (get_or s at 0)
unfolding value
value-one [] at h b = absurd (not-suc-le-zero h)
value-one (x ∷ s) zero h b = record { is = omega arith; small = omega arith }
value-one (x ∷ s) (suc at) h b = value-one s at (omega arith) b

-- a number's low bytes and its others
value-split : (a b : ℕ) (s : List ℕ) → a ≤ length s → value (take (a + b) s) ≡ value (take a s) + 256 ^ a * value (take b (drop a s))
unfolding value
value-split zero b s h = rw zero-add (omega arith)
value-split (suc a) b [] h = absurd (not-suc-le-zero h)
value-split (suc a) b (x ∷ s) h = rw (suc-add, pow-suc) (omega (arith, value-split a b s (omega arith)))

pub value-join : (a b : ℕ) (s : List ℕ) (at : ℕ) {x y : ℕ} → at + (a + b) ≤ length s → Value (take a (drop at s)) x → Value (take b (drop (at + a) s)) y
    → x + 256 ^ a * y < 256 ^ (a + b) → Value (take (a + b) (drop at s)) (x + 256 ^ a * y)
value-join a b s at {x} {y} h l r below =
    record {
      is = cc (value-split a b (drop at s) (rw length-drop (omega arith)), drop-drop a at s, l.is, r.is);
      small = rw (length-take-le (a + b) (drop at s) (rw length-drop (omega arith))) below;
    }

-- the first byte of a number that is written, and the rest
pub le_step : (w x : ℕ) → le (suc w) x ≡ x % 256 ∷ le w (x / 256)
unfolding le
le_step w x = refl

pub bytes_drop : (k : ℕ) (s : List ℕ) → Bytes s → Bytes (drop k s)
bytes_drop k s h i = rw get_or-drop (h (k + i))

pub bytes_take : (k : ℕ) (s : List ℕ) → Bytes s → Bytes (take k s)
bytes_take zero s h i = omega arith
bytes_take (suc k) [] h i = omega arith
bytes_take (suc k) (b ∷ s) h zero = h 0
bytes_take (suc k) (b ∷ s) h (suc i) = bytes_take k s (λ (j : ℕ). h (suc j)) i

pub field-small : (s : List ℕ) (at w : ℕ) → Bytes s → field s at w < 256 ^ w
field-small s at w b =
    lt_of_lt_of_le (value-small (take w (drop at s)) (bytes_take w (drop at s) (bytes_drop at s b)))
    (pow-le-pow_right (lit< tt) (rw length-take (omega arith)))

pub field_below : (s : List ℕ) (at w k : ℕ) → Bytes s → w ≤ k → field s at w < 256 ^ k
field_below s at w k b h = lt_of_lt_of_le (field-small s at w b) (pow-le-pow_right (lit< tt) h)

-- a field of a part of s is a field of s
pub field-part : (s : List ℕ) (k size at w : ℕ) → at + w ≤ size → field (take size (drop k s)) at w ≡ field s (k + at) w
field-part s k size at w h = ap value (part (drop k s) size at w h ∙ ap (take w) (drop-drop at k s))
  where
    part : (t : List ℕ) (size at w : ℕ) → at + w ≤ size → take w (drop at (take size t)) ≡ take w (drop at t)
    part t size zero w h = take-take w size t (omega arith)
    part [] zero (suc at) w h = refl
    part [] (suc size) (suc at) w h = refl
    part (b ∷ t) zero (suc at) w h = absurd (omega arith)
    part (b ∷ t) (suc size) (suc at) w h = part t size at w (omega arith)

-- the first byte of a field, and the others
pub field-first : (s : List ℕ) (at w : ℕ) → at < length s → field s at (suc w) ≡ field s at 1 + 256 * field s (suc at) w
unfolding value
field-first [] at w h = absurd (not-suc-le-zero h)
field-first (b ∷ s) zero w h = omega arith
field-first (b ∷ s) (suc at) w h = field-first s at w (omega arith)
