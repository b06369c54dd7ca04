-- A field and a run of records, read back after they were written, and written again after they were read: over the width and the kind of record. Assumes nothing.
use Prim.Native.Nat.{ℕ, zero, suc, ◌+◌, ◌*◌, ◌<◌, ◌≤◌, ◌^◌}
use mathlib.Core.Bool.{Bool, false}
use mathlib.Core.List.{List, [], ◌∷◌, ◌++◌, append_assoc, append-nil, flat_map, map}
use mathlib.Core.Path.{◌≡◌, refl, ap, sym, ◌∙◌}
use lib.ListN.{length, take, drop, length-drop, take-append-drop, drop_of_length-le}
use lib.Seq.{take_at, drop_at, take_all, drop-append-add, drop-drop, length-take-le}
use native.Mathlib.Nat.{mul-suc, mul-zero}
use native.Mathlib.Omega.{arith}
use Rattle.records.specs.Bytes.{Bytes, le, value, field}
use Rattle.records.specs.Record.{records, any_of}
use Rattle.records.proofs.Bytes.{length-le, value-le, le-value, bytes_take, bytes_drop}
use Rattle.records.specs.Write.{All}
use Rattle.records.proofs.Records.{all_map, of_none}

-- ---- one field

-- a field that was written is read back
pub field-here : (w x : ℕ) (t : List ℕ) → x < 256 ^ w → field (le w x ++ t) 0 w ≡ x
field-here w x t h = rw (take_at (le w x) t w (length-le w x)) (value-le w x h)

pub field-last : (w x : ℕ) → x < 256 ^ w → field (le w x) 0 w ≡ x
field-last w x h =
    let k : length (le w x) ≤ w = rw length-le (omega arith) in
    rw (take_all w (le w x) k) (value-le w x h)

-- the fields behind it
pub field-behind : (p t : List ℕ) (k at w : ℕ) → length p ≡ k → field (p ++ t) (k + at) w ≡ field t at w
field-behind p t k at w h = rw (← h, drop-append-add)

-- a field that was read is written again
pub le-field : (s : List ℕ) (at w : ℕ) → Bytes s → at + w ≤ length s → le w (field s at w) ++ drop (at + w) s ≡ drop at s
le-field s at w b h =
    let r : List ℕ = take w (drop at s) in
    let e : length r ≡ w = length-take-le w (drop at s) (rw length-drop (omega arith)) in
    let l : le (length r) (value r) ≡ r = le-value r (bytes_take w (drop at s) (bytes_drop at s b)) in
    ap (λ (n : ℕ). le n (value r) ++ drop (at + w) s) (sym e) ∙ rw (l, ← (drop-drop w at s)) (take-append-drop w (drop at s))

pub le-field-last : (s : List ℕ) (at w : ℕ) → Bytes s → length s ≡ at + w → le w (field s at w) ≡ drop at s
le-field-last s at w b h =
    let e : drop (at + w) s ≡ [] = drop_of_length-le s {i = at + w} (omega arith) in
    rw (e, append-nil) at (le-field s at w b (omega arith))

-- ---- a run of records

module _ {A : Type 0} (f : A → List ℕ) (size : ℕ) where
  -- records that were written, as records
  pub records-flat : ((x : A) → length (f x) ≡ size) → (xs : List A) (t : List ℕ) → records size (length xs) (flat_map f xs ++ t) ≡ map f xs
  unfolding records flat_map
  records-flat h [] t = refl
  records-flat h (x ∷ xs) t =
      rw (append_assoc (f x) (flat_map f xs) t, take_at (f x) (flat_map f xs ++ t) size (h x), drop_at (f x) (flat_map f xs ++ t) size (h x), records-flat h xs t)

  -- the same where nothing follows them
  pub records-flat-last : ((x : A) → length (f x) ≡ size) → (xs : List A) → records size (length xs) (flat_map f xs) ≡ map f xs
  records-flat-last h xs = rw append-nil at (records-flat h xs [])

  -- records that were read, written again: p is a test that each of them passed
  pub flat-records : (g : List ℕ → A) (p : List ℕ → Bool) → ((r : List ℕ) → length r ≡ size → Bytes r → p r ≡ false → f (g r) ≡ r)
      → (n : ℕ) (s : List ℕ) → size * n ≤ length s → Bytes s → All (λ (r : List ℕ). p r ≡ false) (records size n s)
      → flat_map f (map g (records size n s)) ++ drop (size * n) s ≡ s
  unfolding records flat_map
  flat-records g p h zero s l b t = rw mul-zero
  flat-records g p h (suc n) s l b t =
      let m : size * suc n ≡ size + size * n = rw mul-suc (omega arith) in
      let e : length (take size s) ≡ size = length-take-le size s (omega arith) in
      let r : f (g (take size s)) ≡ take size s = h (take size s) e (bytes_take size s b) t.0 in
      rw (r, m, append_assoc, ← (drop-drop (size * n) size s), flat-records g p h n (drop size s) (rw length-drop (omega arith)) (bytes_drop size s b) t.1)
      (take-append-drop size s)

  -- the same where nothing follows them
  pub flat-records-last : (g : List ℕ → A) (p : List ℕ → Bool) → ((r : List ℕ) → length r ≡ size → Bytes r → p r ≡ false → f (g r) ≡ r)
      → (n : ℕ) (s : List ℕ) → length s ≡ size * n → Bytes s → All (λ (r : List ℕ). p r ≡ false) (records size n s) → flat_map f (map g (records size n s)) ≡ s
  flat-records-last g p h n s l b t =
      let e : drop (size * n) s ≡ [] = drop_of_length-le s {i = size * n} (omega arith) in
      rw (e, append-nil) at (flat-records g p h n s (omega arith) b t)

-- what each element passes, all pass
pub any-map : {A : Type 0} (f : A → List ℕ) (p : List ℕ → Bool) (P : A → Type 0) → ((x : A) → P x → p (f x) ≡ false)
    → (xs : List A) → All P xs → any_of p (map f xs) ≡ false
any-map f p P h xs a = of_none p (map f xs) (all_map f P (λ (r : List ℕ). p r ≡ false) h xs a)

pub map_back : {A : Type 0} (f : A → List ℕ) (g : List ℕ → A) (P : A → Type 0) → ((x : A) → P x → g (f x) ≡ x)
    → (xs : List A) → All P xs → map g (map f xs) ≡ xs
map_back f g P h [] a = refl
map_back f g P h (x ∷ xs) a = rw (h x a.0, map_back f g P h xs a.1)

pub bytes-records : (size n : ℕ) (s : List ℕ) → Bytes s → All Bytes (records size n s)
unfolding records
bytes-records size zero s b = tt
bytes-records size (suc n) s b = (bytes_take size s b, bytes-records size n (drop size s) (bytes_drop size s b))
