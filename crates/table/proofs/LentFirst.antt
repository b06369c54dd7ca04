-- The first places of an array of 600 that were lent and came back. Assumes nothing.
use mathlib.Core.Path.{◌≡◌, refl, sym, ap, ◌∙◌}
use mathlib.Core.Logic.{⊎_elim}
use mathlib.Core.List.{List, [], ◌∷◌, ◌++◌}
use Prim.Native.Nat.{ℕ, ◌≤◌, min}
use native.Mathlib.Omega.{arith}
use lib.Dec.{ltb, ltb→lt, nltb→le, not_T}
use lib.ListN.{length, take, drop, drop_of_length-le, length-append, length-drop}
use lib.Seq.{take_all, take-append_seam}
use Rattle.sets.proofs.Test.{T?}
use Rattle.table.specs.Table.{places_on}

module _ {X : Type 0} where
  -- as many places as are asked for, or all that there are
  all-places : (asked few n : ℕ) (l : List X) → few ≡ min asked n → length l ≡ n → (take few l ≡ take asked l) × (drop few l ≡ drop asked l)
  all-places asked few n l e long =
      ⊎_elim
      (λ t.
      let k : few ≡ asked = omega (arith, e, ltb→lt asked n t) in
      (ap (λ (i : ℕ). take i l) k, ap (λ (i : ℕ). drop i l) k))
      (λ f.
      let m : n ≤ asked = nltb→le asked n (not_T (ltb asked n) f) in
      let k : length l ≤ few = omega (arith, e, m, long) in
      let j : length l ≤ asked = omega (arith, m, long) in
      (take_all few l k ∙ sym (take_all asked l j), drop_of_length-le l k ∙ sym (drop_of_length-le l j))) (T? (ltb asked n))

  -- the first places of an array were lent and came back as zs
  pub lent-first : (asked few : ℕ) (t zs : List X) → few ≡ places_on asked → length t ≡ 600 → length zs ≡ few
      → (take few t ≡ take asked t) × (take asked (zs ++ drop few t) ≡ zs) × (drop asked (zs ++ drop few t) ≡ drop asked t) × (length (zs ++ drop few t) ≡ 600)
  lent-first asked few t zs e long h =
      let room : few ≤ 600 = omega (arith, e) in
      let all : length (zs ++ drop few t) ≡ 600 = omega (arith, length-append zs (drop few t), h, length-drop few t, long, room) in
      let a = all-places asked few 600 t e long in
      let b = all-places asked few 600 (zs ++ drop few t) e all in
      let front : take few (zs ++ drop few t) ≡ zs = ap (λ (k : ℕ). take k (zs ++ drop few t)) (sym h) ∙ take-append_seam zs (drop few t) in
      let behind : drop few (zs ++ drop few t) ≡ drop few t = ap (λ (k : ℕ). drop k (zs ++ drop few t)) (sym h) ∙ seam zs (drop few t) in
      (a.0, sym b.0 ∙ front, sym b.1 ∙ behind ∙ a.1, all)
    where
      seam : (xs ys : List X) → drop (length xs) (xs ++ ys) ≡ ys
      seam [] ys = refl
      seam (x ∷ xs) ys = seam xs ys
