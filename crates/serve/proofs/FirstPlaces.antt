-- Values that stand for a table: they begin as its first 512 places do. Such a table there is for any 512 values and any number of places. Assumes nothing.
use mathlib.Core.Path.{◌≡◌, refl, sym, ap, ◌∙◌}
use mathlib.Core.List.{List, [], ◌∷◌, ◌++◌}
use Prim.Native.Nat.{ℕ, zero, suc, ◌≤◌}
use native.Mathlib.Omega.{arith}
use lib.ListN.{length, take, replicate, length-take, length-append, length-replicate}
use lib.Seq.{take-nil, take-take, take_at, length-take-le}

module _ {X : Type 0} where
  module _ (sites table : List X) (places : ℕ) (h : take places sites ≡ take 512 table) (n : ℕ) where
    pub same-front : n ≤ 512 → n ≤ places → take n sites ≡ take n table
    same-front a b = sym (take-take n places sites b) ∙ ap (take n) h ∙ take-take n 512 table a

    pub front-there : places ≡ length table → n ≤ 512 → n ≤ places → n ≤ length sites
    front-there k a b = omega (arith, length-take places sites, ap length h, length-take 512 table)

  take-swap : (m n : ℕ) (l : List X) → take m (take n l) ≡ take n (take m l)
  take-swap zero n l = sym (take-nil n)
  take-swap (suc m) zero l = refl
  take-swap (suc m) (suc n) [] = refl
  take-swap (suc m) (suc n) (x ∷ l) = ap (λ (r : List X). x ∷ r) (take-swap m n l)

  -- The premises of a decision hold of some table.
  pub a-table : (sites : List X) (places : ℕ) → length sites ≡ 512 → (table : List X) × (places ≡ length table) × (take places sites ≡ take 512 table)
  a-table [] places e = absurd (omega arith)
  a-table (x ∷ l) places e =
      let sites = x ∷ l in
      let more = replicate places x in (
        take places (sites ++ more),
        sym (length-take-le places (sites ++ more) (omega (arith, length-append sites more, length-replicate {A = X} places x))),
        ap (take places) (sym (take_at sites more 512 e)) ∙ take-swap places 512 (sites ++ more),
      )
