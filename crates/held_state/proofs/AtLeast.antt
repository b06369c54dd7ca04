-- The groups read up to the first below a threshold, by the tables of the check. Assumes nothing.
use mathlib.Core.Path.{◌≡◌, sym, ap, ap₂, ◌∙◌}
use mathlib.Core.Bool.{Bool, true, false, true≢false}
use mathlib.Core.List.{List}
use Prim.Native.Nat.{ℕ, ◌*◌, ◌≤◌, ◌<◌}
use native.Mathlib.Omega.{arith}
use lib.Dec.{T, ltb}
use lib.ListN.{length, get_or}
use Rattle.sets.specs.Sum.{any}
use Rattle.sets.specs.Set.{lowest}
use Rattle.sets.proofs.Test.{passes, is_true}
use Rattle.sets.proofs.Set.{any_here}
use Rattle.sets.proofs.Weigh.{lowest-first, lowest-none}
use Rattle.density.specs.Plan.{group_size, group_litres}
use Rattle.density.specs.Figures.{groups_read}
use Rattle.records.specs.declared.ListArray.{ListArray}
use Rattle.records.specs.declared.PlanArray.{PlanArray}
use Rattle.tables.specs.declared.Form.{Form}
use Rattle.tables.specs.Tables.{net, groups_in, Kept}
use Rattle.tables.proofs.Shares.{groups-count, sizes-few}

-- by the tables, group j is below the threshold
abbrev pub low : Form → ℕ → ℕ → Bool
low f threshold j = ltb (get_or f.litres j 0) (threshold * get_or f.sizes j 0)

module _ {list : ListArray} {plan : PlanArray} {f : Form} {ws : List ℕ} (k : Kept list plan f ws) {n : ℕ} (e : n ≡ plan.count) where
  pub few : n ≤ 64
  few = omega (arith, e, k.ready.counted.groups)

  pub size_low : (j : ℕ) → j < n → get_or f.sizes j 0 ≤ 576
  size_low j l = sizes-few list plan k.ready f.places f.sizes k.tables j (omega (arith, e))

  module _ (threshold : ℕ) where
    abbrev below : ℕ → Bool
    below j = ltb (group_litres (net list) (groups_in list plan) j) (threshold * group_size (net list) (groups_in list plan) j)

    low-is : (j : ℕ) → j < n → low f threshold j ≡ below j
    low-is j l =
        ap₂ (λ (w q : ℕ). ltb w (threshold * q)) (k.litres.1.is (groups_in list plan) k.tables.place j (omega (arith, few))) (k.tables.size j (omega (arith, e)))

    -- where no group up to j is below by the tables, none is below
    not-below : (j : ℕ) → j ≤ n → any (low f threshold) j ≡ false → (i : ℕ) → i < j → T (below i) → ⊥
    not-below j l h i m t = true≢false (sym (any_here (low f threshold) j i m (low-is i (omega arith) ∙ is_true (below i) t)) ∙ h)

    count : length (groups_in list plan) ≡ n
    count = groups-count list plan k.ready ∙ sym e

    -- reading ends at group j, which is below
    pub read-to : (j : ℕ) → j < n → any (low f threshold) j ≡ false → low f threshold j ≡ true → j ≡ groups_read (net list) (groups_in list plan) threshold
    unfolding groups_read
    read-to j l none hit =
        sym
        (ap (lowest below) count
        ∙ lowest-first below n j l (passes (below j) (sym (low-is j l) ∙ hit)) (not-below j (omega arith) none))

    -- no group is below
    pub read_all : any (low f threshold) n ≡ false → n ≡ groups_read (net list) (groups_in list plan) threshold
    unfolding groups_read
    read_all none = sym (ap (lowest below) count ∙ lowest-none below n (not-below n (omega arith) none))
