-- What `decompose` promises.
use Rattle.std.specs.Prelude.{◌≡◌, ℕ, ◌≤◌, get_or}
use Rattle.density.specs.Network.{network}
use Rattle.density.specs.Groups.{groups_of}
use Rattle.density.specs.Plan.{TruePlan}
use Rattle.records.specs.declared.ListArray.{ListArray}
use Rattle.records.specs.declared.PlanArray.{PlanArray}
use Rattle.records.specs.Values.{listing, plan_in}

-- "Make's shares are left free: what holds of them is that the plan passes": it is true of the list, and its groups are those of the definition.
-- The places beyond it are 0.
pub record Planned (list : ListArray) (r : PlanArray) : Type 0 where
  pub few : r.count ≤ 64
  pub plan : TruePlan (network (listing list)) (plan_in r list.count).groups (plan_in r list.count).shares
  pub groups-are : (plan_in r list.count).groups ≡ groups_of (network (listing list))
  pub groups-beyond : (k : ℕ) → r.count ≤ k → get_or r.groups k 0 ≡ 0
  pub shares-beyond : (i : ℕ) → list.count ≤ i → get_or r.shares i 0 ≡ 0
