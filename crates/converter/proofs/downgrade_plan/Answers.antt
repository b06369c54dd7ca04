-- `converter::downgrade_plan` meets its contract. Assumes nothing.
use lib.Dec.{lit≤}
use Rattle.converter.proofs.downgrade_plan.Goals as goal
use Rattle.converter.proofs.downgrade_plan.Goals.{After-downgrade, After-plan_by, After-slice_known-3-1}

pub plan_by-requires : goal.plan_by-requires
plan_by-requires c = rw c.downgrade.ensures (lit≤ tt, lit≤ tt, lit≤ tt, lit≤ tt)

pub returns : goal.returns
returns c =
    let List-back = (goal.at.returns c).After-slice_known-3-1 in
    let wrote = (goal.at.After-slice_known-3-1 List-back).After-plan_by in
    let way = (goal.at.After-plan_by wrote).After-downgrade in
    rw way.downgrade.ensures at wrote.plan_by.ensures
