-- `records::number::field` meets its contract. Assumes nothing.
use native.Mathlib.Nat.{add-sub_cancel_left}
use Rattle.records.proofs.number.field.Goals as goal
use Rattle.records.proofs.number.field.Goals.{After-shared_slice_known-1, Else-w-eq8}

pub returns-then-w-eq4 : goal.returns-then-w-eq4
returns-then-w-eq4 c = rw c.if-w-eq4.true c.four.ensures

pub returns-then-w-eq2 : goal.returns-then-w-eq2
returns-then-w-eq2 c = rw c.if-w-eq2.true c.two.ensures

pub returns-then-w-eq8 : goal.returns-then-w-eq8
returns-then-w-eq8 c = rw c.if-w-eq8.true c.eight.ensures

pub returns-then-w-eq6 : goal.returns-then-w-eq6
returns-then-w-eq6 c = rw c.if-w-eq6.true c.six.ensures

pub returns : goal.returns
returns c =
    let part = (goal.at.returns c).Else-w-eq8 in
    let start = (goal.at.Else-w-eq8 part).After-shared_slice_known-1 in
    let a = start.args in
    rw (add-sub_cancel_left a.at a.w) at c.value.ensures
