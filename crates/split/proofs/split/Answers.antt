-- `split::split` meets its contract. Assumes nothing.
use native.Mathlib.Omega.{arith}
use Rattle.attempt.proofs.Steps.{finish-less, here, making-begins, making-ends, room, turn-finish, turn-less, turn_low, turn-split, turn-stage}
use Rattle.split.proofs.split.Goals as goal

pub loop-before-init : goal.loop-before-init
loop-before-init c = λ N ok h. making-begins N c.requires.begun

pub attempt-dense-requires : goal.attempt-dense-requires
attempt-dense-requires c =
    turn-stage c.requires.tables (here c.requires.tables c.loop-before.invariant) c.loop-before-test.true c.requires.d_value.1 c.without-set.ensures c.weight-q.ensures

pub offset_bounds-groups-n : goal.offset_bounds-groups-n
offset_bounds-groups-n c =
    omega (arith, room (here c.requires.tables c.loop-before.invariant) c.loop-before-test.true)

pub bounds-groups-n : goal.bounds-groups-n
bounds-groups-n c =
    let m = here c.requires.tables c.loop-before.invariant in
    omega (arith, m.places, room m c.loop-before-test.true)

pub overflow_add-n : goal.overflow_add-n
overflow_add-n c =
    omega (arith, room (here c.requires.tables c.loop-before.invariant) c.loop-before-test.true)

pub loop-before-smaller-then-dense-set : goal.loop-before-smaller-then-dense-set
loop-before-smaller-then-dense-set c =
    finish-less c.requires.tables c.loop-before.invariant c.loop-before-test.true c.without-set.ensures c.weight-q.ensures c.attempt-dense.ensures c.attempt-dense.type_inv c.if-dense-set.true c.saturating_sub-top.ensures

pub loop-before-preserved-then-dense-set : goal.loop-before-preserved-then-dense-set
loop-before-preserved-then-dense-set c =
    turn-finish c.requires.tables c.loop-before.invariant c.loop-before-test.true c.without-set.ensures c.weight-q.ensures c.attempt-dense.ensures c.attempt-dense.type_inv c.if-dense-set.true c.saturating_sub-top.ensures

pub bounds-stack-top-else-dense-set : goal.bounds-stack-top-else-dense-set
bounds-stack-top-else-dense-set c =
    omega (arith, (here c.requires.tables c.loop-before.invariant).stacked.wide, turn_low c.requires.tables c.loop-before.invariant c.loop-before-test.true c.without-set.ensures c.weight-q.ensures c.attempt-dense.ensures c.attempt-dense.type_inv c.if-dense-set.false c.union.ensures)

pub loop-before-smaller : goal.loop-before-smaller
loop-before-smaller c =
    turn-less c.requires.tables c.loop-before.invariant c.loop-before-test.true c.without-set.ensures c.weight-q.ensures c.attempt-dense.ensures c.attempt-dense.type_inv c.if-dense-set.false c.union.ensures

pub loop-before-preserved : goal.loop-before-preserved
loop-before-preserved c =
    turn-split c.requires.tables c.loop-before.invariant c.loop-before-test.true c.without-set.ensures c.weight-q.ensures c.attempt-dense.ensures c.attempt-dense.type_inv c.if-dense-set.false c.union.ensures

pub returns : goal.returns
returns c = making-ends c.requires.tables c.loop-before.invariant c.loop-before-test.false
