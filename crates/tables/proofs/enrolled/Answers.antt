-- `tables::enrolled` meets its contract. The invariant: the set has the depots passed that the roll has crews for. Assumes nothing.
use mathlib.Core.Path.{sym}
use Rattle.sets.proofs.Set.{set_of-start}
use Rattle.tables.proofs.Gathered.{enrolled-none, enrolled-takes, enrolled-skips}
use Rattle.tables.proofs.enrolled.Goals as goal
use Rattle.tables.proofs.enrolled.Goals.{then-crews-gt0, else-crews-gt0}

pub returns-then-not-roll : goal.returns-then-not-roll
returns-then-not-roll c = enrolled-none c.args.roll c.if-not-roll.true

pub loop-d-init : goal.loop-d-init
loop-d-init c = sym (set_of-start _)

pub loop-d-preserved : goal.loop-d-preserved
loop-d-preserved c =
    let crews = c.args.roll.crews in
    elim c.if-crews-gt0.branch [
      | then-crews-gt0 w ↦ enrolled-takes crews c.loop-d.d c.loop-d-test.true c.loop-d.invariant w.if-crews-gt0.true w.with-set.ensures w.set-is
      | else-crews-gt0 w ↦ enrolled-skips crews c.loop-d.d c.loop-d-test.true c.loop-d.invariant w.if-crews-gt0.false w.set-is
    ]
