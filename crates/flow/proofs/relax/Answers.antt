-- `flow::relax` meets its contract. Assumes nothing.
use Rattle.residual.proofs.Seeding.{cleared}
use Rattle.residual.proofs.Relaxing.{relax-goes, relax_ends, searched, excess, tested-true, tested-false}
use Rattle.flow.proofs.relax.Goals as goal

pub seeds-start-requires-clause-queue : goal.seeds-start-requires-clause-queue
seeds-start-requires-clause-queue c = cleared _ c.loop-start.invariant.ready.orders c.clear.ensures

pub returns-then-not-more : goal.returns-then-not-more
returns-then-not-more c =
    relax_ends c.loop-start.invariant (searched c.clear.ensures c.seeds-start.ensures c.reach-n.ensures) (tested-false c.any_excess-more.ensures c.if-not-more.true)

pub discharge_all-requires-clause-excess : goal.discharge_all-requires-clause-excess
discharge_all-requires-clause-excess c =
    excess (searched c.clear.ensures c.seeds-start.ensures c.reach-n.ensures).found (tested-true c.any_excess-more.ensures c.if-not-more.false)

pub loop-start-preserved : goal.loop-start-preserved
loop-start-preserved c =
    relax-goes c.loop-start.invariant (searched c.clear.ensures c.seeds-start.ensures c.reach-n.ensures) c.discharge_all.ensures
