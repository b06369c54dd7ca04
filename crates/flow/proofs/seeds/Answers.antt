-- `flow::seeds` meets its contract. Assumes nothing.
use Rattle.residual.proofs.Seeding.{seed-goes}
use Rattle.flow.proofs.seeds.Goals as goal

pub loop-d-preserved : goal.loop-d-preserved
loop-d-preserved c = search seed-goes
