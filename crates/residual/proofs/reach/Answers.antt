-- `residual::reach` meets its contract. Assumes nothing.
use Rattle.residual.proofs.Reaching.{reach-goes}
use Rattle.residual.proofs.reach.Goals as goal

pub loop-k-preserved : goal.loop-k-preserved
loop-k-preserved c = search reach-goes
