-- `flow::discharge` meets its contract. Assumes nothing.
use Rattle.residual.proofs.Discharging.{discharge-goes}
use Rattle.flow.proofs.discharge.Goals as goal

pub loop-j-preserved : goal.loop-j-preserved
loop-j-preserved c = search discharge-goes
