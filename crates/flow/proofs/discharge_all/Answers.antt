-- `flow::discharge_all` meets its contract. Assumes nothing.
use Rattle.residual.proofs.DischargingAll.{discharge-all-goes}
use Rattle.flow.proofs.discharge_all.Goals as goal

pub loop-k-preserved : goal.loop-k-preserved
loop-k-preserved c = search discharge-all-goes
