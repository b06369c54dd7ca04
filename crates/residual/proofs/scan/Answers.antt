-- `residual::scan` meets its contract. Assumes nothing.
use Rattle.residual.proofs.Scanning.{scan-goes, scan-ends}
use Rattle.residual.proofs.scan.Goals as goal

pub loop-j-preserved : goal.loop-j-preserved
loop-j-preserved c = search scan-goes

pub returns : goal.returns
returns c = search scan-ends
