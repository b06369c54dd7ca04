-- `sets::union` meets its contract. Assumes nothing.
use Rattle.sets.proofs.Machine.{or_is}
use Rattle.sets.proofs.union.Goals as goal

pub returns : goal.returns
returns c = or_is 64 c.ranges.a.fits c.ranges.b.fits
