-- `sets::is_empty` meets its contract. Assumes nothing.
use Rattle.sets.proofs.Machine.{zero_is}
use Rattle.sets.proofs.is_empty.Goals as goal

pub returns : goal.returns
returns c = zero_is 64 c.ranges.set.fits
