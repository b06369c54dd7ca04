-- `sets::without` meets its contract. Assumes nothing.
use Rattle.sets.proofs.Machine.{and-not-is}
use Rattle.sets.proofs.without.Goals as goal

pub returns : goal.returns
returns c = and-not-is 64 c.ranges.a.fits c.ranges.b.fits
