-- `sets::are_disjoint` meets its contract. Assumes nothing.
use Rattle.sets.proofs.Machine.{and-zero-is}
use Rattle.sets.proofs.are_disjoint.Goals as goal

pub returns : goal.returns
returns c = and-zero-is 64 c.args.b c.ranges.a.fits
