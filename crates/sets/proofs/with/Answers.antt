-- `sets::with` meets its contract. Assumes nothing.
use Rattle.sets.proofs.Machine.{or-single-is}
use Rattle.sets.proofs.with.Goals as goal

pub returns : goal.returns
returns c = or-single-is 64 c.args.depot c.ranges.set.fits c.requires
