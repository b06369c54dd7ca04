-- `sets::size` meets its contract. Assumes nothing.
use mathlib.Core.Path.{sym}
use Rattle.sets.proofs.Weigh.{cardinality-ones}
use Rattle.sets.proofs.size.Goals as goal

pub returns : goal.returns
returns c = sym (cardinality-ones 64 c.args.set c.ranges.set.fits)
