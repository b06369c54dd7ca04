-- `sets::lowest` meets its contract. Assumes nothing.
use mathlib.Core.Path.{sym}
use Rattle.sets.proofs.Weigh.{lowest-trailing}
use Rattle.sets.proofs.lowest.Goals as goal

pub returns : goal.returns
returns c = sym (lowest-trailing 64 c.args.set)
