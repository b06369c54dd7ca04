-- `sets::single` meets its contract. Assumes nothing.
use Rattle.sets.proofs.Machine.{shl_is}
use Rattle.sets.proofs.single.Goals as goal

pub returns : goal.returns
returns c = shl_is 64 c.args.depot c.requires
