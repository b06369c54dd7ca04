-- `decompose::first_shares` meets its contract. Assumes nothing.
use Rattle.decompose.proofs.Filled.{copied}
use Rattle.decompose.proofs.first_shares.Goals as goal

pub returns : goal.returns
returns c = copied c.args.n c.copy_from_slice.ensures.after c.requires.0 c.requires.1
