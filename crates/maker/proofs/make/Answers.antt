-- `maker::make` meets its contract. Assumes nothing.
use Rattle.readers.proofs.Editions.{widths}
use Rattle.maker.proofs.make.Goals as goal

pub make_by-requires : goal.make_by-requires
make_by-requires c = rw c.edition_of.ensures (widths c.args.list.now)

pub returns : goal.returns
returns c = rw (← c.edition_of.ensures) c.make_by.ensures
