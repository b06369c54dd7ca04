-- `judge::check` meets its contract. Assumes nothing.
use Rattle.readers.proofs.Editions.{widths}
use Rattle.judge.proofs.check.Goals as goal

pub check_by-requires : goal.check_by-requires
check_by-requires c =
    let w = widths c.args.list.now in
    rw c.edition_of.ensures (w.0, w.1)

pub returns : goal.returns
returns c = rw c.edition_of.ensures at c.check_by.ensures
