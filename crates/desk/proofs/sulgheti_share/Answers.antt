-- `desk::sulgheti_share` meets its contract. Assumes nothing.
use Rattle.signed.proofs.Signed.{read_back}
use Rattle.desk.proofs.sulgheti_share.Goals as goal

pub figures-requires : goal.figures-requires
figures-requires c = (c.edition_in-e.ensures.1, tt)

pub returns : goal.returns
returns c = rw (read_back c.figures.type_inv) (rw c.edition_in-e.ensures.0 at c.figures.ensures)
