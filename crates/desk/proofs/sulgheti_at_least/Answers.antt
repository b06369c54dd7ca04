-- `desk::sulgheti_at_least` meets its contract. Assumes nothing.
use Rattle.signed.proofs.Signed.{read_back}
use Rattle.codes.proofs.DeskCodes.{one-figure}
use Rattle.desk.proofs.sulgheti_at_least.Goals as goal

pub figures-requires : goal.figures-requires
figures-requires c = (c.edition_in-e.ensures.1, tt)

pub returns : goal.returns
returns c = rw (read_back c.figures.type_inv) (one-figure (rw c.edition_in-e.ensures.0 at c.figures.ensures))
