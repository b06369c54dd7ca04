-- `desk::sulgheti_difference` meets its contract. Assumes nothing.
use Rattle.signed.proofs.Signed.{read_back}
use Rattle.desk.proofs.sulgheti_difference.Goals as goal

pub difference-requires : goal.difference-requires
difference-requires c = c.edition_in-e.ensures.1

pub returns : goal.returns
returns c = rw (read_back c.difference.type_inv) (rw c.edition_in-e.ensures.0 at c.difference.ensures)
