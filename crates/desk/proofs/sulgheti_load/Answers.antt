-- `desk::sulgheti_load` meets its contract. Assumes nothing.
use Rattle.signed.proofs.Signed.{read_back}
use Rattle.desk.proofs.sulgheti_load.Goals as goal

pub load-requires : goal.load-requires
load-requires c = c.edition_in-e.ensures.1

pub returns : goal.returns
returns c = rw (read_back c.load.type_inv) (rw c.edition_in-e.ensures.0 at c.load.ensures)
