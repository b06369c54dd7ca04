-- `desk::sulgheti_propose` meets its contract. Assumes nothing.
use Rattle.signed.proofs.Signed.{read_back}
use Rattle.desk.proofs.sulgheti_propose.Goals as goal

pub propose-requires : goal.propose-requires
propose-requires c = c.edition_in-e.ensures.1

pub returns : goal.returns
returns c = rw (read_back c.propose.type_inv) (rw c.edition_in-e.ensures.0 at c.propose.ensures)
