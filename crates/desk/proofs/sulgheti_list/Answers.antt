-- `desk::sulgheti_list` meets its contract. Assumes nothing.
use Rattle.signed.proofs.Signed.{read_back}
use Rattle.desk.proofs.sulgheti_list.Goals as goal

pub wrote_out-requires : goal.wrote_out-requires
wrote_out-requires c = (c.edition_in-e.ensures.1, tt)

pub returns : goal.returns
returns c = rw (read_back c.wrote_out.type_inv) (rw c.edition_in-e.ensures.0 at c.wrote_out.ensures)
