-- `desk::sulgheti_fresh` meets its contract. Assumes nothing.
use Rattle.signed.proofs.Signed.{read_back}
use Rattle.codes.proofs.DeskCodes.{fitting1}
use Rattle.desk.proofs.sulgheti_fresh.Goals as goal

pub fresh-requires : goal.fresh-requires
fresh-requires c = fitting1 c.edition1.ensures

pub returns : goal.returns
returns c = rw (read_back c.fresh.type_inv) (rw c.edition1.ensures at c.fresh.ensures)
