-- `desk::sulgheti_fresh2` meets its contract. Assumes nothing.
use Rattle.signed.proofs.Signed.{read_back}
use Rattle.codes.proofs.DeskCodes.{fitting2}
use Rattle.desk.proofs.sulgheti_fresh2.Goals as goal

pub fresh-requires : goal.fresh-requires
fresh-requires c = fitting2 c.edition2.ensures

pub returns : goal.returns
returns c = rw (read_back c.fresh.type_inv) (rw c.edition2.ensures at c.fresh.ensures)
