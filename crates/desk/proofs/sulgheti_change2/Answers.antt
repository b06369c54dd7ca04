-- `desk::sulgheti_change2` meets its contract. Assumes nothing.
use native.Mathlib.Omega.{arith}
use Rattle.signed.proofs.Signed.{read_back}
use Rattle.codes.proofs.DeskCodes.{fitting2}
use Rattle.desk.proofs.sulgheti_change2.Goals as goal

pub change-requires : goal.change-requires
change-requires c = (fitting2 c.edition2.ensures, rw c.edition2.ensures (omega arith))

pub returns : goal.returns
returns c = rw (read_back c.change.type_inv) (rw c.edition2.ensures at c.change.ensures)
