-- `desk::sulgheti_add2` meets its contract. Assumes nothing.
use native.Mathlib.Omega.{arith}
use Rattle.signed.proofs.Signed.{read_back}
use Rattle.codes.proofs.DeskCodes.{fitting2}
use Rattle.desk.proofs.sulgheti_add2.Goals as goal

pub add-requires : goal.add-requires
add-requires c = (fitting2 c.edition2.ensures, rw c.edition2.ensures (omega arith))

pub returns : goal.returns
returns c = rw (read_back c.add.type_inv) (rw c.edition2.ensures at c.add.ensures)
