-- `desk::sulgheti_add` meets its contract. Assumes nothing.
use native.Mathlib.Omega.{arith}
use Rattle.signed.proofs.Signed.{read_back}
use Rattle.codes.proofs.DeskCodes.{fitting1}
use Rattle.desk.proofs.sulgheti_add.Goals as goal

pub add-requires : goal.add-requires
add-requires c = (fitting1 c.edition1.ensures, rw c.edition1.ensures (omega arith))

pub returns : goal.returns
returns c = rw (read_back c.add.type_inv) (rw c.edition1.ensures at c.add.ensures)
