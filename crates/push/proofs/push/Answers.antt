-- `push::push` meets its contract. Assumes nothing.
use Rattle.residual.proofs.Shift.{room-load}
use Rattle.push.proofs.push.Goals as goal

pub transfer-requires-2 : goal.transfer-requires-2
transfer-requires-2 c = rw c.reverse-p.ensures.0 (room-load c.requires.loaded c.requires.movable)
