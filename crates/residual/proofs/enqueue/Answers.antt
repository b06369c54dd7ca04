-- `residual::enqueue` meets its contract. Assumes nothing.
use native.Mathlib.Omega.{arith}
use Rattle.residual.proofs.Laws.{room}
use Rattle.residual.proofs.enqueue.Goals as goal

pub bounds-order-n : goal.bounds-order-n
bounds-order-n c = omega (arith, room _ c.requires.queue c.requires.u_bound c.if-place-eq64.true)
