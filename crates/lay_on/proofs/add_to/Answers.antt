-- `lay_on::add_to` meets its contract. Assumes nothing.
use native.Mathlib.Omega.{arith}
use Rattle.lay_on.proofs.Laws.{one}
use Rattle.lay_on.proofs.add_to.Goals as goal

pub overflow_add-load : goal.overflow_add-load
overflow_add-load c = omega (arith, one c.args.load.now c.args.d c.requires.0)
