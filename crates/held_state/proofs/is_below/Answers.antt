-- `held_state::is_below` meets its contract. Assumes nothing.
use native.Mathlib.Omega.{arith}
use Rattle.held_state.proofs.Figures.{product_small}
use Rattle.held_state.proofs.is_below.Goals as goal

pub overflow_mul-result : goal.overflow_mul-result
overflow_mul-result c = record { fits = omega (arith, product_small c.args.threshold c.args.size (omega arith) c.requires) }
