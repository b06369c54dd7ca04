use native.Mathlib.Omega.{arith}
use Rattle.signed.proofs.Signed.{negation-fits, negation}
use Rattle.signed.proofs.refused.Goals as goal

-- src/lib.rt:23:5
pub overflow_sub-result : goal.overflow_sub-result
overflow_sub-result c = negation-fits c.length.ensures (omega arith)

-- src/lib.rt:20:1
pub returns : goal.returns
returns c = negation c.length.ensures (omega arith)
