use Rattle.residual.specs.Array.{total_deficit}
use Rattle.residual.proofs.Relaxing.{Relaxing}
use Rattle.flow.proofs.relax.Given as goal

abbrev pub invariant-loop-start : goal.invariant-loop-start
invariant-loop-start l = Relaxing l.ends l.chain l.target l.initial.rank l.initial.share l.initial.load l.order l.rank l.share l.load

abbrev pub decreases-loop-start : goal.decreases-loop-start
decreases-loop-start l = total_deficit l.target l.load
