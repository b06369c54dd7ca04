use Rattle.residual.proofs.Scanning.{Scanning}
use Rattle.residual.proofs.scan.Given as goal

abbrev pub invariant-loop-j : goal.invariant-loop-j
invariant-loop-j l = Scanning l.ends l.chain l.share l.v l.start l.initial.order l.initial.rank l.n l.order l.rank l.j

abbrev pub decreases-loop-j : goal.decreases-loop-j
decreases-loop-j l = l.j
