use Rattle.attempt.proofs.Making.{Loop}
use Rattle.attempt.proofs.Steps.{left}
use Rattle.split.proofs.split.Given as goal

abbrev pub invariant-loop-before : goal.invariant-loop-before
invariant-loop-before l = Loop l.ends l.litres l.crews l.listed l.stack l.share l.groups l.top l.n l.before

abbrev pub decreases-loop-before : goal.decreases-loop-before
decreases-loop-before l = left l.stack l.top l.before
