use Rattle.attempt.specs.Lay.{Aiming}
use Rattle.attempt.proofs.aim.Given as goal

abbrev pub invariant-loop-d : goal.invariant-loop-d
invariant-loop-d l = Aiming l.crews l.set l.w l.target l.rank l.d
