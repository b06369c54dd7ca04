use Rattle.sets.specs.Set.{has}
use Rattle.attempt.specs.Lay.{Laying}
use Rattle.attempt.proofs.lay.Given as goal

abbrev pub invariant-loop-i : goal.invariant-loop-i
invariant-loop-i l = Laying l.ends l.litres (has l.set) (has l.before) l.q l.initial.share l.total l.share l.load l.i
