use Rattle.residual.proofs.Seeding.{Seeding}
use Rattle.flow.proofs.seeds.Given as goal

abbrev pub invariant-loop-d : goal.invariant-loop-d
invariant-loop-d l = Seeding l.target l.load l.initial.rank l.n l.order l.rank l.d
