use Rattle.residual.proofs.Seeding.{Clearing}
use Rattle.ranks.proofs.clear.Given as goal

abbrev pub invariant-loop-place : goal.invariant-loop-place
invariant-loop-place l = Clearing l.initial.rank l.rank l.place-index
