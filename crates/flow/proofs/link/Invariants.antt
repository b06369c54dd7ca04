use Rattle.residual.specs.Search.{Linking}
use Rattle.flow.proofs.link.Given as goal

abbrev pub invariant-loop-j : goal.invariant-loop-j
invariant-loop-j l = Linking l.ends l.chain l.j
