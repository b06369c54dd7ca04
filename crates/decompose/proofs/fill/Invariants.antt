use Rattle.decompose.specs.Arrays.{Filling}
use Rattle.decompose.proofs.fill.Given as goal

abbrev pub invariant-loop-i : goal.invariant-loop-i
invariant-loop-i l = Filling l.fn.list.sites l.ends l.litres l.i
