use mathlib.Core.Path.{◌≡◌}
use Rattle.sets.specs.Set.{set_of}
use Rattle.ranks.proofs.Gathering.{unreached_set}
use Rattle.ranks.proofs.unreached.Given as goal

abbrev pub invariant-loop-d : goal.invariant-loop-d
invariant-loop-d l = l.set ≡ set_of (unreached_set l.rank) l.d
