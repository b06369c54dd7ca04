use mathlib.Core.Path.{◌≡◌}
use mathlib.Core.Bool.{false}
use Rattle.sets.specs.Sum.{any}
use Rattle.held_state.proofs.AtLeast.{low}
use Rattle.held_state.proofs.groups_read.Given as goal

abbrev pub invariant-loop-k : goal.invariant-loop-k
invariant-loop-k l = any (low l.f l.threshold) l.k ≡ false
