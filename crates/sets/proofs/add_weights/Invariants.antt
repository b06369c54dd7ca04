use mathlib.Core.Path.{◌≡◌}
use Prim.Native.Nat.{◌+◌}
use lib.ListN.{get_or}
use Rattle.sets.specs.Set.{has, weigh}
use Rattle.sets.proofs.add_weights.Given as goal

abbrev pub invariant-loop-d : goal.invariant-loop-d
invariant-loop-d l = l.total + weigh (λ d. get_or l.weights d 0) (has l.d-iterator.left) 64 ≡ weigh (λ d. get_or l.weights d 0) (has l.set) 64
