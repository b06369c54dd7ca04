use mathlib.Core.Path.{◌≡◌}
use mathlib.Core.Bool.{false}
use Prim.Native.Nat.{◌-◌, ◌≤◌}
use lib.Dec.{ltb}
use Rattle.sets.specs.Sum.{any}
use Rattle.density.specs.Network.{crews_of}
use Rattle.records.specs.Values.{roll_in}
use Rattle.records.proofs.roll.is_above.Given as goal

abbrev pub invariant-loop-d : goal.invariant-loop-d
invariant-loop-d l = (l.d ≤ 64) × (any (λ k. ltb 9 (crews_of (roll_in l.roll) k)) l.d ≡ false)

abbrev pub decreases-loop-d : goal.decreases-loop-d
decreases-loop-d l = 64 - l.d
