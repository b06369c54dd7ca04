use mathlib.Core.Path.{◌≡◌}
use mathlib.Core.Bool.{cond}
use Prim.Native.Nat.{ℕ, ◌<◌}
use lib.ListN.{length, get_or}
use Rattle.sets.specs.Set.{has}
use Rattle.tables.proofs.mark.Given as goal

abbrev pub invariant-loop-d : goal.invariant-loop-d
invariant-loop-d l = (length l.places ≡ 64) × ((d : ℕ) → d < 64 → cond (has l.d-iterator.left d) l.k (get_or l.places d 0) ≡ cond (has l.set d) l.k (get_or l.initial.places d 0))
