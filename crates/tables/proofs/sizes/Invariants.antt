use mathlib.Core.Path.{◌≡◌}
use lib.ListN.{length}
use Rattle.density.specs.Network.{Network}
use Rattle.density.specs.Plan.{group_size}
use Rattle.tables.specs.Tables.{Holds}
use Rattle.tables.proofs.sizes.Given as goal

abbrev pub invariant-loop-k : goal.invariant-loop-k
invariant-loop-k l = (length l.r ≡ 64) × ((N : Network) → Holds l.weights N.crews 64 → Holds l.r (group_size N l.groups) l.k)
