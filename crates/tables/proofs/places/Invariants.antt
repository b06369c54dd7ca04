use mathlib.Core.Path.{◌≡◌}
use Prim.Native.Nat.{◌+◌}
use lib.ListN.{length, drop}
use Rattle.density.specs.Plan.{place}
use Rattle.tables.specs.Tables.{Holds}
use Rattle.tables.proofs.places.Given as goal

abbrev pub invariant-loop-k : goal.invariant-loop-k
invariant-loop-k l = (length l.r ≡ 64) × Holds l.r (λ d. l.k + place (drop l.k l.groups) d) 64
