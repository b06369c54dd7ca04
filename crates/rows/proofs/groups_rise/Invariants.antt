use mathlib.Core.Path.{◌≡◌}
use mathlib.Core.Bool.{false}
use Prim.Native.Nat.{◌-◌, ◌≤◌}
use Rattle.sets.specs.Sum.{any}
use Rattle.tables.proofs.Totals.{rises_at}
use Rattle.rows.proofs.groups_rise.Given as goal

abbrev pub invariant-loop-k : goal.invariant-loop-k
invariant-loop-k l = (l.k - 1 ≤ l.n - 1) × (any (rises_at l.litres l.sizes) (l.k - 1) ≡ false)
