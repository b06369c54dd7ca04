use mathlib.Core.Path.{◌≡◌}
use mathlib.Core.Bool.{false}
use Rattle.sets.specs.Sum.{any}
use Rattle.tables.proofs.Totals.{uneven_at}
use Rattle.rows.proofs.loads_uneven.Given as goal

abbrev pub invariant-loop-d : goal.invariant-loop-d
invariant-loop-d l = any (uneven_at l.crews l.all l.sums l.places l.litres) l.d ≡ false
