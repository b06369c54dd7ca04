use mathlib.Core.Path.{◌≡◌}
use mathlib.Core.Bool.{false}
use Rattle.sets.specs.Sum.{any}
use Rattle.sets.specs.Set.{set_of}
use Rattle.density.specs.Plan.{before}
use Rattle.tables.proofs.Groups.{meets_at}
use Rattle.rows.proofs.groups_meet.Given as goal

abbrev pub invariant-loop-group : goal.invariant-loop-group
invariant-loop-group l = (any (meets_at l.groups) l.group-index ≡ false) × (l.seen ≡ set_of (before l.groups l.group-index) 64)
