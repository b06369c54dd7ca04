use mathlib.Core.Path.{◌≡◌}
use Rattle.sets.specs.Set.{set_of}
use Rattle.density.specs.Plan.{before}
use Rattle.rows.proofs.union.Given as goal

abbrev pub invariant-loop-group : goal.invariant-loop-group
invariant-loop-group l = l.seen ≡ set_of (before l.groups l.group-index) 64
