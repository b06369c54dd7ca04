use mathlib.Core.Path.{◌≡◌}
use mathlib.Core.Option.{some}
use Rattle.sets.specs.Set.{set_of}
use Rattle.density.specs.Network.{enrolled}
use Rattle.tables.proofs.enrolled.Given as goal

abbrev pub invariant-loop-d : goal.invariant-loop-d
invariant-loop-d l = l.set ≡ set_of (enrolled (some l.fn.roll.crews)) l.d
