use mathlib.Core.Path.{◌≡◌}
use lib.ListN.{length}
use Rattle.density.specs.Network.{crews_of}
use Rattle.records.specs.Values.{roll_in}
use Rattle.tables.specs.Tables.{Holds}
use Rattle.tables.proofs.crews.Given as goal

abbrev pub invariant-loop-d : goal.invariant-loop-d
invariant-loop-d l = (length l.r ≡ 64) × Holds l.r (crews_of (roll_in l.fn.roll)) l.d
