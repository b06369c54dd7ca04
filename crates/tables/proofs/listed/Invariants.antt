use mathlib.Core.Path.{◌≡◌}
use Rattle.sets.specs.Set.{◌∪◌, set_of}
use Rattle.density.specs.Network.{enrolled}
use Rattle.records.specs.Values.{roll_in}
use Rattle.tables.proofs.Sites.{named}
use Rattle.tables.proofs.listed.Given as goal

abbrev pub invariant-loop-s : goal.invariant-loop-s
invariant-loop-s l = l.set ≡ set_of (enrolled (roll_in l.fn.list.roll) ∪ named l.fn.list.sites l.s-index) 64
