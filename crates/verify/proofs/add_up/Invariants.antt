use mathlib.Core.Path.{◌≡◌}
use Prim.Native.Nat.{◌+◌}
use Rattle.sets.specs.Set.{◌∪◌, set_of}
use Rattle.density.specs.Network.{enrolled}
use Rattle.records.specs.Values.{roll_in}
use Rattle.tables.specs.Tables.{lent_plan}
use Rattle.tables.proofs.Sites.{named}
use Rattle.tables.proofs.Pass.{Pass}
use Rattle.verify.proofs.add_up.Given as goal

abbrev pub invariant-loop-i : goal.invariant-loop-i
invariant-loop-i l =
    (l.set ≡ set_of (enrolled (roll_in l.fn.list.roll) ∪ named l.fn.list.sites l.i) 64)
    × Pass l.fn.list (lent_plan l.count l.fn.sets l.shares) l.places l.litres l.wholes l.i
    × (l.end ≡ l.fn.list.count)

abbrev pub invariant-loop-s : goal.invariant-loop-s
invariant-loop-s l = l.set ≡ set_of (enrolled (roll_in l.fn.list.roll) ∪ named l.fn.list.sites (l.end + l.s-index)) 64
