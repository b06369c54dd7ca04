use Prim.Native.Nat.{◌+◌, ◌*◌}
use mathlib.Core.Path.{◌≡◌}
use mathlib.Core.List.{flat_map}
use lib.ListN.{length, take}
use Rattle.records.specs.Write.{onto, mark_bytes}
use Rattle.writers_numbers.proofs.records.Given as goal

abbrev pub invariant-loop-x : goal.invariant-loop-x
invariant-loop-x l =
    (l.at ≡ (2 + l.w) * l.x-index)
    × (length l.out ≡ length l.initial.out)
    × (l.out ≡ onto (flat_map (mark_bytes l.mark l.w) (take l.x-index l.xs)) l.initial.out)
