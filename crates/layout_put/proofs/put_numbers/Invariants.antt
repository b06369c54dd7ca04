use Rattle.std.proofs.Common.{◌≡◌, ◌*◌, length, take}
use mathlib.Core.List.{flat_map}
use Rattle.records.specs.Bytes.{le}
use Rattle.records.specs.Write.{onto}
use Rattle.layout_put.proofs.put_numbers.Given as goal

abbrev pub invariant-loop-x : goal.invariant-loop-x
invariant-loop-x l = (l.at ≡ l.w * l.x-index) × (length l.out ≡ length l.initial.out) × (l.out ≡ onto (flat_map (le l.w) (take l.x-index l.xs)) l.initial.out)
