use Rattle.std.proofs.Common.{◌≡◌, length, take}
use mathlib.Core.List.{flat_map}
use Rattle.records.specs.Write.{onto}
use Rattle.layout.specs.Layout.{place_bytes}
use Rattle.layout_put.proofs.put_by.Given as goal

abbrev pub invariant-loop-i : goal.invariant-loop-i
invariant-loop-i l = (length l.out ≡ length l.initial.out) × (l.out ≡ onto (flat_map (place_bytes l.w) (take l.i l.x-items)) l.initial.out)
