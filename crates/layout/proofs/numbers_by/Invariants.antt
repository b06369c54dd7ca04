use Rattle.std.proofs.Common.{◌≡◌, ◌+◌, ◌*◌, length}
use Rattle.table.specs.Table.{overlay}
use Rattle.layout.specs.Layout.{numbers}
use Rattle.layout.proofs.numbers_by.Given as goal

abbrev pub invariant-loop-x : goal.invariant-loop-x
invariant-loop-x l =
    (l.at ≡ l.from + l.w * l.x-index)
    × (length l.out ≡ length l.initial.out)
    × (l.out ≡ overlay l.x-index (numbers l.w (length l.initial.out) l.from l.s) l.initial.out)
