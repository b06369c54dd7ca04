-- After i turns the first i sites of the table stand over blank places. Assumes nothing.
use Rattle.std.proofs.Common.{◌≡◌}
use Rattle.table.specs.Table.{overlay, blank}
use Rattle.table.proofs.held.Given as goal

abbrev pub invariant-loop-i : goal.invariant-loop-i
invariant-loop-i g l = l.a ≡ overlay l.i l.table (blank l.fn.blank)
