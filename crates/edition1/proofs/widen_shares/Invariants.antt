-- After i turns the first i shares stand over zeros. Assumes nothing.
use Rattle.std.proofs.Common.{◌≡◌}
use Rattle.table.specs.Table.{overlay, blank}
use Rattle.edition1.proofs.widen_shares.Given as goal

abbrev pub invariant-loop-i : goal.invariant-loop-i
invariant-loop-i l = l.a ≡ overlay l.i l.fn.shares (blank 0)
