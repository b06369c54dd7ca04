-- After i turns the first i shares stand over zeros, if they fit. Assumes nothing.
use Rattle.std.proofs.Common.{◌≡◌, ◌<◌, ◌^◌, ℕ}
use lib.ListN.{get_or}
use Rattle.table.specs.Table.{overlay, blank}
use Rattle.edition1.proofs.narrow_shares.Given as goal

abbrev pub invariant-loop-i : goal.invariant-loop-i
invariant-loop-i l = ((j : ℕ) → get_or l.fn.shares j 0 < 2 ^ 32) → l.a ≡ overlay l.i l.fn.shares (blank 0)
