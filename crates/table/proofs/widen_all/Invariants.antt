-- After i turns the first i sites stand wide over blank places. Assumes nothing.
use Rattle.std.proofs.Common.{◌≡◌, map}
use Rattle.density.specs.Network.{no_site}
use Rattle.table.specs.Table.{overlay, blank}
use Rattle.table.specs.Widths.{widened}
use Rattle.table.proofs.widen_all.Given as goal

abbrev pub invariant-loop-i : goal.invariant-loop-i
invariant-loop-i l = l.a ≡ overlay l.i (map widened l.fn.sites) (blank no_site)
