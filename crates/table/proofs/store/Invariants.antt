-- After the places up to i the table has the sites there, and its other places keep their content. Assumes nothing.
use Rattle.std.proofs.Common.{◌≡◌}
use Rattle.table.specs.Table.{between}
use Rattle.table.proofs.store.Given as goal

abbrev pub invariant-loop-i : goal.invariant-loop-i
invariant-loop-i g l = l.table ≡ between l.from l.i l.sites l.fn.table
