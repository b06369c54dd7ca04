-- `table::held` meets its contract. Assumes nothing.
use Rattle.std.proofs.Common.{arith, sym, ◌∙◌}
use Rattle.table.specs.Table.{blank}
use Rattle.table.proofs.Overlay.{blank-is, overlay-none}
use Rattle.table.proofs.Turns.{filled_next}
use Rattle.table.proofs.held.Goals as goal

pub loop-i-init : goal.loop-i-init
loop-i-init g c = sym (blank-is c.args.blank) ∙ sym (overlay-none c.args.table.now (blank c.args.blank))

pub loop-i-preserved : goal.loop-i-preserved
loop-i-preserved g c =
    rw c.loop-i.invariant (filled_next c.args.blank c.args.table.now c.loop-i.i c.site_at.result (omega arith) (omega arith) (c.site_at.ensures c.args.blank))
