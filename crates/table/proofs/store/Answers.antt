-- `table::store` meets its contract. Assumes nothing.
use Rattle.std.proofs.Common.{arith, sym}
use Rattle.table.proofs.Overlay.{between_none, between_next}
use Rattle.table.proofs.store.Goals as goal

pub loop-i-init : goal.loop-i-init
loop-i-init g c = sym (between_none c.args.from c.args.sites c.args.table.now (omega arith))

pub loop-i-preserved : goal.loop-i-preserved
loop-i-preserved g c =
    rw (c.put_site.ensures, c.loop-i.invariant) (between_next c.args.sites c.args.table.now c.args.from c.loop-i.i c.index-sites-i.result (omega arith) (omega arith) (omega arith))
