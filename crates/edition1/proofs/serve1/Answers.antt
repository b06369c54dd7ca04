-- `edition1::serve1` meets its contract. Assumes nothing.
use mathlib.Core.Path.{sym, subst}
use lib.Dec.{lit≤}
use Rattle.store.specs.Widths.{Fitting}
use Rattle.edition1.proofs.Edition1Widths.{widened-serves}
use Rattle.edition1.proofs.serve1.Goals as goal

pub serve-d-requires : goal.serve-d-requires
serve-d-requires c = subst Fitting (sym c.edition1.ensures) (lit≤ tt, lit≤ tt)

pub returns : goal.returns
returns c =
    let a = c.args in
    widened-serves a.store a.sites a.places a.request a.input.now a.buffer.now _ c.edition1.ensures c.from-wide.ensures
    c.widen_all-all.ensures c.from-asked.ensures c.serve-d.ensures c.narrow_store.ensures
    c.narrow_first-sites.ensures
