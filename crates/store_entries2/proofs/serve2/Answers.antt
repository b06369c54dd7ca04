-- `store_entries2::serve2` meets its contract. Assumes nothing.
use mathlib.Core.Path.{sym, subst}
use lib.Dec.{lit≤}
use Rattle.store.specs.Widths.{Fitting}
use Rattle.store_entries2.proofs.Named2.{named2}
use Rattle.store_entries2.proofs.serve2.Goals as goal

pub serve-requires : goal.serve-requires
serve-requires c = subst Fitting (sym c.edition2.ensures) (lit≤ tt, lit≤ tt)

pub returns : goal.returns
returns c =
    let served = rw c.edition2.ensures at c.serve.ensures in
    ((served.0, named2 c.args.request _ c.well_formed.1.1.1.0), served.1)
