-- `layout_put::put_sites` meets its contract. Assumes nothing.
use Prim.Native.Nat.{ℕ}
use mathlib.Core.List.{List}
use mathlib.Core.Path.{◌≡◌}
use lib.ListN.{take}
use Rattle.layout.specs.Layout.{table_over}
use Rattle.layout_put.specs.Put.{PutSites}
use Rattle.layout_put.proofs.Places.{sites-put}
use Rattle.layout_put.proofs.Widths.{sites-fit}
use Rattle.layout_put.proofs.put_sites.Goals as goal
use Rattle.layout_put.proofs.put_sites.Goals.{Start}

-- the sites are written
put : (s : Start) (last : List ℕ) → last ≡ table_over s.args.w (take s.args.n s.args.sites) s.args.out.now
    → PutSites s.args.w s.args.n s.args.sites s.args.out.now last
put s last e =
    let a = s.args in
    let g = s.well_formed.1.1.0 in
    sites-put a.w a.n a.sites a.out.now last g.1.0.1 s.requires.0 s.requires.1 (sites-fit a.w 512 a.sites _ g a.n) e

pub returns-in-2 : goal.returns-in-2
returns-in-2 c = put (goal.at.returns-in-2 c).Start _ (rw c.in-2.is c.put_by.ensures)

pub returns-in-4 : goal.returns-in-4
returns-in-4 c = put (goal.at.returns-in-4 c).Start _ (rw c.in-4.is c.put_by-in-4.ensures)

pub returns-in_default : goal.returns-in_default
returns-in_default c = put (goal.at.returns-in_default c).Start _ c.put_by-in_default.ensures
