-- `table::widen_all` meets its contract. Assumes nothing.
use Rattle.std.proofs.Common.{arith, sym, subst, ◌≡◌, ◌∙◌, length, map}
use lib.ListN.{length-map}
use Rattle.density.specs.Network.{no_site}
use Rattle.table.specs.Table.{blank}
use Rattle.table.specs.Widths.{widened, LitresFit}
use Rattle.table.proofs.Overlay.{blank-is, overlay-none}
use Rattle.table.proofs.Turns.{filled_next, filled-all}
use Rattle.table.proofs.Widths.{widened-at, widened-fits}
use Rattle.table.proofs.widen_all.Goals as goal

pub loop-i-init : goal.loop-i-init
loop-i-init c = sym (blank-is no_site) ∙ sym (overlay-none (map widened c.args.sites) (blank no_site))

pub loop-i-preserved : goal.loop-i-preserved
loop-i-preserved c =
    let l = c.args.sites in
    let i = c.loop-i.i in
    let n : length (map widened l) ≡ 512 = length-map l widened ∙ c.well_formed.0.1.0.1 in
    rw c.loop-i.invariant (filled_next no_site (map widened l) i c.from.result (omega arith) (omega (arith, n)) (c.from.ensures ∙ sym (widened-at l i)))

pub returns : goal.returns
returns c =
    let l = c.args.sites in
    let n : length (map widened l) ≡ 512 = length-map l widened ∙ c.well_formed.0.1.0.1 in
    let e : c.loop-i.a ≡ map widened l = c.loop-i.invariant ∙ filled-all no_site (map widened l) c.loop-i.i (omega (arith, n)) n in
    (e, subst LitresFit (sym e) (widened-fits 512 l _ c.well_formed.0))
