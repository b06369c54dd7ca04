-- `edition1::widen_shares` meets its contract. Assumes nothing.
use Rattle.std.proofs.Common.{arith, sym, subst, ◌≡◌, ◌∙◌, ◌<◌, ◌^◌, ℕ, List, length}
use lib.ListN.{get_or}
use Rattle.table.specs.Table.{blank}
use Rattle.table.proofs.Overlay.{blank-is, overlay-none}
use Rattle.table.proofs.Turns.{filled_next, filled-all}
use Rattle.edition1.proofs.Edition1Widths.{shares-fit}
use Rattle.edition1.proofs.widen_shares.Goals as goal

pub loop-i-init : goal.loop-i-init
loop-i-init c = sym (blank-is 0) ∙ sym (overlay-none c.args.shares (blank 0))

pub loop-i-preserved : goal.loop-i-preserved
loop-i-preserved c =
    let l = c.args.shares in
    let n : length l ≡ 512 = c.well_formed.0.1.0.1 in
    rw c.loop-i.invariant (filled_next 0 l c.loop-i.i c.from.result (omega arith) (omega (arith, n)) c.from.ensures)

pub returns : goal.returns
returns c =
    let l = c.args.shares in
    let n : length l ≡ 512 = c.well_formed.0.1.0.1 in
    let e : c.loop-i.a ≡ l = c.loop-i.invariant ∙ filled-all 0 l c.loop-i.i (omega (arith, n)) n in
    (e, subst (λ (r : List ℕ). (i : ℕ) → get_or r i 0 < 2 ^ 32) (sym e) (shares-fit 512 l _ c.well_formed.0))
