-- `edition1::narrow_shares` meets its contract. Assumes nothing.
use Rattle.std.proofs.Common.{arith, sym, ◌≡◌, ◌∙◌, length}
use native.Mathlib.Nat.{mod-eq_of_lt}
use Rattle.table.specs.Table.{blank}
use Rattle.table.proofs.Overlay.{blank-is, overlay-none}
use Rattle.table.proofs.Turns.{filled_next, filled-all}
use Rattle.edition1.proofs.narrow_shares.Goals as goal

pub loop-i-init : goal.loop-i-init
loop-i-init c = λ fit. sym (blank-is 0) ∙ sym (overlay-none c.args.shares (blank 0))

pub loop-i-preserved : goal.loop-i-preserved
loop-i-preserved c = λ fit.
    let l = c.args.shares in
    let i = c.loop-i.i in
    let n : length l ≡ 512 = c.well_formed.0.1.0.1 in
    rw (c.loop-i.invariant fit) (filled_next 0 l i _ (omega arith) (omega (arith, n)) (mod-eq_of_lt (fit i)))

pub returns : goal.returns
returns c = λ fit.
    let l = c.args.shares in
    let n : length l ≡ 512 = c.well_formed.0.1.0.1 in
    c.loop-i.invariant fit ∙ filled-all 0 l c.loop-i.i (omega (arith, n)) n
