-- `serve::change` meets its contract. Assumes nothing.
use mathlib.Core.Path.{◌≡◌, refl, subst}
use native.Mathlib.Omega.{arith}
use Prim.Native.Nat.{◌<◌}
use lib.ListN.{length}
use Rattle.serve.proofs.ServeRules.{Zero, zero-served, change-refused, change-held, change-made}
use borrow.Author.Rules.{rules}
use Rattle.serve.proofs.change.Goals as goal
use Rattle.serve.proofs.change.Goals.{In_default}

pub returns-then-row_zero : goal.returns-then-row_zero
returns-then-row_zero c = λ e input buffer.
    let a = c.args in
    zero-served a.store a.sites a.places e input buffer _ _ refl (subst (Zero a.store a.sites a.places) c.if-row_zero.true c.row_zero.ensures) c.refuse.ensures

pub returns-in-Err : goal.returns-in-Err
returns-in-Err c = λ e input buffer.
    let a = c.args in
    let wide : length a.sites ≡ 512 = search rules in
    let zero = subst (Zero a.store a.sites a.places) c.if-row_zero.false c.row_zero.ensures in
    let row = c.in-Err.ensures in
    change-refused a.store a.sites a.places e input buffer _ wide zero a.i a.w _ row c.refuse-in-Err.ensures

-- the site is one of the 512
held : (c : In_default) → c.args.i < 512
held c =
    let a = c.args in
    let wide : length a.sites ≡ 512 = search rules in
    let zero = subst (Zero a.store a.sites a.places) c.if-row_zero.false c.row_zero.ensures in
    let row = c.in_default.ensures in
    (change-held a.store a.sites a.places wide zero a.i a.w row).1

pub offset_bounds-next-i : goal.offset_bounds-next-i
offset_bounds-next-i c = omega (arith, held (goal.at.offset_bounds-next-i c).In_default)

pub bounds-next-i : goal.bounds-next-i
bounds-next-i c = held (goal.at.bounds-next-i c).In_default

pub returns : goal.returns
returns c = λ e input buffer.
    let a = c.args in
    let wide : length a.sites ≡ 512 = search rules in
    let zero = subst (Zero a.store a.sites a.places) c.if-row_zero.false c.row_zero.ensures in
    let row = c.in_default.ensures in
    change-made a.store a.sites a.places e input buffer _ wide zero a.i a.w row c.without_plan.ensures
