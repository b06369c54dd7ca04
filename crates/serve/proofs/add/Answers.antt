-- `serve::add` meets its contract. Assumes nothing.
use mathlib.Core.Path.{◌≡◌, refl, subst}
use native.Mathlib.Omega.{arith}
use Prim.Native.Nat.{◌<◌}
use lib.ListN.{length}
use Rattle.serve.proofs.ServeRules.{Zero, zero-served, add-refused, add-room, add-made}
use borrow.Author.Rules.{rules}
use Rattle.serve.proofs.add.Goals as goal
use Rattle.serve.proofs.add.Goals.{In_default}

pub returns-then-row_zero : goal.returns-then-row_zero
returns-then-row_zero c = λ e input buffer.
    let a = c.args in
    zero-served a.store a.sites a.places e input buffer _ _ refl (subst (Zero a.store a.sites a.places) c.if-row_zero.true c.row_zero.ensures) c.refuse.ensures

pub returns-in-Err : goal.returns-in-Err
returns-in-Err c = λ e input buffer.
    let a = c.args in
    let wide : length a.sites ≡ 512 = search rules in
    let zero = subst (Zero a.store a.sites a.places) c.if-row_zero.false c.row_zero.ensures in
    let row = c.in-Err.ensures in
    add-refused a.store a.sites a.places e input buffer _ wide zero a.x _ row c.refuse-in-Err.ensures

-- there is a place for the site behind those held
place : (c : In_default) → c.args.store.count < 512
place c =
    let a = c.args in
    let wide : length a.sites ≡ 512 = search rules in
    let zero = subst (Zero a.store a.sites a.places) c.if-row_zero.false c.row_zero.ensures in
    let row = c.in_default.ensures in
    (add-room a.store a.sites a.places wide zero a.x row).0

pub offset_bounds-next-store : goal.offset_bounds-next-store
offset_bounds-next-store c = omega (arith, place (goal.at.offset_bounds-next-store c).In_default)

pub bounds-next-store : goal.bounds-next-store
bounds-next-store c = place (goal.at.bounds-next-store c).In_default

pub overflow_add-store : goal.overflow_add-store
overflow_add-store c = omega (arith, place (goal.at.overflow_add-store c).In_default)

pub returns : goal.returns
returns c = λ e input buffer.
    let a = c.args in
    let wide : length a.sites ≡ 512 = search rules in
    let zero = subst (Zero a.store a.sites a.places) c.if-row_zero.false c.row_zero.ensures in
    let row = c.in_default.ensures in
    add-made a.store a.sites a.places e input buffer _ wide zero a.x row c.without_plan.ensures
