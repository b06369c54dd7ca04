-- `serve::propose` meets its contract. Assumes nothing.
use mathlib.Core.Path.{◌≡◌, refl, ap, ◌∙◌, subst}
use lib.ListN.{length}
use Rattle.records.specs.declared.PlanArray.{PlanArray}
use Rattle.records.specs.Values.{listing}
use Rattle.records.proofs.Answers.{plan-passed, plan-refused}
use Rattle.judge.specs.Check.{judged_for}
use Rattle.store.specs.Decide.{takes}
use Rattle.serve.proofs.ServeRules.{list, Zero, zero-served, few, in-range, propose-refused, propose-passed}
use borrow.Author.Rules.{rules}
use Rattle.serve.proofs.propose.Goals as goal

pub returns-then-row_zero : goal.returns-then-row_zero
returns-then-row_zero c = λ buffer.
    let a = c.args in
    zero-served a.store a.sites a.places a.e a.input.now buffer _ _ refl (subst (Zero a.store a.sites a.places) c.if-row_zero.true c.row_zero.ensures) c.refuse.ensures

pub plan_for-requires : goal.plan_for-requires
plan_for-requires c =
    let a = c.args in
    let wide : length a.sites ≡ 512 = search rules in
    let zero = subst (Zero a.store a.sites a.places) c.if-row_zero.false c.row_zero.ensures in
    (c.requires, few a.store a.sites a.places wide zero, in-range a.store a.sites a.places wide zero)

pub returns-in-Err : goal.returns-in-Err
returns-in-Err c = λ buffer.
    let a = c.args in
    let wide : length a.sites ≡ 512 = search rules in
    let zero = subst (Zero a.store a.sites a.places) c.if-row_zero.false c.row_zero.ensures in
    propose-refused a.store a.sites a.places a.e a.input.now buffer _ wide zero _
    (plan-refused (judged_for a.e (listing (list a.store a.sites a.places)) a.input.now) c.in-Err.ensures) c.refuse-in-Err.ensures

pub returns-in-Ok : goal.returns-in-Ok
returns-in-Ok c = λ buffer.
    let a = c.args in
    let wide : length a.sites ≡ 512 = search rules in
    let zero = subst (Zero a.store a.sites a.places) c.if-row_zero.false c.row_zero.ensures in
    let l = plan-passed (judged_for a.e (listing (list a.store a.sites a.places)) a.input.now) c.in-Ok.ensures in
    propose-passed a.store a.sites a.places a.e a.input.now buffer _ wide zero l.0 l.1
    (c.with_plan.ensures ∙ ap (λ (x : PlanArray). takes a.store x a.sites) l.2)
