-- `judge::check_by` meets its contract. Assumes nothing.
use mathlib.Core.Path.{sym}
use mathlib.Core.List.{[]}
use borrow.Author.Rules.{rules}
use Rattle.std.proofs.lemmas.Result.{err_from_is_err_and}
use Rattle.judge.proofs.Judged.{list-refuses, few-sites, in-range, plan-refuses, plan-passes}
use Rattle.judge.proofs.check_by.Goals as goal

pub returns-in_default : goal.returns-in_default
returns-in_default c = sym (list-refuses _ _ _ (rw c.unwrap_err.ensures at c.read-listed.ensures))

pub plan_for-requires : goal.plan_for-requires
plan_for-requires c = (search rules, few-sites _ _ [] c.in-Ok.ensures, in-range _ _ [] c.in-Ok.ensures)

pub returns-in_err-plan_for : goal.returns-in_err-plan_for
returns-in_err-plan_for c =
    let p = err_from_is_err_and c.from_residual.result c.from_residual.ensures.1 in
    rw (p.1, p.2) (sym (plan-refuses _ _ _ c.in-Ok.ensures c.in_err-plan_for.ensures))

pub returns : goal.returns
returns c = sym (plan-passes _ _ _ c.in-Ok.ensures c.in_ok-plan_for.ensures)
