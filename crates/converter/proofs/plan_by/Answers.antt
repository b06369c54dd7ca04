-- `converter::plan_by` meets its contract. Assumes nothing.
use Rattle.std.proofs.lemmas.Result.{err_from_is_err_and}
use Rattle.converter.proofs.Found.{both-refuses, few, in-range, plan-refuses, few-groups, both-done}
use Rattle.converter.proofs.plan_by.Goals as goal

pub returns-in_err-sites : goal.returns-in_err-sites
returns-in_err-sites c =
    let a = c.args in
    let p = err_from_is_err_and c.from_residual.result c.from_residual.ensures.1 in
    rw (p.1, p.2) (both-refuses a.w a.list.now c.in_err-sites.ensures a.plan.now a.out.now a.other.now)

pub plan_for-requires : goal.plan_for-requires
plan_for-requires c =
    let a = c.args in
    let read = c.in_ok-sites.ensures in
    (c.requires.1, few a.w a.list.now read, in-range a.w a.list.now read)

pub returns-in_err-judged : goal.returns-in_err-judged
returns-in_err-judged c =
    let a = c.args in
    let p = err_from_is_err_and c.from_residual-in_err-judged.result c.from_residual-in_err-judged.ensures.1 in
    rw (p.1, p.2) (plan-refuses a.w a.list.now c.in_ok-sites.ensures a.plan.now a.out.now a.other.now c.in_err-judged.ensures)

pub both-requires : goal.both-requires
both-requires c =
    let a = c.args in
    let read = c.in_ok-sites.ensures in (
      c.requires.2,
      c.requires.3,
      few a.w a.list.now read,
      few-groups a.w a.list.now read a.plan.now a.out.now a.other.now c.in_ok-judged.ensures (λ i. (c.type_inv.plan i).fits),
    )

pub returns : goal.returns
returns c =
    let a = c.args in
    both-done a.w a.list.now c.in_ok-sites.ensures a.plan.now a.out.now a.other.now c.in_ok-judged.ensures
    (λ i. (c.type_inv.plan i).fits) c.both.ensures
