-- `maker::make_by` meets its contract. Assumes nothing.
use Rattle.std.proofs.lemmas.Result.{err_from_is_err_and}
use Rattle.maker.specs.Planned.{Planned}
use Rattle.maker.proofs.Made.{in-range, made, refusal-made}
use Rattle.maker.proofs.make_by.Goals as goal

pub returns-in_err-sites : goal.returns-in_err-sites
returns-in_err-sites c =
    let p = err_from_is_err_and c.from_residual.result c.from_residual.ensures.1 in
    rw (p.1, p.2) (refusal-made c.args.e c.args.list.now _ c.args.out.now c.in_err-sites.ensures)

pub make_plan-plan-requires : goal.make_plan-plan-requires
make_plan-plan-requires c = in-range c.args.e c.args.list.now c.in_ok-sites.sites c.in_ok-sites.ensures

pub plan-requires : goal.plan-requires
plan-requires c =
    let plan : Planned _ _ = c.make_plan-plan.ensures in
    (c.requires.1, plan.few, (in-range c.args.e c.args.list.now c.in_ok-sites.sites c.in_ok-sites.ensures).0)

pub returns : goal.returns
returns c =
    let a = c.args in
    made a.e a.list.now c.in_ok-sites.sites c.in_ok-sites.ensures c.make_plan-plan.result a.out.now _ _ c.requires.2 (λ i. (c.type_inv.list i).fits) c.make_plan-plan.ensures c.plan.ensures
