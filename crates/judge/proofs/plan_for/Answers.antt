-- `judge::plan_for` meets its contract. Assumes nothing.
use mathlib.Core.Path.{◌≡◌, sym, ap, ◌∙◌}
use borrow.Author.Rules.{rules}
use lib.ListN.{length}
use Rattle.std.proofs.lemmas.Result.{err_from_is_err_and}
use Rattle.records.specs.Values.{Plan}
use Rattle.records.specs.Outcome.{passed}
use Rattle.records.specs.Answer.{plan_read, plan_array}
use Rattle.records.specs.Format.{read_plan}
use Rattle.records.proofs.Answers.{plan-passed as laid-out, plan-refused as layout-was}
use Rattle.judge.proofs.PlanFor.{layout-refused, plan-few, plan-refused, plan-passed}
use Rattle.judge.proofs.plan_for.Goals as goal
use Rattle.judge.proofs.plan_for.Goals.{In_ok-laid, Start}

wide : (s : Start) → length s.args.list.sites ≡ 512
wide s = search rules

-- the plan that was read
laid : (p : In_ok-laid) → let s = (goal.at.In_ok-laid p).Start in
    (x : Plan) × (read_plan s.args.e s.args.list.count s.args.plan.now ≡ passed x) × (p.in_ok-laid.laid ≡ plan_array x)
laid p =
    let s = (goal.at.In_ok-laid p).Start in
    laid-out (read_plan s.args.e s.args.list.count s.args.plan.now) p.in_ok-laid.ensures

pub read-requires : goal.read-requires
read-requires c = let s = (goal.at.read-requires c).Start in (s.requires.0, s.requires.1)

pub returns-in_err-laid : goal.returns-in_err-laid
returns-in_err-laid c =
    let s = (goal.at.returns-in_err-laid c).Start in
    let p = err_from_is_err_and c.from_residual.result c.from_residual.ensures.1 in
    rw (p.1, p.2)
    (sym (ap plan_read (layout-refused s.args.e s.args.list s.args.plan.now s.requires.1 (wide s) _ (layout-was (read_plan s.args.e s.args.list.count s.args.plan.now) c.in_err-laid.ensures))))

pub plan_row-requires : goal.plan_row-requires
plan_row-requires c =
    let p = (goal.at.plan_row-requires c).In_ok-laid in
    let s = (goal.at.In_ok-laid p).Start in
    let l = laid p in
    record {
      sites = s.requires.1;
      groups = plan-few s.args.e s.args.list s.args.plan.now s.requires.1 (wide s) l.0 l.1 _ l.2;
      range = s.requires.2;
    }

pub returns-in_err-plan_row : goal.returns-in_err-plan_row
returns-in_err-plan_row c =
    let l = (goal.at.returns-in_err-plan_row c).In_ok-laid in
    let s = (goal.at.In_ok-laid l).Start in
    let x = laid l in
    let p = err_from_is_err_and c.from_residual-in_err-plan_row.result c.from_residual-in_err-plan_row.ensures.1 in
    rw (p.1, p.2)
    (sym (ap plan_read (plan-refused s.args.e s.args.list s.args.plan.now s.requires.1 (wide s) x.0 x.1 _ x.2 _ (sym c.in_err-plan_row.ensures))))

pub returns : goal.returns
returns c =
    let l = (goal.at.returns c).In_ok-laid in
    let s = (goal.at.In_ok-laid l).Start in
    let x = laid l in
    ap passed x.2 ∙ sym (ap plan_read (plan-passed s.args.e s.args.list s.args.plan.now s.requires.1 (wide s) x.0 x.1 _ x.2 (sym c.in_ok-plan_row.ensures)))
