-- `engine::sulgheti_downgrade_plan` meets its contract. Assumes nothing.
use mathlib.Core.Path.{◌∙◌}
use Rattle.converter.specs.Convert.{downgrade}
use Rattle.signed.proofs.Signed.{read_back}
use Rattle.engine.proofs.Answers.{plan-fits, both_code_lem}
use Rattle.engine.proofs.sulgheti_downgrade_plan.Goals as goal

pub both_code-requires : goal.both_code-requires
both_code-requires c =
    let a = c.args in
    plan-fits downgrade a.list.now a.plan.now a.out.now a.other.now _ _ c.well_formed.1.1.0.1 c.downgrade_plan.ensures

pub returns : goal.returns
returns c =
    let a = c.args in
    let told = c.both_code.ensures in
    both_code_lem downgrade a.list.now a.plan.now a.out.now a.other.now c.downgrade_plan.ensures (read_back c.both_code.type_inv ∙ told.0) told.1
