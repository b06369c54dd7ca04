-- `serve::load` meets its contract. Assumes nothing.
use mathlib.Core.Path.{ap, ◌∙◌}
use Rattle.std.specs.declared.result.Result.TheVariants.{Ok}
use Rattle.records.specs.declared.ListArray.{ListArray}
use Rattle.records.specs.Format.{read_list}
use Rattle.records.proofs.Answers.{list-passed, list-refused}
use Rattle.store.specs.declared.Answer.TheVariants as of
use Rattle.store.specs.declared.Decision.{Decision}
use Rattle.store.specs.State.{bare}
use Rattle.serve.proofs.ServeRules.{load-refused, load_read}
use Rattle.serve.proofs.load.Goals as goal

-- what is decided of a list that was read
abbrev decision : ListArray → Decision
decision y = record { answer = Ok of.Done; store = bare y.count y.roll; sites = y.sites; n = y.count }

pub returns-in-Ok : goal.returns-in-Ok
returns-in-Ok c = λ buffer.
    let a = c.args in
    let l = list-passed (read_list a.e a.places a.input.now) c.in-Ok.ensures in
    load_read a.store a.sites a.places a.e a.input.now buffer _ l.0 l.1 (c.without_plan.ensures ∙ ap decision l.2)

pub returns-in-Err : goal.returns-in-Err
returns-in-Err c = λ buffer.
    let a = c.args in
    load-refused a.store a.sites a.places a.e a.input.now buffer _ _ (list-refused (read_list a.e a.places a.input.now) c.in-Err.ensures) c.refuse.ensures
