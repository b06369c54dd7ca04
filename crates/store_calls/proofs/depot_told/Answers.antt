-- `store_calls::depot_told` meets its contract. Assumes nothing.
use mathlib.Core.Path.{sym, ◌∙◌}
use borrow.Author.Tests.{not-true, not-false}
use Rattle.sets.proofs.Test.{passes}
use Rattle.store_calls.proofs.Questions.{kept-has}
use Rattle.store_calls.proofs.depot_told.Goals as goal
use Rattle.store_calls.proofs.depot_told.Goals.{After-contains, Start}

pub returns-then-not-contains : goal.returns-then-not-contains
returns-then-not-contains c = λ list plan ws k.
    let s = (goal.at.returns-then-not-contains c).Start in
    sym (rw (sym (kept-has k s.args.d) ∙ sym c.contains.ensures ∙ not-true _ c.if-not-contains.true-raw))

pub figures_of-x-requires : goal.figures_of-x-requires
figures_of-x-requires c =
    let s = (goal.at.figures_of-x-requires c).Start in
    (s.requires, passes _ (sym c.contains.ensures ∙ not-false _ c.if-not-contains.false-raw))

pub returns : goal.returns
returns c = λ list plan ws k.
    let asked = (goal.at.returns c).After-contains in
    let s = (goal.at.After-contains asked).Start in
    let f = c.figures_of-x.ensures.0 list plan ws k in
    sym (rw (sym (kept-has k s.args.d) ∙ sym asked.contains.ensures ∙ not-false _ c.if-not-contains.false-raw, f.0, f.1))
