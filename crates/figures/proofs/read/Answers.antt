-- `figures::read` meets its contract. Assumes nothing.
use mathlib.Core.Path.{ap, ◌∙◌}
use Rattle.std.proofs.lemmas.Result.{err_from_is_err_and}
use Rattle.records.specs.Outcome.{passed}
use Rattle.maker.proofs.Made.{in-range}
use Rattle.figures.proofs.read.Goals as goal

pub returns-in_err-list : goal.returns-in_err-list
returns-in_err-list c =
    let p = err_from_is_err_and c.from_residual.result c.from_residual.ensures.1 in
    rw (p.1, p.2) c.in_err-list.ensures

pub of_list-requires : goal.of_list-requires
of_list-requires c = in-range c.args.e c.args.input.now c.in_ok-list.list c.in_ok-list.ensures

pub returns : goal.returns
returns c = (ap passed c.of_list.ensures.0 ∙ c.in_ok-list.ensures, c.of_list.ensures.1)
