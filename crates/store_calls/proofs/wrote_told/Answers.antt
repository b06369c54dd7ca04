-- `store_calls::wrote_told` meets its contract. Assumes nothing.
use mathlib.Core.Path.{sym, ap}
use Rattle.std.proofs.lemmas.Result.{err_from_is_err_and}
use Rattle.store_calls.specs.Told.{wrote_told}
use Rattle.store_calls.proofs.wrote_told.Goals as goal

pub returns-in_err-w : goal.returns-in_err-w
returns-in_err-w c =
    let p = err_from_is_err_and c.from_residual.result c.from_residual.ensures.1 in
    rw (p.1, p.2) (sym (ap wrote_told c.in_err-w.was))

pub returns : goal.returns
returns c = sym (ap wrote_told c.in_ok-w.was)
