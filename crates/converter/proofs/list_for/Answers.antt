-- `converter::list_for` meets its contract. Assumes nothing.
use mathlib.Core.Path.{refl}
use Rattle.std.proofs.lemmas.Result.{err_from_is_err_and}
use Rattle.converter.proofs.Found.{not-read, few-read, is-taken, row-21}
use Rattle.converter.proofs.list_for.Goals as goal
use Rattle.converter.proofs.list_for.Goals.{else-w-via-then-w+else-is_unfit, else-w-via-else-w}

pub returns-in_err-sites : goal.returns-in_err-sites
returns-in_err-sites c =
    let p = err_from_is_err_and c.from_residual.result c.from_residual.ensures.1 in
    rw (p.1, p.2) (not-read c.args.w c.args.list.now c.in_err-sites.ensures)

pub is_unfit-requires : goal.is_unfit-requires
is_unfit-requires c = few-read c.args.w c.args.list.now c.in_ok-sites.ensures

pub returns-then-is_unfit : goal.returns-then-is_unfit
returns-then-is_unfit c = row-21 c.args.w c.args.list.now c.in_ok-sites.ensures (rw (c.if-w.true, ← c.is_unfit.ensures) c.if-is_unfit.true)

pub returns : goal.returns
returns c =
    is-taken c.args.w c.args.list.now c.in_ok-sites.ensures
    (elim c.else-w.branch [
      | else-w-via-then-w+else-is_unfit w ↦ rw (w.if-w.true, ← w.is_unfit.ensures) w.if-is_unfit.false
      | else-w-via-else-w w ↦ rw w.if-w.false refl
    ])
