-- `converter::list_by` meets its contract. Assumes nothing.
use Rattle.std.proofs.lemmas.Result.{err_from_is_err_and}
use Rattle.converter.proofs.Found.{list-refuses, few, list_done}
use Rattle.converter.proofs.list_by.Goals as goal

pub returns-in_err-sites : goal.returns-in_err-sites
returns-in_err-sites c =
    let p = err_from_is_err_and c.from_residual.result c.from_residual.ensures.1 in
    rw (p.1, p.2) (list-refuses c.args.w c.args.list.now c.in_err-sites.ensures c.args.out.now)

pub list-requires : goal.list-requires
list-requires c = (c.requires.1, few c.args.w c.args.list.now c.in_ok-sites.ensures)

pub returns : goal.returns
returns c = list_done c.args.w c.args.list.now c.in_ok-sites.ensures c.args.out.now c.list.ensures
