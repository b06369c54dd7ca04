-- `writers_numbers::put_four` meets its contract. Assumes nothing.
use native.Mathlib.Omega.{arith}
use Rattle.writers_numbers.proofs.Halves.{by-halves}
use Rattle.writers_numbers.proofs.put_four.Goals as goal
use Rattle.writers_numbers.proofs.put_four.Goals.{After-put_two, After-put_two-2, After-slice_known-2-1, Start}

pub returns : goal.returns
returns c =
    let high = (goal.at.returns c).After-put_two-2 in
    let low = (goal.at.After-put_two-2 high).After-put_two in
    let s = (goal.at.After-put_two low).Start in
    by-halves 2 2 s.args.at s.args.x s.args.out.now (omega (arith, s.requires)) low.put_two.ensures high.put_two-2.ensures
