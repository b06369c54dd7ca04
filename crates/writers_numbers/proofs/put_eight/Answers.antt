-- `writers_numbers::put_eight` meets its contract. Assumes nothing.
use native.Mathlib.Omega.{arith}
use Rattle.writers_numbers.proofs.Halves.{by-halves}
use Rattle.writers_numbers.proofs.put_eight.Goals as goal
use Rattle.writers_numbers.proofs.put_eight.Goals.{After-put_four, After-put_four-2, After-slice_known-2-1, Start}

pub returns : goal.returns
returns c =
    let high = (goal.at.returns c).After-put_four-2 in
    let low = (goal.at.After-put_four-2 high).After-put_four in
    let s = (goal.at.After-put_four low).Start in
    by-halves 4 4 s.args.at s.args.x s.args.out.now (omega (arith, s.requires)) low.put_four.ensures high.put_four-2.ensures
