-- `writers_numbers::put_six` meets its contract. Assumes nothing.
use native.Mathlib.Omega.{arith}
use Rattle.writers_numbers.proofs.Halves.{by-halves}
use Rattle.writers_numbers.proofs.put_six.Goals as goal
use Rattle.writers_numbers.proofs.put_six.Goals.{After-put_four, After-put_two, After-slice_known-2-1, Start}

pub returns : goal.returns
returns c =
    let high = (goal.at.returns c).After-put_two in
    let low = (goal.at.After-put_two high).After-put_four in
    let s = (goal.at.After-put_four low).Start in
    by-halves 4 2 s.args.at s.args.x s.args.out.now (omega (arith, s.requires)) low.put_four.ensures high.put_two.ensures
