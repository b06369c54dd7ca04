-- `writers_numbers::put_two` meets its contract. Assumes nothing.
use native.Mathlib.Omega.{arith}
use lib.ListN.{length-set}
use Rattle.writers_numbers.proofs.Halves.{two_bytes}
use Rattle.writers_numbers.proofs.put_two.Goals as goal

pub bounds-out-at-2 : goal.bounds-out-at-2
bounds-out-at-2 c = rw length-set (omega (arith, c.requires))

pub returns : goal.returns
returns c = two_bytes c.args.at c.args.x c.args.out.now c.requires
