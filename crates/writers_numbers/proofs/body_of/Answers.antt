-- `writers_numbers::body_of` meets its contract. Assumes nothing.
use native.Mathlib.Omega.{arith}
use Rattle.writers_numbers.proofs.Halves.{body_bytes}
use Rattle.writers_numbers.proofs.body_of.Goals as goal

pub returns : goal.returns
returns c =
    let x = c.args.x in
    body_bytes x.first x.second x.litres _ (omega arith) (omega arith) (rw (c.from.ensures, c.from-2.ensures, c.from-3.ensures))
