-- `records::number::four` meets its contract. Assumes nothing.
use native.Mathlib.Omega.{arith}
use lib.ListN.{length-take}
use Rattle.records.proofs.Bytes.{value-below, value-join}
use Rattle.records.proofs.number.four.Goals as goal

pub overflow_mul-result : goal.overflow_mul-result
overflow_mul-result c = omega (arith, value-below 2 (rw length-take (omega arith)) c.two-2.ensures)

pub overflow_add-result : goal.overflow_add-result
overflow_add-result c = omega (arith, value-below 2 (rw length-take (omega arith)) c.two.ensures, value-below 2 (rw length-take (omega arith)) c.two-2.ensures)

pub returns : goal.returns
returns c =
    let a = c.args in
    value-join 2 2 a.s.now a.at (omega (arith, c.requires)) c.two.ensures c.two-2.ensures
    (omega (arith, value-below 2 (rw length-take (omega arith)) c.two.ensures, value-below 2 (rw length-take (omega arith)) c.two-2.ensures))
