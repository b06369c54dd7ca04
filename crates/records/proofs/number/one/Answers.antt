-- `records::number::one` meets its contract. Assumes nothing.
use native.Mathlib.Omega.{arith}
use Rattle.records.proofs.Bytes.{value-one}
use Rattle.records.proofs.number.one.Goals as goal

pub overflow_cast-result : goal.overflow_cast-result
overflow_cast-result c = omega (arith, c.shared_slice_known-1.given c.args.at)

pub returns : goal.returns
returns c = value-one c.args.s.now c.args.at (omega (arith, c.requires)) (omega (arith, c.shared_slice_known-1.given c.args.at))
