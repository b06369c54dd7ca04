use Rattle.std.proofs.Common.{◌≤◌, ◌-◌, length, drop}
use Rattle.records.specs.Bytes.{Value}
use Rattle.records.proofs.number.value.Given as goal

-- the bytes passed are the last ones
abbrev pub invariant-loop-b : goal.invariant-loop-b
invariant-loop-b l = (length l.yielded ≤ length l.s) × Value (drop (length l.s - length l.yielded) l.s) l.v
