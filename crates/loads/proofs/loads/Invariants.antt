use Prim.Native.Nat.{◌^◌}
use lib.ListN.{get_or}
use Rattle.tables.specs.Tables.{part_of}
use Rattle.tables.proofs.Totals.{Summed}
use Rattle.loads.proofs.loads.Given as goal

abbrev pub invariant-loop-i : goal.invariant-loop-i
invariant-loop-i l = Summed (λ k. get_or l.fn.from k 0) (part_of l.fn.list l.shares l.wholes) (2 ^ 42) l.from l.i
