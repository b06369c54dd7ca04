use Prim.Native.Nat.{◌^◌}
use Rattle.tables.proofs.Totals.{Summed, carried}
use Rattle.tables.proofs.litres.Given as goal

abbrev pub invariant-loop-s : goal.invariant-loop-s
invariant-loop-s l = Summed (λ _. 0) (carried l.fn.list.sites l.places) (2 ^ 32) l.r l.s-index
