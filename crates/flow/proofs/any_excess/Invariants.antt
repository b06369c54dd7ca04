use Prim.Native.Nat.{ℕ, ◌≤◌, ◌<◌}
use Rattle.residual.specs.Array.{at}
use Rattle.flow.proofs.any_excess.Given as goal

abbrev pub invariant-loop-d : goal.invariant-loop-d
invariant-loop-d l = (i : ℕ) → i < l.d-index → at l.load (at l.order i) ≤ at l.target (at l.order i)
