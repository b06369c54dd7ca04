-- The loads raised, and the part of a site that a test leaves. Assumes nothing.
use mathlib.Core.Bool.{Bool}
use mathlib.Core.List.{List}
use mathlib.Core.Path.{◌≡◌}
use Prim.Native.Nat.{◌+◌, ◌<◌, ◌≤◌, ℕ}
use native.Mathlib.Omega.{arith}
use lib.ListN.{length}
use Rattle.sets.specs.Sum.{when}
use Rattle.sets.proofs.Sum.{sum-term}
use Rattle.sets.proofs.Test.{when-≤}
use Rattle.residual.specs.Array.{at, total_load}
use Rattle.residual.proofs.Laws.{sum-set}
use Rattle.lay_on.specs.Raise.{raise}

-- one depot has no more than all
pub one : (load : List ℕ) (i : ℕ) → i < 64 → at load i ≤ total_load load
one load i h = sum-term (at load) i 64 h

pub raise-total : (load : List ℕ) (i m : ℕ) → length load ≡ 64 → i < 64 → total_load (raise load i m) ≡ total_load load + m
raise-total load i m e h = omega (arith, sum-set (λ d x. x) load i (at load i + m) 64 (omega arith) h)

-- what a test leaves of t
pub part-most : (b : Bool) (t : ℕ) {f : ℕ} → f ≡ when b t → f ≤ t
part-most b t e = rw e (when-≤ b t)
