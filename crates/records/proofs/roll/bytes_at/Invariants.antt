use Prim.Native.Nat.{ℕ, ◌-◌, ◌≤◌}
use mathlib.Core.Path.{◌≡◌}
use mathlib.Core.List.{List, ◌++◌}
use lib.ListN.{take, drop, replicate}
use Rattle.records.proofs.roll.bytes_at.Given as goal

-- the first d of 64 places hold the bytes from a place of s on
abbrev pub Copied : List ℕ → ℕ → ℕ → List ℕ → Type 0
Copied s at d crews = crews ≡ take d (drop at s) ++ replicate (64 - d) 0

abbrev pub invariant-loop-d : goal.invariant-loop-d
invariant-loop-d l = (l.d ≤ 64) × Copied l.s l.at l.d l.crews

abbrev pub decreases-loop-d : goal.decreases-loop-d
decreases-loop-d l = 64 - l.d
