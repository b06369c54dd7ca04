-- What the splitting loop keeps. Assumes nothing.
use mathlib.Core.Path.{◌≡◌}
use mathlib.Core.List.{List}
use Prim.Native.Nat.{ℕ, suc, ◌+◌, ◌≤◌, ◌<◌, ◌^◌}
use lib.ListN.{length}
use Rattle.sets.specs.Set.{◌⊆◌, has, cardinality}
use Rattle.density.specs.Network.{Network, Valid}
use Rattle.density.proofs.Split.{Threshold}
use Rattle.residual.specs.Array.{at}
use Rattle.attempt.specs.Arrays.{Holds, Shares}
use Rattle.attempt.proofs.Built.{shares_of, Built}

-- Nested sets, from the listed depots at 0 to the smallest at top, all larger than b, with a threshold between neighbours.
pub record Stacked (N : Network) (listed : ℕ) (stack : List ℕ) (top b : ℕ) : Type 0 where
  pub wide : length stack ≡ 64
  pub low : top < 64
  pub base : at stack 0 ≡ listed
  pub old : b < 2 ^ 64
  pub bits : (k : ℕ) → k ≤ top → at stack k < 2 ^ 64
  pub within : (k : ℕ) → k ≤ top → has (at stack k) ⊆ has listed
  pub room : (k : ℕ) → k ≤ top → cardinality (has (at stack k)) 64 + k ≤ 64
  pub nested : (k : ℕ) → k < top → has (at stack (suc k)) ⊆ has (at stack k)
  pub strict : (k : ℕ) → k < top → cardinality (has (at stack (suc k))) 64 < cardinality (has (at stack k)) 64
  pub cuts : (k : ℕ) → k < top → Threshold N (has (at stack k)) (has (at stack (suc k))) (has b)
  pub under : has b ⊆ has (at stack top)
  pub proper : 0 < top → b ≡ at stack top → ⊥

-- The first n groups are finished, their union is b, and the stack is above b.
pub record Making (N : Network) (ends : List ℕ) (listed : ℕ) (stack share groups : List ℕ) (top n b : ℕ) : Type 0 where
  pub shares : Shares ends share
  pub stacked : Stacked N listed stack top b
  pub places : length groups ≡ 64
  pub few : n ≤ cardinality (has b) 64
  pub beyond : (k : ℕ) → n ≤ k → at groups k ≡ 0
  pub sets : (k : ℕ) → k < n → at groups k < 2 ^ 64
  pub built : Built N (shares_of share) groups n b (at stack top)

-- The loop's invariant, for every network that the arrays hold.
abbrev pub Loop : List ℕ → List ℕ → List ℕ → ℕ → List ℕ → List ℕ → List ℕ → ℕ → ℕ → ℕ → Type 0
Loop ends litres crews listed stack share groups top n b = (N : Network) → Valid N → Holds N ends litres crews listed → Making N ends listed stack share groups top n b
