-- Rounds of searching and pushing, until no depot above its target can pass share on to one below.
use Rattle.std.specs.Prelude.{◌≡◌, Bool, true, false, List, ◌⊎◌, ℕ, ◌+◌, ◌-◌, ◌≤◌, ◌<◌, max, length}
use Rattle.residual.specs.Array.{at, total_load, total_deficit, arc_load}
use Rattle.residual.specs.Search.{reverse, Paired, Linked, Queue, Leads, Closed, Placed}
use Rattle.residual.specs.Moves.{Loaded, Moved}

-- a depot among the places start to k of the order that is above its target
pub record Excess (order target load : List ℕ) (start k : ℕ) : Type 0 where
  pub place : ℕ
  pub from : start ≤ place
  pub is : place < k
  pub over : at target (at order place) < at load (at order place)

-- the first n of order are depots
pub record Depots (order : List ℕ) (n : ℕ) : Type 0 where
  pub size : length order ≡ 64
  pub small : n ≤ 64
  pub depot : (k : ℕ) → k < n → at order k < 64

-- whether a depot of the order is above its target
abbrev pub Tested : List ℕ → List ℕ → List ℕ → ℕ → Bool → Type 0
Tested order target load n r =
    ((r ≡ true) × Excess order target load 0 n)
    ⊎ ((r ≡ false) × ((k : ℕ) → k < n → at load (at order k) ≤ at target (at order k)))

-- the outcome of a search: the first `start` of the order lack share, and each later depot leads to an earlier one
pub record Found (ends share order rank target load : List ℕ) (start n : ℕ) : Type 0 where
  pub queue : Queue n order rank
  pub begun : start ≤ n
  pub seeds : (k : ℕ) → k < start → at load (at order k) < at target (at order k)
  pub leads : (k : ℕ) → start ≤ k → k < n → Leads ends share order rank k

-- a round of pushes: less is lacking
pub record AllDischarged (ends rank target share load share' load' : List ℕ) : Type 0 where
  pub moved : Moved ends rank target share load share' load'
  pub falls : total_deficit target load' < total_deficit target load

-- no depot is in the order; which of them take part is as before
pub record Cleared (rank rank' : List ℕ) : Type 0 where
  pub size : length rank' ≡ 64
  pub each : (d : ℕ) → d < 64 → at rank' d ≡ max (at rank d) 64

-- the first n of the order are the depots that take part and lack share
pub record Seeded (target load rank : List ℕ) (n : ℕ) (order' rank' : List ℕ) : Type 0 where
  pub queue : Queue n order' rank'
  pub seeds : (k : ℕ) → k < n → at load (at order' k) < at target (at order' k)
  pub all : (d : ℕ) → d < 64 → at load d < at target d → at rank' d ≡ 64 → ⊥
  pub kept : (d : ℕ) → (at rank' d ≡ at rank d) ⊎ ((at rank d ≡ 64) × (at rank' d < 64))

-- where the rounds start: rank says which depots take part; the targets are any
pub record Start (ends chain target order rank : List ℕ) : Type 0 where
  pub paired : Paired ends
  pub linked : Linked ends chain
  pub targets : length target ≡ 64
  pub orders : length order ≡ 64
  pub ranks : length rank ≡ 64

-- a depot in the order that has a share on an arc to an earlier one
pub record Onward (ends share rank : List ℕ) (d : ℕ) : Type 0 where
  pub arc : ℕ
  pub is : arc < 1024
  pub from : at ends arc ≡ d
  pub gives : 0 < at share arc
  pub earlier : at rank (at ends (reverse arc)) < at rank d

-- what the rounds keep
pub record Preserved (ends target rank₀ share₀ load₀ rank share load : List ℕ) : Type 0 where
  pub loaded : Loaded ends share load
  pub pairs : (j : ℕ) → j < 1024 → at share j + at share (reverse j) ≡ at share₀ j + at share₀ (reverse j)
  pub outside : (j : ℕ) → j < 1024 → at ends j < 64 → 64 < at rank₀ (at ends j) → at share j ≡ at share₀ j
  pub own : (j : ℕ) → j < 1024 → at ends j ≡ at ends (reverse j) → at share j ≡ at share₀ j
  pub follows : (d : ℕ) → d < 64 → at load d + arc_load ends d share₀ ≡ at load₀ d + arc_load ends d share
  pub sum : total_load load ≡ total_load load₀
  pub size : length rank ≡ 64
  pub sides : (d : ℕ) → d < 64 → max (at rank d) 64 ≡ max (at rank₀ d) 64
  -- no depot comes to lack more
  pub lacks : (d : ℕ) → d < 64 → at target d - at load d ≤ at target d - at load₀ d

-- The n depots in the order are those that can pass share on to one below its target; none of them is above, and each other one that takes part is at its target or above.
pub record Relaxed (ends target rank₀ share₀ load₀ : List ℕ) (n : ℕ) (rank share load : List ℕ) : Type 0 where
  pub preserved : Preserved ends target rank₀ share₀ load₀ rank share load
  pub low : (d : ℕ) → d < 64 → at rank d < 64 → at load d ≤ at target d
  pub high : (d : ℕ) → d < 64 → at rank₀ d ≤ 64 → at load d < at target d → at rank d < 64
  pub closed : (v : ℕ) → Placed rank v → Closed ends share rank v
  pub onward : (d : ℕ) → d < 64 → at rank d < 64 → (at load d < at target d) ⊎ Onward ends share rank d
  pub count : (d : ℕ) → d < 64 → at rank d < 64 → at rank d < n
