-- Moving share between the two depots of a site.
use Rattle.std.specs.Prelude.{◌≡◌, List, ◌⊎◌, ℕ, ◌+◌, ◌-◌, ◌≤◌, ◌<◌, ◌^◌, min, length, set}
use Rattle.residual.specs.Array.{at, total_load, total_deficit, arc_load}
use Rattle.residual.specs.Search.{reverse, Paired, Linked}

-- the list with m moved from place i to place k
abbrev pub shift : List ℕ → ℕ → ℕ → ℕ → List ℕ
shift xs i k m = set (set xs i (at xs i - m)) k (at (set xs i (at xs i - m)) k + m)

-- m can be moved from place i to place k
pub record Room (xs : List ℕ) (i k m : ℕ) : Type 0 where
  pub from : i < length xs
  pub to : k < length xs
  pub apart : i ≡ k → ⊥
  pub has : m ≤ at xs i
  pub fits : at xs k + m < 2 ^ 64

-- the lists have their sizes, and no sum wraps
pub record Loaded (ends share load : List ℕ) : Type 0 where
  pub arcs : length ends ≡ 1024
  pub shares : length share ≡ 1024
  pub loads : length load ≡ 64
  pub sites : (j : ℕ) → j < 1024 → at share j + at share (reverse j) < 2 ^ 64
  pub fits : total_load load < 2 ^ 64

-- m may move from arc j to its reverse
pub record Movable (ends share load : List ℕ) (j m : ℕ) : Type 0 where
  pub arc : j < 1024
  pub from : at ends j < 64
  pub to : at ends (reverse j) < 64
  pub apart : at ends j ≡ at ends (reverse j) → ⊥
  pub share-has : m ≤ at share j
  pub load_has : m ≤ at load (at ends j)

-- the shares and loads once m has moved
abbrev pub Pushed : List ℕ → List ℕ → List ℕ → ℕ → ℕ → List ℕ → List ℕ → Type 0
Pushed ends share load j m share' load' = (share' ≡ shift share j (reverse j) m) × (load' ≡ shift load (at ends j) (at ends (reverse j)) m)

-- the arcs, the ranks that a search gave and the targets, while share is pushed
pub record Ranked (ends chain rank target : List ℕ) : Type 0 where
  pub paired : Paired ends
  pub linked : Linked ends chain
  pub ranks : length rank ≡ 64
  pub targets : length target ≡ 64

-- What pushes keep: the sites' sums, the shares at depots outside the order, own sites, the sum of the loads. The loads follow the shares, and no depot comes to lack more.
pub record Moved (ends rank target share load share' load' : List ℕ) : Type 0 where
  pub loaded : Loaded ends share' load'
  pub pairs : (j : ℕ) → j < 1024 → at share' j + at share' (reverse j) ≡ at share j + at share (reverse j)
  pub outside : (j : ℕ) → j < 1024 → 64 ≤ at rank (at ends j) → at share' j ≡ at share j
  pub own : (j : ℕ) → j < 1024 → at ends j ≡ at ends (reverse j) → at share' j ≡ at share j
  pub follows : (d : ℕ) → d < 64 → at load' d + arc_load ends d share ≡ at load d + arc_load ends d share'
  pub sum : total_load load' ≡ total_load load
  pub less : total_deficit target load' ≤ total_deficit target load
  pub lacks : (d : ℕ) → d < 64 → at target d - at load' d ≤ at target d - at load d

-- pushes from depot u alone
pub record PushedFrom (ends rank target : List ℕ) (u : ℕ) (share load share' load' : List ℕ) : Type 0 where
  pub moved : Moved ends rank target share load share' load'
  pub gains : (d : ℕ) → (d ≡ u → ⊥) → at load d ≤ at load' d
  pub arcs : (j : ℕ) → j < 1024 → (at ends j ≡ u → ⊥) → at share j ≤ at share' j

-- a depot above its target that comes before u in the order
pub record EarlierExcess (rank target load : List ℕ) (u : ℕ) : Type 0 where
  pub depot : ℕ
  pub is : depot < 64
  pub earlier : at rank depot < at rank u
  pub over : at target depot < at load depot

-- less is lacking, or the same depots lack and an earlier one is above its target
abbrev pub Gained : List ℕ → List ℕ → ℕ → List ℕ → List ℕ → Type 0
Gained rank target u load load' =
    (total_deficit target load' < total_deficit target load)
    ⊎ (((d : ℕ) → at load d < at target d → at load' d < at target d) × EarlierExcess rank target load' u)

-- arc a of depot u is admissible: it has share, and leads to an earlier depot
pub record Admissible (ends rank share : List ℕ) (u a : ℕ) : Type 0 where
  pub gives : 0 < at share a
  pub earlier : at rank (at ends (reverse a)) < at rank u

-- j is an arc at depot u, which is in the order
pub record ArcAt (ends rank target : List ℕ) (u j : ℕ) : Type 0 where
  pub paired : Paired ends
  pub ranks : length rank ≡ 64
  pub targets : length target ≡ 64
  pub depot : u < 64
  pub placed : at rank u < 64
  pub arc : j < 1024
  pub from : at ends j ≡ u

-- what pushing the excess of u along arc j does
abbrev pub ExcessPushed : List ℕ → List ℕ → List ℕ → ℕ → ℕ → List ℕ → List ℕ → List ℕ → List ℕ → Type 0
ExcessPushed ends rank target u j share load share' load' =
    ((share' ≡ share) × (load' ≡ load) × (at target u < at load u → Admissible ends rank share u j → ⊥))
    ⊎ ((at target u < at load u) × Admissible ends rank share u j
    × Pushed ends share load j (min (at load u - at target u) (at share j)) share' load')

-- what discharging u does, from arc j on
abbrev pub Discharged : List ℕ → List ℕ → List ℕ → ℕ → ℕ → List ℕ → List ℕ → List ℕ → List ℕ → Type 0
Discharged ends rank target u j share load share' load' =
    ((share' ≡ share) × (load' ≡ load) × (at target u < at load u → (a : ℕ) → j ≤ a → a < 1024 → at ends a ≡ u → Admissible ends rank share u a → ⊥))
    ⊎ (PushedFrom ends rank target u share load share' load' × Gained rank target u load load')
