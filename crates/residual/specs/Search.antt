-- The search for the depots that can pass share on, and what it keeps.
use Rattle.std.specs.Prelude.{◌≡◌, cond, List, ◌⊎◌, ℕ, ◌+◌, ◌-◌, ◌≤◌, ◌<◌, length, set, ltb}
use Rattle.residual.specs.Array.{at, unranked}

-- the arc of the same site at its other depot
unfoldable pub reverse : ℕ → ℕ
reverse j = cond (ltb j 512) (j + 512) (j - 512)

-- Each arc of a site has a depot, or none has. 64 stands for none.
pub record Paired (ends : List ℕ) : Type 0 where
  pub size : length ends ≡ 1024
  pub both : (j : ℕ) → j < 1024 → at ends j < 64 → at ends (reverse j) < 64

-- x is 1 + the last arc at depot d before arc m, or 0 where there is none
pub record Last (ends : List ℕ) (d m x : ℕ) : Type 0 where
  pub below : x ≤ m
  pub here : 0 < x → at ends (x - 1) ≡ d
  pub none : (j : ℕ) → x ≤ j → j < m → at ends j ≡ d → ⊥

-- chain leads from each depot, and from each arc, to the arc before at the same depot
pub record Linked (ends chain : List ℕ) : Type 0 where
  pub size : length chain ≡ 1088
  pub first : (d : ℕ) → d < 64 → Last ends d 1024 (at chain (1024 + d))
  pub next : (j : ℕ) → j < 1024 → at ends j < 64 → Last ends (at ends j) j (at chain j)

-- The first n of order are distinct depots, and rank has their places; of the others it has 64, or more where they take no part.
pub record Queue (n : ℕ) (order rank : List ℕ) : Type 0 where
  pub orders : length order ≡ 64
  pub ranks : length rank ≡ 64
  pub places : n + unranked rank ≡ 64
  pub depot : (k : ℕ) → k < n → at order k < 64
  pub placed : (k : ℕ) → k < n → at rank (at order k) ≡ k
  pub found : (d : ℕ) → d < 64 → at rank d < 64 → (at rank d < n) × (at order (at rank d) ≡ d)

-- what enqueueing depot u does, which has `give` to pass on
abbrev pub Enqueued : ℕ → ℕ → ℕ → List ℕ → List ℕ → ℕ → List ℕ → List ℕ → Type 0
Enqueued give u n order rank n' order' rank' =
    ((n' ≡ n) × (order' ≡ order) × (rank' ≡ rank) × (0 < give → at rank u ≡ 64 → ⊥))
    ⊎ ((n' ≡ n + 1) × (order' ≡ set order n u) × (rank' ≡ set rank u n) × (0 < give) × (at rank u ≡ 64))

-- the depot at place k has a share on an arc to an earlier one
pub record Leads (ends share order rank : List ℕ) (k : ℕ) : Type 0 where
  pub arc : ℕ
  pub is : arc < 1024
  pub from : at ends arc ≡ at order k
  pub gives : 0 < at share arc
  pub earlier : at rank (at ends (reverse arc)) < k

-- The order grew: what was in it stays, and each new depot leads to an earlier one.
pub record Grown (ends share : List ℕ) (n : ℕ) (order rank : List ℕ) (n' : ℕ) (order' rank' : List ℕ) : Type 0 where
  pub more : n ≤ n'
  pub same : (k : ℕ) → k < n → at order' k ≡ at order k
  pub moved : (d : ℕ) → (at rank' d ≡ at rank d) ⊎ ((at rank d ≡ 64) × (n ≤ at rank' d) × (at rank' d < n'))
  pub leads : (k : ℕ) → n ≤ k → k < n' → Leads ends share order' rank' k

-- no depot outside the order that takes part gives to v
abbrev pub Closed : List ℕ → List ℕ → List ℕ → ℕ → Type 0
Closed ends share rank v = (p : ℕ) → p < 1024 → 0 < at share p → at ends (reverse p) ≡ v → at rank (at ends p) ≡ 64 → ⊥

-- the residual network: the arcs, linked by depot, and the shares on them
pub record Residual (ends chain share : List ℕ) : Type 0 where
  pub paired : Paired ends
  pub linked : Linked ends chain
  pub shares : length share ≡ 1024

-- v is a depot in the order
pub record Placed (rank : List ℕ) (v : ℕ) : Type 0 where
  pub depot : v < 64
  pub within : at rank v < 64

-- every arc at v has been looked at
pub record Scanned (ends share : List ℕ) (v n : ℕ) (order rank : List ℕ) (n' : ℕ) (order' rank' : List ℕ) : Type 0 where
  pub queue : Queue n' order' rank'
  pub grown : Grown ends share n order rank n' order' rank'
  pub closed : Closed ends share rank' v

-- The order is complete: no depot outside it that takes part gives to one inside.
pub record Reached (ends share : List ℕ) (n : ℕ) (order rank : List ℕ) (n' : ℕ) (order' rank' : List ℕ) : Type 0 where
  pub queue : Queue n' order' rank'
  pub grown : Grown ends share n order rank n' order' rank'
  pub closed : (v : ℕ) → Placed rank' v → Closed ends share rank' v

-- the arcs before j are linked
pub record Linking (ends chain : List ℕ) (j : ℕ) : Type 0 where
  pub arcs : length ends ≡ 1024
  pub size : length chain ≡ 1088
  pub low : j ≤ 1024
  pub first : (d : ℕ) → d < 64 → Last ends d j (at chain (1024 + d))
  pub next : (k : ℕ) → k < j → at ends k < 64 → Last ends (at ends k) k (at chain k)

-- arc j, at depot e, comes first at its depot
abbrev pub Prepended : ℕ → ℕ → List ℕ → List ℕ → Type 0
Prepended e j chain chain' =
    ((64 ≤ e) × (chain' ≡ chain)) ⊎ ((e < 64) × (chain' ≡ set (set chain j (at chain (1024 + e))) (1024 + e) (j + 1)))
