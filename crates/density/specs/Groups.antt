-- Document 01, "Depots, sites, groups": the groups, which are the locally-dense decomposition of the graph.
use Rattle.std.specs.Prelude.{Bool, cond, ◌&&◌, ◌||◌, List, [], ◌∷◌, ℕ, zero, suc, ◌*◌, ◌^◌, ◌≤◌, T, eqb, ltb}
use Rattle.sets.specs.Set.{Depots, ∅, ◌∪◌, ◌∖◌, ◌⊆◌, Apart, Nonempty, has, is_empty}
use Rattle.density.specs.Network.{Network, litres, size}

-- "the non-empty sets of listed depots not yet grouped"; G are the grouped ones
pub record Candidate (N : Network) (G X : Depots) : Type 0 where
  pub some : Nonempty X
  pub listed : X ⊆ N.listed
  pub free : Apart X G

-- "the most litres per depot. Of several such sets it is the largest"; document 02, g: "The size of a set becomes its crews added up, everywhere: q, litres per crew". X has more
-- litres per crew than Y or, where both have as many, is larger. Litres per crew are compared by cross-multiplying.
unfoldable pub exceeds : Network → Depots → Depots → Depots → Bool
exceeds N G X Y =
    ltb (litres N Y G * size N X) (litres N X G * size N Y)
    || (eqb (litres N Y G * size N X) (litres N X G * size N Y) && ltb (size N Y) (size N X))

-- "The next group": a candidate that no other exceeds.
pub record Next (N : Network) (G X : Depots) : Type 0 where
  pub candidate : Candidate N G X
  pub most : (Y : Depots) → Candidate N G Y → T (exceeds N G Y X) → ⊥

-- "Of several such sets it is the largest": X is such a set, a candidate than which none has more litres per crew.
pub record Densest (N : Network) (G X : Depots) : Type 0 where
  pub candidate : Candidate N G X
  pub no-denser : (Y : Depots) → Candidate N G Y → litres N Y G * size N X ≤ litres N X G * size N Y

-- "Groups follow until every listed depot is in one." A group is the number of its set. The sets G are source document 000's chain of locally-dense subgraphs, its
-- Proposition 5: B_0 is empty, B_i is the densest subgraph properly containing B_(i-1), and the chain ends with all vertices, B_k = V, those without edges (document 02, h) too.
unfoldable pub Follow : Network → Depots → List ℕ → Type 0
Follow N G [] = N.listed ⊆ G
Follow N G (g ∷ gs) = Next N G (has g) × Follow N (G ∪ has g) gs

-- gs are the groups of the network, in order
unfoldable pub Decomposition : Network → List ℕ → Type 0
Decomposition N gs = Follow N ∅ gs

-- The same as a function, so that an answer can be an equation: the best of the sets numbered below n, the next group among the sets of depots below k,
-- and the groups that follow G, at most n of them.
unfoldable pub best : Network → Depots → ℕ → ℕ
best N G zero = 0
best N G (suc n) = cond (is_empty (has n ∖ (N.listed ∖ G)) 64 && exceeds N G (has n) (has (best N G n))) n (best N G n)

unfoldable pub next_group : Network → ℕ → Depots → ℕ
next_group N k G = best N G (2 ^ k)

unfoldable pub groups_from : Network → ℕ → Depots → ℕ → List ℕ
groups_from N k G zero = []
groups_from N k G (suc n) = cond (is_empty (N.listed ∖ G) 64) [] (next_group N k G ∷ groups_from N k (G ∪ has (next_group N k G)) n)

-- the groups of the network; there are no more of them than the size of the listed depots
unfoldable pub groups_of : Network → List ℕ
groups_of N = groups_from N 64 ∅ (size N N.listed)
