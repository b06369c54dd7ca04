-- Document 02, h): the depots without sites, and the group that they form.
use Rattle.std.specs.Prelude.{◌≡◌, ◌↔◌, not, ◌&&◌, List, ℕ, suc, ◌<◌, T, length}
use Rattle.sets.specs.Sum.{any}
use Rattle.sets.specs.Set.{Depots, Nonempty}
use Rattle.density.specs.Network.{Network, names, size}
use Rattle.density.specs.Plan.{group, place, carrier, group_litres, group_size}

-- A depot "listed even without sites": an isolated vertex of the graph, on which no edge ends.
unfoldable pub isolated : Network → Depots
isolated N d = N.listed d && not (any (λ i. names (N.site i) d) N.count)

-- group k is exactly these depots
abbrev pub TheirGroup : Network → List ℕ → ℕ → Type 0
TheirGroup N gs k = (d : ℕ) → group gs k d ≡ isolated N d

-- no site stands in group k: it carries none
abbrev pub NoSiteStands : Network → List ℕ → ℕ → Type 0
NoSiteStands N gs k = (i : ℕ) → i < N.count → carrier gs (N.site i) ≡ k → ⊥

-- "Such depots form the last group, the only one where no site stands, with W 0": where there are any, the last group is exactly they; a group is theirs
-- exactly if no site stands in it, and exactly if its W is 0. So each of them has W 0, and for q the crews of all of them added up.
pub record IsolatedLast (N : Network) (gs : List ℕ) : Type 0 where
  pub last : Nonempty (isolated N) → (k : ℕ) × (suc k ≡ length gs) × TheirGroup N gs k
  pub only : (k : ℕ) → k < length gs → NoSiteStands N gs k ↔ TheirGroup N gs k
  pub zero : (k : ℕ) → k < length gs → (group_litres N gs k ≡ 0) ↔ TheirGroup N gs k
  pub litres : (d : ℕ) → T (isolated N d) → group_litres N gs (place gs d) ≡ 0
  pub sizes : (d : ℕ) → T (isolated N d) → group_size N gs (place gs d) ≡ size N (isolated N)
