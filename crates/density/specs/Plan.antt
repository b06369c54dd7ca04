-- Document 01, "Depots, sites, groups" and "The plain book": plans, the rules for shares, and when a plan is true.
-- A plan is its groups, each the number of its set, and a share for each site.
use Rattle.std.specs.Prelude.{◌≡◌, cond, List, [], ◌∷◌, ℕ, suc, ◌+◌, ◌-◌, ◌*◌, ◌≤◌, ◌<◌, ◌^◌, max, T, eqb, length, get_or, take}
use Rattle.sets.specs.Sum.{when, sum}
use Rattle.sets.specs.Set.{Depots, ∅, ◌∪◌, Apart, Nonempty, has}
use Rattle.density.specs.declared.Site.{Site}
use Rattle.density.specs.Network.{Network, size}
use Rattle.density.specs.Groups.{Decomposition}

-- the depots of all groups together, of group k, and of the groups before it
unfoldable pub union : List ℕ → Depots
union [] = ∅
union (g ∷ gs) = has g ∪ union gs

abbrev pub group : List ℕ → ℕ → Depots
group gs k = has (get_or gs k 0)

abbrev pub before : List ℕ → ℕ → Depots
before gs k = union (take k gs)

-- a depot's group: the first that has it, or the number of groups where none has
unfoldable pub place : List ℕ → ℕ → ℕ
place [] d = 0
place (g ∷ gs) d = cond (has g d) 0 (suc (place gs d))

-- "A site is carried by the later of its depots' groups."
unfoldable pub carrier : List ℕ → Site → ℕ
carrier gs s = max (place gs s.first) (place gs s.second)

-- "Let q be that group's size and W the litres of all sites it carries."
unfoldable pub group_size : Network → List ℕ → ℕ → ℕ
group_size N gs k = size N (group gs k)

unfoldable pub group_litres : Network → List ℕ → ℕ → ℕ
group_litres N gs k = sum (λ i. when (eqb (carrier gs (N.site i)) k) (N.site i).litres) N.count

-- "A site of w litres is w × q; the first depot has s of it, the second the rest."
unfoldable pub whole : Network → List ℕ → ℕ → ℕ
whole N gs i = (N.site i).litres * group_size N gs (carrier gs (N.site i))

unfoldable pub first_share : List ℕ → ℕ → ℕ
first_share ss i = get_or ss i 0

unfoldable pub second_share : Network → List ℕ → List ℕ → ℕ → ℕ
second_share N gs ss i = whole N gs i - first_share ss i

-- "An own site has s = w × q. A depot in an earlier group than the carrying one has 0."
pub record Rules (N : Network) (gs ss : List ℕ) (i : ℕ) : Type 0 where
  pub bound : first_share ss i ≤ whole N gs i
  pub own : (N.site i).first ≡ (N.site i).second → first_share ss i ≡ whole N gs i
  pub first-earlier : place gs (N.site i).first < carrier gs (N.site i) → first_share ss i ≡ 0
  pub second-earlier : place gs (N.site i).second < carrier gs (N.site i) → second_share N gs ss i ≡ 0

-- what depot d has of site i
unfoldable pub share_of : Network → List ℕ → List ℕ → ℕ → ℕ → ℕ
share_of N gs ss d i = when (eqb (N.site i).first d) (first_share ss i) + when (eqb (N.site i).second d) (second_share N gs ss i)

-- "the shares it has from sites carried by its own group", and what they are to add up to: "its crews times W" (document 02, g)
unfoldable pub load : Network → List ℕ → List ℕ → ℕ → ℕ
load N gs ss d = sum (λ i. when (eqb (carrier gs (N.site i)) (place gs d)) (share_of N gs ss d i)) N.count

unfoldable pub target : Network → List ℕ → ℕ → ℕ
target N gs d = N.crews d * group_litres N gs (place gs d)

-- the shares "keep the rules for shares and are level"
pub record Shared (N : Network) (gs ss : List ℕ) : Type 0 where
  pub rules : (i : ℕ) → i < N.count → Rules N gs ss i
  pub level : (d : ℕ) → T (N.listed d) → load N gs ss d ≡ target N gs d

-- a plan as it can be laid out for the list: sets of depots below 64, and a share for each site
pub record Formed (N : Network) (gs ss : List ℕ) : Type 0 where
  pub sets : (k : ℕ) → k < length gs → get_or gs k 0 < 2 ^ 64
  pub each : length ss ≡ N.count

-- "A plan is true of a list if it is laid out for it .., its groups are those of the definition, over every set and in that order, and its
-- shares keep the rules for shares and are level."
pub record TruePlan (N : Network) (gs ss : List ℕ) : Type 0 where
  pub form : Formed N gs ss
  pub groups : Decomposition N gs
  pub shares : Shared N gs ss

-- Rows 12, 13 and 16 test this of the groups, and `sound` and `complete` (`proofs/Plans`) speak of it: no group is empty or meets an earlier one,
-- together they are the listed depots, and W/q falls strictly, compared by cross-multiplying.
pub record Falling (N : Network) (gs : List ℕ) : Type 0 where
  pub some : (k : ℕ) → k < length gs → Nonempty (group gs k)
  pub apart : (k : ℕ) → k < length gs → Apart (group gs k) (before gs k)
  pub listed : (d : ℕ) → union gs d ≡ N.listed d
  pub falls : (k : ℕ) → suc k < length gs → group_litres N gs (suc k) * group_size N gs k < group_litres N gs k * group_size N gs (suc k)
