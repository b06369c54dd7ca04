-- What the check keeps of a list and a plan while it tries rows 14 to 16.
use Rattle.std.specs.Prelude.{◌≡◌, Bool, false, not, List, [], ◌∷◌, ℕ, ◌+◌, ◌-◌, ◌*◌, ◌≤◌, ◌<◌, ◌^◌, T, IfOk, eqb, length, get_or, take}
use Rattle.std.specs.declared.result.Result.{Result}
use Rattle.sets.specs.Sum.{when}
use Rattle.sets.specs.Set.{set_of}
use Rattle.density.specs.declared.Site.{Site}
use Rattle.density.specs.Network.{Network, no_site, network, in_range}
use Rattle.density.specs.Plan.{union, place, group_size, group_litres, whole, first_share}
use Rattle.density.specs.Rows.{Row, row, first_row, groups_meet, shares_broken, scaled_load, loads_uneven, plan_rows}
use Rattle.records.specs.declared.ListArray.{ListArray}
use Rattle.records.specs.declared.PlanArray.{PlanArray}
use Rattle.records.specs.Values.{listing, plan_in}
use Rattle.records.specs.declared.refusal.Refusal.{Refusal}
use Rattle.records.specs.Refusals.{refusal_of}
use Rattle.tables.specs.declared.Tally.{Tally}
use Rattle.tables.specs.declared.Form.{Form}

-- the network of a list, and the groups and shares of a plan for it
abbrev pub net : ListArray → Network
net list = network (listing list)

abbrev pub groups_in : ListArray → PlanArray → List ℕ
groups_in list plan = (plan_in plan list.count).groups

abbrev pub shares_in : ListArray → PlanArray → List ℕ
shares_in list plan = (plan_in plan list.count).shares

-- place k of the array has f k, for each k below n
abbrev pub Holds : List ℕ → (ℕ → ℕ) → ℕ → Type 0
Holds array f n = (k : ℕ) → k < n → get_or array k 0 ≡ f k

-- a list and a plan whose counts fit the arrays; the list is one that rows 5, 22 and 23 do not refuse
pub record Counted (list : ListArray) (plan : PlanArray) : Type 0 where
  pub sites : list.count ≤ 512
  pub groups : plan.count ≤ 64
  pub range : T (in_range (listing list))

-- what rows 14 to 16 are tried on: a list and a plan that rows 12 and 13 do not refuse
pub record Ready (list : ListArray) (plan : PlanArray) : Type 0 where
  pub counted : Counted list plan
  pub places : (length list.sites ≡ 512) × (length plan.groups ≡ 64)
  pub listed : (d : ℕ) → union (groups_in list plan) d ≡ (net list).listed d

-- the place of each depot, and q of each group
pub record Tables (list : ListArray) (plan : PlanArray) (places sizes : List ℕ) : Type 0 where
  pub length-places : length places ≡ 64
  pub length-sizes : length sizes ≡ 64
  pub place : Holds places (place (groups_in list plan)) 64
  pub size : Holds sizes (group_size (net list) (groups_in list plan)) plan.count

-- a list whose sites' depots have a place below 64
pub record Placed (list : ListArray) (places : List ℕ) : Type 0 where
  pub sites : (list.count ≤ 512) × (length list.sites ≡ 512)
  pub length-places : length places ≡ 64
  pub depots : (i : ℕ) → i < list.count → ((get_or list.sites i no_site).first < 64) × ((get_or list.sites i no_site).second < 64)
  pub low :
      (i : ℕ) → i < list.count
      → (get_or places (get_or list.sites i no_site).first 0 < 64) × (get_or places (get_or list.sites i no_site).second 0 < 64)

-- W of each group, for the groups that the places are those of
pub record Litres (list : ListArray) (places litres : List ℕ) : Type 0 where
  pub is : (gs : List ℕ) → Holds places (place gs) 64 → Holds litres (group_litres (net list) gs) 64
  pub low : (k : ℕ) → k < 64 → get_or litres k 0 ≤ 512 * 2 ^ 32

-- the plan whose count, groups and shares are lent as parts, so that no array is copied
abbrev pub lent_plan : ℕ → List ℕ → List ℕ → PlanArray
lent_plan count groups shares = record { count = count; groups = groups; shares = shares }

-- w × q of each site
abbrev pub Wholes : ListArray → PlanArray → List ℕ → Type 0
Wholes list plan wholes = (length wholes ≡ 512) × Holds wholes (whole (net list) (groups_in list plan)) list.count

-- what the pass over the sites finds, if the groups are the listed depots
pub record Tallied (list : ListArray) (plan : PlanArray) (places : List ℕ) (r : Tally) (ws : List ℕ) : Type 0 where
  pub broken : r.broken ≡ shares_broken (net list) (groups_in list plan) (shares_in list plan)
  pub sums : r.broken ≡ false → Litres list places r.litres × Wholes list plan ws

-- what depot d has of site i, of its share and its w × q
abbrev pub part_of : ListArray → List ℕ → List ℕ → ℕ → ℕ → ℕ
part_of list shares wholes d i =
    when (eqb (get_or list.sites i no_site).first d) (get_or shares i 0) + when (eqb (get_or list.sites i no_site).second d) (get_or wholes i 0 - get_or shares i 0)

-- shares that are at most w × q. q is at most 576, which is 9 × 64: up to 9 crews at a depot
pub record Parts (list : ListArray) (shares wholes : List ℕ) : Type 0 where
  pub sites : list.count ≤ 512
  pub lengths : (length shares ≡ 512) × (length wholes ≡ 512)
  pub depots : (i : ℕ) → i < list.count → ((get_or list.sites i no_site).first < 64) × ((get_or list.sites i no_site).second < 64)
  pub fit : (i : ℕ) → i < list.count → (get_or shares i 0 ≤ get_or wholes i 0) × (get_or wholes i 0 ≤ (get_or list.sites i no_site).litres * 576)

-- what row 15 is tried on: the listed depots, their places, W of each group, each depot's crews and its scaled load
pub record Levels (list : ListArray) (plan : PlanArray) (all : ℕ) (places weights counts sums : List ℕ) : Type 0 where
  pub ready : Ready list plan
  pub listed : all ≡ set_of (net list).listed 64
  pub place : Holds places (place (groups_in list plan)) 64
  pub litres : Litres list places weights
  pub crews : Holds counts (net list).crews 64
  pub loads : Holds sums (scaled_load (net list) (groups_in list plan) (shares_in list plan)) 64

-- b says whether row 15 applies
abbrev pub Uneven : ℕ → List ℕ → List ℕ → List ℕ → List ℕ → Bool → Type 0
Uneven all places litres crews loads b =
    (list : ListArray) (plan : PlanArray) → Levels list plan all places litres crews loads → b ≡ loads_uneven (net list) (groups_in list plan) (shares_in list plan)

-- rows 12 to 14, of groups, the listed depots, and whether a share breaks a rule
abbrev pub form_rows : List ℕ → ℕ → Bool → List Row
form_rows gs listed broken = row 12 (groups_meet gs) ∷ row 13 (not (eqb (set_of (union gs) 64) listed)) ∷ row 14 broken ∷ []

-- what rows 15 and 16 are tried on
pub record Kept (list : ListArray) (plan : PlanArray) (r : Form) (ws : List ℕ) : Type 0 where
  pub ready : Ready list plan
  pub shares : shares_broken (net list) (groups_in list plan) (shares_in list plan) ≡ false
  pub listed : r.listed ≡ set_of (net list).listed 64
  pub tables : Tables list plan r.places r.sizes
  pub litres : (length r.litres ≡ 64) × Litres list r.places r.litres
  pub wholes : Wholes list plan ws

-- the row of 12 to 14 that refuses, or what they leave where they pass
pub record Formed (list : ListArray) (plan : PlanArray) (r : Result Form Refusal) (ws : List ℕ) : Type 0 where
  pub refusal : refusal_of r ≡ first_row (take 3 (plan_rows (net list) (groups_in list plan) (shares_in list plan)))
  pub passed : IfOk r (λ f. Kept list plan f ws)

-- site i: its depots' places, w × q and s
pub record Entry (N : Network) (gs ss : List ℕ) (i : ℕ) (s : Site) (first second all part : ℕ) : Type 0 where
  pub site : N.site i ≡ s
  pub first-place : place gs s.first ≡ first
  pub second-place : place gs s.second ≡ second
  pub whole : whole N gs i ≡ all
  pub share : first_share ss i ≡ part

-- what W and q (over crews, as in `Parts`) are at most, so that no product overflows
pub record Small (litres sizes : List ℕ) (n : ℕ) : Type 0 where
  pub count : n ≤ 64
  pub lengths : (length litres ≡ 64) × (length sizes ≡ 64)
  pub litre : (k : ℕ) → k < n → get_or litres k 0 ≤ 512 * 2 ^ 32
  pub size : (k : ℕ) → k < n → get_or sizes k 0 ≤ 576
