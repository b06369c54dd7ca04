-- Document 01, "Depots, sites, groups", and document 02, g) and h): lists, the graph of a list, and the litres and the size of a set of depots.
use Rattle.std.specs.Prelude.{◌≡◌, Bool, true, false, not, ◌&&◌, ◌||◌, List, ℕ, ◌<◌, T, eqb, ltb, length, get_or}
use Rattle.std.proofs.Math.Option.{Option, none, some}
use Rattle.sets.specs.Sum.{when, sum, all, any}
use Rattle.sets.specs.Set.{Depots, ◌∪◌, weigh}
use Rattle.density.specs.declared.Site.{Site}

-- A list: its sites, counted from 0, and its roll or none. A roll has the crews of depot 0, depot 1 and so on.
pub record Listing : Type 0 where
  pub sites : List Site
  pub roll : Option (List ℕ)

-- The graph: its vertices are the listed depots, its edges the sites. Each depot has crews: the size of a set is its crews added up, and a depot is to have W
-- for each of its crews. A depot has at most 9 crews, so that q is at most 9 × 64 = 576.
pub record Network : Type 0 where
  pub count : ℕ
  pub site : ℕ → Site
  pub listed : Depots
  pub crews : ℕ → ℕ

-- what stands where a list has no site
abbrev pub no_site : Site
no_site = record { first = 0; second = 0; litres = 0 }

abbrev pub site_at : Listing → ℕ → Site
site_at l i = get_or l.sites i no_site

abbrev pub names : Site → Depots
names s d = eqb s.first d || eqb s.second d

-- a site's first and second depot
abbrev pub end : Bool → Site → ℕ
end true s = s.first
end false s = s.second

-- a site names the depot
abbrev pub named : Listing → Depots
named l d = any (λ i. names (site_at l i) d) (length l.sites)

-- The crews of a depot: "one [byte] per depot, holding 0 for no crew, or 1 to 9 crews. Without a roll a listed depot has one crew."
abbrev pub crews_of : Option (List ℕ) → ℕ → ℕ
crews_of none d = 1
crews_of (some roll) d = get_or roll d 0

-- "A depot with crews in the roll is listed even without sites."
abbrev pub enrolled : Option (List ℕ) → Depots
enrolled none d = false
enrolled (some roll) d = ltb d 64 && ltb 0 (get_or roll d 0)

-- "A depot is listed if some site names it", or if it has crews in the roll: the one place where listed depots and crews arise.
unfoldable pub network : Listing → Network
network l =
    record {
      count = length l.sites;
      site = site_at l;
      listed = named l ∪ enrolled l.roll;
      crews = crews_of l.roll;
    }

-- Document 01's own graph of a list, before document 02, g) and h): "A depot is listed if some site names it", and a set's size is the number of its depots.
unfoldable pub base_network : List Site → Network
base_network sites =
    record {
      count = length sites;
      site = λ i. get_or sites i no_site;
      listed = λ d. any (λ i. names (get_or sites i no_site) d) (length sites);
      crews = λ d. 1;
    }

-- "A depot is a number from 0 to 63": so are the depots that the sites name.
unfoldable pub depots_in_range : Listing → Bool
depots_in_range l = all (λ i. ltb (site_at l i).first 64 && ltb (site_at l i).second 64) (length l.sites)

-- Row 22: "a roll byte is above 9".
unfoldable pub crews_above : Option (List ℕ) → Bool
crews_above roll = any (λ d. ltb 9 (crews_of roll d)) 64

-- Row 23: "a site names a depot whose roll byte is 0".
abbrev pub uncrewed : Option (List ℕ) → Site → Bool
uncrewed roll s = eqb (crews_of roll s.first) 0 || eqb (crews_of roll s.second) 0

unfoldable pub sites_uncrewed : Listing → Bool
sites_uncrewed l = any (λ i. uncrewed l.roll (site_at l i)) (length l.sites)

-- the list with another roll or none
abbrev pub with_roll : Listing → Option (List ℕ) → Listing
with_roll l roll = record { sites = l.sites; roll = roll }

-- "A roll with 1 for each depot that a site names and 0 for every other"
abbrev pub RollOfOnes : Listing → List ℕ → Type 0
RollOfOnes l roll = (d : ℕ) → d < 64 → get_or roll d 0 ≡ when (named l d) 1

-- a list that rows 5, 22 and 23 do not refuse
unfoldable pub in_range : Listing → Bool
in_range l = depots_in_range l && not (crews_above l.roll) && not (sites_uncrewed l)

-- What the theorems ask of a network; that of a list has it where the list is in range (`valid`).
pub record Valid (N : Network) : Type 0 where
  pub first-listed : (i : ℕ) → i < N.count → T (N.listed (N.site i).first)
  pub second-listed : (i : ℕ) → i < N.count → T (N.listed (N.site i).second)
  pub small : (d : ℕ) → T (N.listed d) → d < 64
  pub crewed : (d : ℕ) → T (N.listed d) → 0 < N.crews d

abbrev pub touches : Depots → Site → Bool
touches X s = X s.first || X s.second

abbrev pub within : Depots → Site → Bool
within X s = X s.first && X s.second

-- "sites that touch the set and whose depots all lie in the set or among the grouped ones"
abbrev pub counts : Depots → Depots → Site → Bool
counts X G s = within (X ∪ G) s && touches X s

-- "The litres of a set, given the depots already grouped, are those of all" such sites. "A site counts once."
unfoldable pub litres : Network → Depots → Depots → ℕ
litres N X G = sum (λ i. when (counts X G (N.site i)) (N.site i).litres) N.count

-- "The size of a set becomes its crews added up": with one crew each, the number of its depots.
unfoldable pub size : Network → Depots → ℕ
size N X = weigh N.crews X 64

-- two networks have the same sites, the same listed depots and the same crews of these
pub record Agree (N M : Network) : Type 0 where
  pub count : N.count ≡ M.count
  pub site : (i : ℕ) → N.site i ≡ M.site i
  pub listed : N.listed ≡ M.listed
  pub crews : (d : ℕ) → T (N.listed d) → N.crews d ≡ M.crews d
