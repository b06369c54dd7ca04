-- The definition and the rows run on the examples: tests that are computed over the tables, from the definitions alone. Assumes nothing.
use mathlib.Core.Bool.{Bool, true, false, ◌&&◌}
use mathlib.Core.List.{List, [], ◌∷◌}
use mathlib.Core.Option.{Option, none, some}
use Prim.Native.Nat.{ℕ, ◌^◌}
use lib.Dec.{T, eqb, ltb}
use lib.ListN.{length, get_or}
use Rattle.sets.specs.Sum.{sum, all, any}
use Rattle.sets.specs.Set.{∅, ◌∖◌, has, set_of, is_empty, weigh, lowest}
use Rattle.density.specs.Network.{network, depots_in_range, crews_above, sites_uncrewed, in_range, litres, size}
use Rattle.density.specs.Groups.{exceeds, best, next_group, groups_from}
use Rattle.density.specs.Plan.{union, group, before, place, carrier, group_size, group_litres, whole, first_share, second_share, share_of, target}
use Rattle.density.specs.Rows.{first_row, groups_meet, groups_unlisted, share_broken, shares_broken, scaled_load, loads_uneven, groups_rise, plan_rows}
use Rattle.density.specs.Figures.{groups_read, depots_read, every_group}
use Rattle.density.specs.Examples.{Example, no_sites, starred, with_crews, nine_sites, Refused, refused, no_refusal, Reading, reading, own_sites, readings}

-- two lists are the same
unfoldable pub same : List ℕ → List ℕ → Bool
same [] [] = true
same [] (y ∷ ys) = false
same (x ∷ xs) [] = false
same (x ∷ xs) (y ∷ ys) = eqb x y && same xs ys

-- the depots are below w, and the definition, run over every set of such depots, gives the groups
unfoldable pub grouped : ℕ → Example → Bool
grouped w e =
    in_range e.list
    && is_empty ((network e.list).listed ∖ (λ d. ltb d w)) 64
    && same (groups_from (network e.list) w ∅ (size (network e.list) (network e.list).listed)) e.groups
    && all (λ k. eqb (group_litres (network e.list) e.groups k) (get_or e.litres k 0)) (length e.groups)
    && all (λ k. eqb (litres (network e.list) (group e.groups k) (before e.groups k)) (get_or e.litres k 0)) (length e.groups)
    && all (λ k. eqb (group_size (network e.list) e.groups k) (get_or e.sizes k 0)) (length e.groups)

-- the plan has its form, and no row applies
unfoldable pub is_none : Option ℕ → Bool
is_none none = true
is_none (some n) = false

unfoldable pub passes : Example → Bool
passes e =
    all (λ k. ltb (get_or e.groups k 0) (2 ^ 64)) (length e.groups)
    && eqb (length e.shares) (length e.list.sites)
    && is_none (first_row (plan_rows (network e.list) e.groups e.shares))

-- the row that applies first
unfoldable pub has_row : Option ℕ → ℕ → Bool
has_row none n = false
has_row (some m) n = eqb m n

unfoldable pub gets_row : Refused → Bool
gets_row r = has_row (first_row (plan_rows (network r.list) r.groups r.shares)) r.number

-- the sets of a reading
unfoldable pub reads_so : Reading → Bool
reads_so x =
    eqb (set_of (depots_read (network own_sites) x.groups x.threshold) 64) x.read
    && eqb (set_of (every_group (network own_sites) x.groups x.threshold) 64) x.every

-- ---- computed over the tables

pub computed-groups : T (all (λ k. grouped 3 (get_or starred k no_sites)) (length starred))
unfolding grouped same starred sum all any has weigh size network depots_in_range crews_above sites_uncrewed in_range litres exceeds best next_group groups_from place union carrier group_size group_litres
computed-groups = tt

pub computed-nine : T (grouped 6 nine_sites)
unfolding grouped same nine_sites sum all any has weigh size network depots_in_range crews_above sites_uncrewed in_range litres exceeds best next_group groups_from place union carrier group_size group_litres
computed-nine = tt

pub computed-crews : T (all (λ k. grouped 3 (get_or with_crews k no_sites) && passes (get_or with_crews k no_sites)) (length with_crews))
unfolding grouped same passes is_none with_crews sum all any has weigh size network depots_in_range crews_above sites_uncrewed in_range litres exceeds best next_group groups_from first_row plan_rows groups_meet groups_unlisted shares_broken share_broken loads_uneven scaled_load share_of target groups_rise place union carrier group_size group_litres whole first_share second_share
computed-crews = tt

pub computed-plans : T (all (λ k. passes (get_or starred k no_sites)) (length starred))
unfolding passes is_none starred sum all any has weigh size network first_row plan_rows groups_meet groups_unlisted shares_broken share_broken loads_uneven scaled_load share_of target groups_rise place union carrier group_size group_litres whole first_share second_share
computed-plans = tt

pub computed-refusals : T (all (λ k. gets_row (get_or refused k no_refusal)) (length refused))
unfolding gets_row has_row refused sum all any has weigh size network first_row plan_rows groups_meet groups_unlisted shares_broken share_broken loads_uneven scaled_load share_of target groups_rise place union carrier group_size group_litres whole first_share second_share
computed-refusals = tt

pub computed-readings : T (all (λ k. reads_so (get_or readings k (reading [] 0 0 0))) (length readings))
unfolding reads_so readings sum all any has set_of weigh lowest size network place union carrier group_size group_litres groups_read every_group
computed-readings = tt
