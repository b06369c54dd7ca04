-- Document 01, "When the gate stays shut", row 0: its example, and what it refuses and leaves of the content of a desk and a table. Assumes nothing.
use mathlib.Core.Path.{◌≡◌, refl}
use mathlib.Core.Bool.{true, false}
use mathlib.Core.List.{List, [], ◌∷◌}
use mathlib.Core.Option.{none, some}
use Rattle.sets.specs.Sum.{sum, any}
use Rattle.sets.specs.Set.{has, weigh}
use Rattle.density.specs.declared.Site.{Site}
use Rattle.density.specs.Network.{crews_above, sites_uncrewed, network, size}
use Rattle.density.specs.Plan.{union, place, carrier, group_size, group_litres, whole, first_share, second_share, share_of, target}
use Rattle.density.specs.Rows.{groups_meet, groups_unlisted, share_broken, shares_broken, scaled_load, loads_uneven, groups_rise}
use Rattle.density.specs.Examples.{pair, own}
use Rattle.records.specs.Values.{roll_array}
use Rattle.records.specs.Format.{edition1, edition2}
use Rattle.held_state.specs.Held.{on, corrupt}
use Rattle.held_state.specs.Examples.{without, with, crewed}

-- "count 1, table of no places"; a place for the site is enough
pub row-0 : corrupt (on edition1 (without 1) []) ≡ true
unfolding corrupt any
row-0 = refl

pub one_place : corrupt (on edition1 (without 1) (pair 0 1 10 ∷ [])) ≡ false
unfolding corrupt any crews_above sites_uncrewed
one_place = refl

-- "held site count above 512"
pub above-512 : (t : List Site) → corrupt (on edition1 (without 513) t) ≡ true
unfolding corrupt
above-512 t = refl

-- "a held site that rows 5 or 6 refuse"
pub held-row-5 : corrupt (on edition1 (without 1) (pair 0 64 10 ∷ [])) ≡ true
unfolding corrupt any
held-row-5 = refl

pub held-row-6 : corrupt (on edition1 (without 1) (pair 0 1 0 ∷ [])) ≡ true
unfolding corrupt any
held-row-6 = refl

-- document 02, g: "a held roll or site that rows 22 or 23 refuse"; what stands beside the lack of a roll is not refused
pub held-row-22 : corrupt (on edition2 (crewed 1 (roll_array (some (3 ∷ 10 ∷ [])))) (pair 0 1 10 ∷ [])) ≡ true
unfolding corrupt any crews_above
held-row-22 = refl

pub held-row-23 : corrupt (on edition2 (crewed 1 (roll_array (some (3 ∷ 0 ∷ [])))) (pair 0 1 10 ∷ [])) ≡ true
unfolding corrupt any crews_above sites_uncrewed
held-row-23 = refl

pub three_and_one : corrupt (on edition2 (crewed 1 (roll_array (some (3 ∷ 1 ∷ [])))) (pair 0 1 10 ∷ [])) ≡ false
unfolding corrupt any crews_above sites_uncrewed
three_and_one = refl

pub no-roll : corrupt (on edition2 (crewed 1 (record { there = false; crews = 10 ∷ 0 ∷ [] })) (pair 0 1 10 ∷ [])) ≡ false
unfolding corrupt any crews_above sites_uncrewed
no-roll = refl

-- "a held plan that rows 8 or 12 to 14 refuse": the table's examples of these rows
pub held-row-8 : corrupt (on edition1 (with 1 65 (3 ∷ []) (10 ∷ [])) (pair 0 1 10 ∷ [])) ≡ true
unfolding corrupt any crews_above sites_uncrewed
held-row-8 = refl

pub held-row-12 : corrupt (on edition1 (with 1 2 (1 ∷ 3 ∷ []) (10 ∷ [])) (pair 0 1 10 ∷ [])) ≡ true
unfolding corrupt any crews_above sites_uncrewed has groups_meet union
held-row-12 = refl

pub held-row-13 : corrupt (on edition1 (with 1 1 (1 ∷ []) (10 ∷ [])) (pair 0 1 10 ∷ [])) ≡ true
unfolding corrupt any crews_above sites_uncrewed has network groups_meet groups_unlisted union
held-row-13 = refl

pub held-row-14 : corrupt (on edition1 (with 1 1 (3 ∷ []) (21 ∷ [])) (pair 0 1 10 ∷ [])) ≡ true
unfolding corrupt sum any crews_above sites_uncrewed has weigh size network groups_meet groups_unlisted shares_broken share_broken place union carrier group_size whole first_share second_share
held-row-14 = refl

-- a plan that row 15, and one that row 16 alone would refuse, is not refused by row 0
pub held-row-15 : corrupt (on edition1 (with 1 1 (3 ∷ []) (11 ∷ [])) (pair 0 1 10 ∷ [])) ≡ false
unfolding corrupt sum any crews_above sites_uncrewed has weigh size network groups_meet groups_unlisted shares_broken share_broken place union carrier group_size whole first_share second_share loads_uneven scaled_load share_of target groups_rise group_litres
held-row-15 = refl

pub held-row-16 : corrupt (on edition1 (with 2 2 (1 ∷ 2 ∷ []) (4 ∷ 4 ∷ [])) (own 0 4 ∷ own 1 4 ∷ [])) ≡ false
unfolding corrupt sum any crews_above sites_uncrewed has weigh size network groups_meet groups_unlisted shares_broken share_broken place union carrier group_size whole first_share second_share loads_uneven scaled_load share_of target groups_rise group_litres
held-row-16 = refl

-- nor is what stands beyond what is held, or where no plan is held
pub beyond-held : corrupt (on edition1 (with 1 1 (3 ∷ 3 ∷ []) (10 ∷ 99 ∷ [])) (pair 0 1 10 ∷ pair 99 99 0 ∷ [])) ≡ false
unfolding corrupt sum any crews_above sites_uncrewed has weigh size network groups_meet groups_unlisted shares_broken share_broken place union carrier group_size whole first_share second_share
beyond-held = refl

pub no-plan-held : corrupt (on edition1 (record { count = 1; held = false; grouped = 65; groups = 3 ∷ 3 ∷ []; shares = 99 ∷ []; roll = roll_array none }) (pair 0 1 10 ∷ [])) ≡ false
unfolding corrupt any crews_above sites_uncrewed
no-plan-held = refl
