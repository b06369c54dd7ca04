-- The starred lists as bytes of either edition: Check passes each list's plan; the examples of rows 1 to 16, and those of edition 2: Check gives the row. Assumes nothing.
use mathlib.Core.Path.{◌≡◌, refl}
use mathlib.Core.List.{[], ◌∷◌, flat_map}
use mathlib.Core.Option.{Option, none, some}
use Prim.Native.Nat.{ℕ, ◌+◌, ◌<◌}
use lib.Dec.{T}
use lib.ListN.{length, get_or}
use Rattle.sets.specs.Sum.{sum, all, any}
use Rattle.sets.specs.Set.{has, weigh}
use Rattle.sets.proofs.Sum.{all-at}
use Rattle.density.specs.Network.{crews_above, sites_uncrewed, network, size}
use Rattle.density.specs.Plan.{union, place, carrier, group_size, group_litres, whole, first_share, second_share, share_of, target}
use Rattle.density.specs.Rows.{first_row, groups_meet, groups_unlisted, share_broken, shares_broken, scaled_load, loads_uneven, groups_rise, plan_rows}
use Rattle.density.specs.Examples.{no_sites, starred}
use Rattle.density.proofs.Cases.{is_none, has_row}
use Rattle.density.proofs.Examples.{is_none→, has_row→}
use Rattle.records.specs.Bytes.{le, value}
use Rattle.records.specs.Record.{records}
use Rattle.records.specs.declared.Edition.{Edition}
use Rattle.records.specs.Format.{edition1, edition2, read_list, read_plan}
use Rattle.records.specs.Write.{list_bytes, plan_bytes}
use Rattle.records.specs.Samples.{list_t, plan_t, list_big, plan_big, list_rolled, crews_of_four, list_opened}
use Rattle.judge.specs.Check.{check_row, checked_row}
use Rattle.judge.specs.Examples.{example_list, example_plan}
use Rattle.judge.specs.Refusals.{group, plan_of2, given, refusals, gets, plan2, share2, refusals2}

-- for the plan of a starred list, in an edition
abbrev starred_row : Edition → ℕ → Option ℕ
starred_row e k = checked_row (example_list e (get_or starred k no_sites)) (example_plan e (get_or starred k no_sites))

computed : T (all (λ k. is_none (starred_row edition1 k)) (length starred)) × T (all (λ k. is_none (starred_row edition2 k)) (length starred))
unfolding is_none starred check_row read_list read_plan list_bytes plan_bytes flat_map le value records sum all any has weigh size network crews_above sites_uncrewed first_row plan_rows groups_meet groups_unlisted shares_broken share_broken loads_uneven scaled_load share_of target groups_rise place union carrier group_size group_litres whole first_share second_share
computed = (tt, tt)

-- each starred list's plan passes, in either edition
pub starred-passes : (k : ℕ) → k < length starred
    → (checked_row (example_list edition1 (get_or starred k no_sites)) (example_plan edition1 (get_or starred k no_sites)) ≡ none)
    × (checked_row (example_list edition2 (get_or starred k no_sites)) (example_plan edition2 (get_or starred k no_sites)) ≡ none)
starred-passes k l = (passes edition1 computed.0, passes edition2 computed.1)
  where
    passes : (e : Edition) → T (all (λ k. is_none (starred_row e k)) (length starred)) → starred_row e k ≡ none
    passes e t = is_none→ _ (all-at (λ k. is_none (starred_row e k)) (length starred) t k l)

-- "No sites: no groups; plan 50 4C 00 00 00 passes."
pub no-sites-passes : checked_row (0x4_c ∷ 0x53 ∷ 0 ∷ 0 ∷ []) (0x50 ∷ 0x4_c ∷ 0 ∷ 0 ∷ 0 ∷ []) ≡ none
unfolding check_row read_list read_plan value records sum all any has weigh size network crews_above sites_uncrewed first_row plan_rows groups_meet groups_unlisted shares_broken share_broken loads_uneven scaled_load share_of target groups_rise place union carrier group_size group_litres whole first_share second_share
no-sites-passes = refl

pub T-passes : checked_row list_t plan_t ≡ none
unfolding check_row read_list read_plan value records sum all any has weigh size network crews_above sites_uncrewed first_row plan_rows groups_meet groups_unlisted shares_broken share_broken loads_uneven scaled_load share_of target groups_rise place union carrier group_size group_litres whole first_share second_share
T-passes = refl

pub T-is : (example_list edition1 (get_or starred 1 no_sites) ≡ list_t) × (example_plan edition1 (get_or starred 1 no_sites) ≡ plan_t)
unfolding starred list_bytes plan_bytes flat_map le
T-is = (refl, refl)

-- the examples of rows 1 to 16: each gets its row
computed-rows : T (all (λ k. has_row (checked_row (get_or refusals k (given [] [])).list (get_or refusals k (given [] [])).plan) (k + 1)) (length refusals))
unfolding has_row refusals check_row read_list read_plan value records sum all any has weigh size network crews_above sites_uncrewed first_row plan_rows groups_meet groups_unlisted shares_broken share_broken loads_uneven scaled_load share_of target groups_rise place union carrier group_size group_litres whole first_share second_share
computed-rows = tt

pub rows-refused : (k : ℕ) → k < length refusals → checked_row (get_or refusals k (given [] [])).list (get_or refusals k (given [] [])).plan ≡ some (k + 1)
rows-refused k l =
    has_row→ _ _ (all-at (λ k. has_row (checked_row (get_or refusals k (given [] [])).list (get_or refusals k (given [] [])).plan) (k + 1)) (length refusals) computed-rows k l)

-- ---- edition 2

pub Big-passes : checked_row list_big plan_big ≡ none
unfolding check_row read_list read_plan value records sum all any has weigh size network crews_above sites_uncrewed first_row plan_rows groups_meet groups_unlisted shares_broken share_broken loads_uneven scaled_load share_of target groups_rise place union carrier group_size group_litres whole first_share second_share
Big-passes = refl

-- three crews and one: depot 0 has 36 of 48, three times what depot 1 has
pub Rolled-passes : checked_row list_rolled (plan2 (share2 36)) ≡ none
unfolding check_row read_list read_plan value records sum all any has weigh size network crews_above sites_uncrewed first_row plan_rows groups_meet groups_unlisted shares_broken share_broken loads_uneven scaled_load share_of target groups_rise place union carrier group_size group_litres whole first_share second_share
Rolled-passes = refl

-- depots 2 and 3, which no site names, are the last group; and where there is no site at all, the only one
pub Opened-passes : checked_row list_opened (plan_of2 (3 ∷ 12 ∷ []) (share2 36)) ≡ none
unfolding check_row read_list read_plan value records sum all any has weigh size network crews_above sites_uncrewed first_row plan_rows groups_meet groups_unlisted shares_broken share_broken loads_uneven scaled_load share_of target groups_rise place union carrier group_size group_litres whole first_share second_share
Opened-passes = refl

pub no-sites-pass : checked_row (0x4_c ∷ 0x32 ∷ 0x00 ∷ 0x00 ∷ 0x44 ∷ 0x52 ∷ crews_of_four) (0x50 ∷ 0x32 ∷ 0x01 ∷ 0x00 ∷ 0x00 ∷ group 15 []) ≡ none
unfolding check_row read_list read_plan value records sum all any has weigh size network crews_above sites_uncrewed first_row plan_rows groups_meet groups_unlisted shares_broken share_broken loads_uneven scaled_load share_of target groups_rise place union carrier group_size group_litres whole first_share second_share
no-sites-pass = refl

-- the row of one of them, by the list's edition
abbrev row2 : ℕ → Option ℕ
row2 k = let g = (get_or refusals2 k (gets 0 [] [])).given in checked_row g.list g.plan

computed-rows2 : T (all (λ k. has_row (row2 k) (get_or refusals2 k (gets 0 [] [])).row) (length refusals2))
unfolding has_row refusals2 check_row read_list read_plan value records sum all any has weigh size network crews_above sites_uncrewed first_row plan_rows groups_meet groups_unlisted shares_broken share_broken loads_uneven scaled_load share_of target groups_rise place union carrier group_size group_litres whole first_share second_share
computed-rows2 = tt

pub rows-refused2 : (k : ℕ) → k < length refusals2
    → let g = (get_or refusals2 k (gets 0 [] [])).given in checked_row g.list g.plan ≡ some (get_or refusals2 k (gets 0 [] [])).row
rows-refused2 k l = has_row→ _ _ (all-at (λ k. has_row (row2 k) (get_or refusals2 k (gets 0 [] [])).row) (length refusals2) computed-rows2 k l)
