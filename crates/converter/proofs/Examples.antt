-- The converters' definition on T and on sites at the edge of what goes back, computed: what is written, and which row refuses first. Assumes nothing.
use mathlib.Core.Path.{◌≡◌, refl}
use mathlib.Core.List.{[], ◌∷◌, flat_map}
use lib.ListN.{replicate}
use Rattle.sets.specs.Sum.{sum, all, any}
use Rattle.sets.specs.Set.{has, weigh}
use Rattle.density.specs.Network.{network, crews_above, sites_uncrewed, size}
use Rattle.density.specs.Plan.{union, place, carrier, group_size, group_litres, whole, first_share, second_share, share_of, target}
use Rattle.density.specs.Rows.{first_row, groups_meet, groups_unlisted, share_broken, shares_broken, scaled_load, loads_uneven, groups_rise, plan_rows}
use Rattle.records.specs.Bytes.{le, value}
use Rattle.records.specs.Record.{records}
use Rattle.records.specs.Outcome.{refused, passed}
use Rattle.records.specs.Format.{read_list, read_plan}
use Rattle.records.specs.Write.{list_bytes, plan_bytes}
use Rattle.records.specs.Samples.{list_t, plan_t, list_big, plan_big, crews_three_one, list_with, list_rolled}
use Rattle.converter.specs.Convert.{upgrade, downgrade, outside, convert_list, convert_plan}
use Rattle.converter.specs.Examples.{room, list_t2, plan_t2, uneven_t2, list65535, list65535-2, list65536-2, list65536-64}

-- T with its plan, there and back, in buffers that just have room; "row 20 comes last and covers a buffer too short for what is converted, the list's first"; "then the plan by rows 7 to 16",
-- here row 15, before row 20
pub T-converted : (convert_plan upgrade list_t plan_t (room 12) (room 25) ≡ passed (record { list = list_t2; plan = plan_t2 }))
    × (convert_plan downgrade list_t2 plan_t2 (room 10) (room 21) ≡ passed (record { list = list_t; plan = plan_t }))
    × (convert_plan upgrade list_t plan_t (room 11) (room 25) ≡ refused 20) × (convert_plan upgrade list_t plan_t (room 12) (room 24) ≡ refused 20)
    × (convert_plan downgrade list_t2 plan_t2 (room 9) (room 21) ≡ refused 20) × (convert_plan downgrade list_t2 plan_t2 (room 10) (room 20) ≡ refused 20)
    × (convert_plan downgrade list_t2 uneven_t2 [] [] ≡ refused 15)
unfolding outside crews_above sites_uncrewed read_list read_plan list_bytes plan_bytes flat_map le value records sum all any has weigh size network first_row plan_rows groups_meet groups_unlisted shares_broken share_broken loads_uneven scaled_load share_of target groups_rise place union carrier group_size group_litres whole first_share second_share
T-converted = (refl, refl, refl, refl, refl, refl, refl)

-- "Each way takes one edition only, and row 1 or row 7 refuses the other"
pub T-own-edition : (convert_list upgrade list_t2 [] ≡ refused 1) × (convert_list downgrade list_t [] ≡ refused 1)
    × (convert_plan upgrade list_t plan_t2 [] [] ≡ refused 7) × (convert_plan downgrade list_t2 plan_t [] [] ≡ refused 7)
unfolding outside crews_above sites_uncrewed read_list read_plan list_bytes flat_map le value records any first_row
T-own-edition = (refl, refl, refl, refl)

-- "21, going back, if a site's litres are outside 1 to 65,535"
pub row-21-edge : (convert_list downgrade list65535-2 (room 10) ≡ passed list65535) × (convert_list upgrade list65535 (room 12) ≡ passed list65535-2)
    × (convert_list downgrade list65536-2 (room 10) ≡ refused 21) × (convert_list downgrade list_big (room 10) ≡ refused 21)
unfolding outside crews_above sites_uncrewed read_list list_bytes flat_map le value records any first_row
row-21-edge = (refl, refl, refl, refl)

-- "after all rows of the list, before the plan is read": row 5 of the list goes before it, row 7 of the plan and row 20 behind it
pub row-21-between : (convert_plan downgrade list65536-64 plan_big [] [] ≡ refused 5) × (convert_plan downgrade list65536-2 [] [] [] ≡ refused 21)
unfolding outside crews_above sites_uncrewed read_list list_bytes flat_map le value records any first_row
row-21-between = (refl, refl)

-- "row 21 also refuses a list with" a roll: after rows 22 and 23, before the plan
pub row-21-roll : (convert_list downgrade list_rolled (room 10) ≡ refused 21) × (convert_plan downgrade list_rolled [] [] [] ≡ refused 21)
    × (convert_list downgrade (list_with (0x44 ∷ 0x52 ∷ 10 ∷ crews_three_one)) [] ≡ refused 3) × (convert_list downgrade (list_with (0x44 ∷ 0x52 ∷ 10 ∷ 1 ∷ replicate 62 0)) [] ≡ refused 22)
    × (convert_list downgrade (list_with (0x44 ∷ 0x52 ∷ 3 ∷ 0 ∷ replicate 62 0)) [] ≡ refused 23)
unfolding outside crews_above sites_uncrewed read_list list_bytes flat_map le value records any first_row
row-21-roll = (refl, refl, refl, refl, refl)
