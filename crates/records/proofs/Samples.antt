-- The list T of document 01, its plan, and refusals, a list and a plan of edition 2, a list with a roll, by computation; the marks of both editions have two bytes, which the round trips ask. Assumes nothing.
use mathlib.Core.List.{List, [], ◌∷◌, ◌++◌}
use mathlib.Core.Option.{none}
use mathlib.Core.Path.{◌≡◌, refl}
use lib.Dec.{lit<}
use lib.ListN.{replicate}
use Rattle.sets.specs.Sum.{any}
use Rattle.density.specs.Network.{Listing, crews_above, sites_uncrewed}
use Rattle.density.specs.Rows.{first_row}
use Rattle.records.specs.Values.{Plan}
use Rattle.records.specs.Bytes.{le, value}
use Rattle.records.specs.Record.{records}
use Rattle.records.specs.Outcome.{refused, passed}
use Rattle.records.specs.Format.{edition1, edition2, edition_of, read_list, read_plan}
use Rattle.records.specs.Samples.{list_t, plan_t, Big, list_big, plan_of_big, plan_big, crews_three_one, Rolled, list_with, list_rolled}
use Rattle.records.specs.Write.{list_bytes, plan_bytes, Marked}

abbrev pub T : Listing
T = record { sites = record { first = 0; second = 1; litres = 10 } ∷ []; roll = none }

abbrev pub plan_of_t : Plan
plan_of_t = record { groups = 3 ∷ []; shares = 10 ∷ [] }

pub T-read : read_list edition1 512 list_t ≡ passed T
unfolding read_list first_row records any value crews_above sites_uncrewed
T-read = refl

pub T-written : list_bytes edition1 T ≡ list_t
unfolding list_bytes le mathlib.Core.List.flat_map
T-written = refl

pub plan_t-read : read_plan edition1 1 plan_t ≡ passed plan_of_t
unfolding read_plan first_row records any value
plan_t-read = refl

pub plan_t-written : plan_bytes edition1 plan_of_t ≡ plan_t
unfolding plan_bytes le mathlib.Core.List.flat_map
plan_t-written = refl

-- no bytes; 513 sites, with no record behind; a site mark wrong and, before it, a depot above 63
pub none-refused : read_list edition1 512 [] ≡ refused 1
unfolding read_list first_row records any value crews_above sites_uncrewed
none-refused = refl

pub many-refused : read_list edition1 512 (0x4C ∷ 0x53 ∷ 0x01 ∷ 0x02 ∷ []) ≡ refused 2
unfolding read_list first_row records any value crews_above sites_uncrewed
many-refused = refl

pub marks-first : read_list edition1 512
    (0x4C ∷ 0x53 ∷ 0x02 ∷ 0x00 ∷ 0x53 ∷ 0x54 ∷ 0x00 ∷ 0x40 ∷ 0x0A ∷ 0x00 ∷ 0x53 ∷ 0x55 ∷ 0x00 ∷ 0x01 ∷ 0x0A ∷ 0x00 ∷ []) ≡ refused 4
unfolding read_list first_row records any value crews_above sites_uncrewed
marks-first = refl

-- T, 50 4C 01 02 00
pub sites-refused : read_plan edition1 1 (0x50 ∷ 0x4C ∷ 0x01 ∷ 0x02 ∷ 0x00 ∷ []) ≡ refused 9
unfolding read_plan first_row records any value
sites-refused = refl

pub marked1 : Marked edition1
marked1 = record { list = lit< tt; site = lit< tt; plan = lit< tt; group = lit< tt; share = lit< tt; roll = lit< tt }

-- ---- edition 2

pub Big-read : read_list edition2 512 list_big ≡ passed Big
unfolding read_list first_row records any value crews_above sites_uncrewed
Big-read = refl

pub Big-written : list_bytes edition2 Big ≡ list_big
unfolding list_bytes le mathlib.Core.List.flat_map
Big-written = refl

pub plan_big-read : read_plan edition2 1 plan_big ≡ passed plan_of_big
unfolding read_plan first_row records any value
plan_big-read = refl

pub plan_big-written : plan_bytes edition2 plan_of_big ≡ plan_big
unfolding plan_bytes le mathlib.Core.List.flat_map
plan_big-written = refl

-- ---- rolls

pub Rolled-read : read_list edition2 512 list_rolled ≡ passed Rolled
unfolding read_list first_row records any value crews_above sites_uncrewed
Rolled-read = refl

pub Rolled-written : list_bytes edition2 Rolled ≡ list_rolled
unfolding list_bytes le mathlib.Core.List.flat_map
Rolled-written = refl

-- a roll short of a byte, one with another mark, one with a byte 10 and a named depot without crews, one with a named depot without crews; and a roll in edition 1
pub rolls-refused :
    (read_list edition2 512 (list_with (0x44 ∷ 0x52 ∷ 3 ∷ 1 ∷ replicate 61 0)) ≡ refused 3)
    × (read_list edition2 512 (list_with (0x44 ∷ 0x53 ∷ crews_three_one)) ≡ refused 4)
    × (read_list edition2 512 (list_with (0x44 ∷ 0x52 ∷ 0 ∷ 1 ∷ 10 ∷ replicate 61 0)) ≡ refused 22)
    × (read_list edition2 512 (list_with (0x44 ∷ 0x52 ∷ 3 ∷ 0 ∷ replicate 62 1)) ≡ refused 23)
    × (read_list edition1 512 (list_t ++ (0x44 ∷ 0x52 ∷ crews_three_one)) ≡ refused 3)
unfolding read_list first_row records any value crews_above sites_uncrewed
rolls-refused = (refl, refl, refl, refl, refl)

-- the edition of a list, and that each edition refuses the other's list and plan
pub editions-told : (edition_of list_t ≡ edition1) × (edition_of list_big ≡ edition2) × (edition_of (0x4C ∷ 0x33 ∷ []) ≡ edition1) × (edition_of (0x4C ∷ []) ≡ edition1)
unfolding value
editions-told = (refl, refl, refl, refl)

pub lists-refused : (read_list edition1 512 list_big ≡ refused 1) × (read_list edition2 512 list_t ≡ refused 1)
unfolding read_list first_row records any value crews_above sites_uncrewed
lists-refused = (refl, refl)

pub plans-refused : (read_plan edition1 1 plan_big ≡ refused 7) × (read_plan edition2 1 plan_t ≡ refused 7)
unfolding read_plan first_row records any value
plans-refused = (refl, refl)

pub marked2 : Marked edition2
marked2 = record { list = lit< tt; site = lit< tt; plan = lit< tt; group = lit< tt; share = lit< tt; roll = lit< tt }
