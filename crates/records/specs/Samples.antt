-- Document 01, "Records and their marks": T and its plan, as bytes; and "Own 0 of 7" of its lists with known plans. Document 02, c: a site of 70,000 litres and its plan, in edition 2; g: a list
-- with a roll and its plan.
use Rattle.std.specs.Prelude.{List, [], ◌∷◌, ℕ, replicate}
use Rattle.std.proofs.Math.Option.{none, some}
use Rattle.density.specs.Network.{Listing}
use Rattle.records.specs.Values.{Plan}

-- "T is the list 4C 53 01 00 53 54 00 01 0A 00."
abbrev pub list_t : List ℕ
list_t = 0x4C ∷ 0x53 ∷ 0x01 ∷ 0x00 ∷ 0x53 ∷ 0x54 ∷ 0x00 ∷ 0x01 ∷ 0x0A ∷ 0x00 ∷ []

-- "Its plan is 50 4C 01 01 00 47 52 03 00 00 00 00 00 00 00 53 48 0A 00 00 00."
abbrev pub plan_t : List ℕ
plan_t =
    0x50 ∷ 0x4C ∷ 0x01 ∷ 0x01 ∷ 0x00
    ∷ 0x47 ∷ 0x52 ∷ 0x03 ∷ 0x00 ∷ 0x00 ∷ 0x00 ∷ 0x00 ∷ 0x00 ∷ 0x00 ∷ 0x00
    ∷ 0x53 ∷ 0x48 ∷ 0x0A ∷ 0x00 ∷ 0x00 ∷ 0x00 ∷ []

-- "Own 0 of 7"
abbrev pub list_own : List ℕ
list_own = 0x4C ∷ 0x53 ∷ 0x01 ∷ 0x00 ∷ 0x53 ∷ 0x54 ∷ 0x00 ∷ 0x00 ∷ 0x07 ∷ 0x00 ∷ []

-- one site between 0 and 1, of 70,000 litres
abbrev pub Big : Listing
Big = record { sites = record { first = 0; second = 1; litres = 70000 } ∷ []; roll = none }

abbrev pub list_big : List ℕ
list_big = 0x4C ∷ 0x32 ∷ 0x01 ∷ 0x00 ∷ 0x53 ∷ 0x32 ∷ 0x00 ∷ 0x01 ∷ 0x70 ∷ 0x11 ∷ 0x01 ∷ 0x00 ∷ []

-- one group of both depots, and s = 70,000 of 140,000: each brings half
abbrev pub plan_of_big : Plan
plan_of_big = record { groups = 3 ∷ []; shares = 70000 ∷ [] }

abbrev pub plan_big : List ℕ
plan_big =
    0x50 ∷ 0x32 ∷ 0x01 ∷ 0x01 ∷ 0x00
    ∷ 0x47 ∷ 0x52 ∷ 0x03 ∷ 0x00 ∷ 0x00 ∷ 0x00 ∷ 0x00 ∷ 0x00 ∷ 0x00 ∷ 0x00
    ∷ 0x53 ∷ 0x33 ∷ 0x70 ∷ 0x11 ∷ 0x01 ∷ 0x00 ∷ 0x00 ∷ 0x00 ∷ 0x00 ∷ 0x00 ∷ []

-- one site between 0 and 1, of 12 litres, with three crews and one
abbrev pub crews_three_one : List ℕ
crews_three_one = 3 ∷ 1 ∷ replicate 62 0

abbrev pub Rolled : Listing
Rolled = record { sites = record { first = 0; second = 1; litres = 12 } ∷ []; roll = some crews_three_one }

-- the list's bytes, with these bytes of a roll behind them
abbrev pub list_with : List ℕ → List ℕ
list_with roll = 0x4C ∷ 0x32 ∷ 0x01 ∷ 0x00 ∷ 0x53 ∷ 0x32 ∷ 0x00 ∷ 0x01 ∷ 0x0C ∷ 0x00 ∷ 0x00 ∷ 0x00 ∷ roll

abbrev pub list_rolled : List ℕ
list_rolled = list_with (0x44 ∷ 0x52 ∷ crews_three_one)

-- one group of both depots with W = 12 and q = 4, and s = 36 of 48: depot 0 brings three times what depot 1 brings
abbrev pub plan_of_rolled : Plan
plan_of_rolled = record { groups = 3 ∷ []; shares = 36 ∷ [] }

-- Document 02, h: the same site and crews, and two crews of depot 2 and one of depot 3, which no site names
abbrev pub crews_of_four : List ℕ
crews_of_four = 3 ∷ 1 ∷ 2 ∷ 1 ∷ replicate 60 0

abbrev pub Opened : Listing
Opened = record { sites = Rolled.sites; roll = some crews_of_four }

abbrev pub list_opened : List ℕ
list_opened = list_with (0x44 ∷ 0x52 ∷ crews_of_four)

-- the group {0,1} as before, and {2,3} behind it with W = 0 and q = 3
abbrev pub plan_of_opened : Plan
plan_of_opened = record { groups = 3 ∷ 12 ∷ []; shares = 36 ∷ [] }
