-- Document 01, "When the gate stays shut": the examples of rows 1 to 16, as bytes. Document 02, c: rows of its longer records; g: rows of rolls; h: rows of
-- depots without sites.
use Rattle.std.specs.Prelude.{List, [], ◌∷◌, ℕ, length, replicate}
use Rattle.records.specs.Samples.{list_t, plan_t, list_big, plan_big, list_with, list_rolled, list_opened}

-- what Check is given
pub record Given : Type 0 where
  pub list : List ℕ
  pub plan : List ℕ

abbrev pub given : List ℕ → List ℕ → Given
given list plan = record { list = list; plan = plan }

-- "4C 53, site count (2 bytes)"; "53 54, first depot (1), second depot (1), litres (2)"
abbrev pub head : ℕ → List ℕ → List ℕ
head n rest = 0x4C ∷ 0x53 ∷ n ∷ 0x00 ∷ rest

abbrev pub site : ℕ → ℕ → ℕ → List ℕ → List ℕ
site f s w rest = 0x53 ∷ 0x54 ∷ f ∷ s ∷ w ∷ 0x00 ∷ rest

-- "50 4C, group count (1), site count (2)"; "47 52 and a set (8)"; "53 48 and s (4)"
abbrev pub plan : ℕ → ℕ → List ℕ → List ℕ
plan groups sites rest = 0x50 ∷ 0x4C ∷ groups ∷ sites ∷ 0x00 ∷ rest

abbrev pub group : ℕ → List ℕ → List ℕ
group g rest = 0x47 ∷ 0x52 ∷ g ∷ 0x00 ∷ 0x00 ∷ 0x00 ∷ 0x00 ∷ 0x00 ∷ 0x00 ∷ 0x00 ∷ rest

abbrev pub share : ℕ → List ℕ → List ℕ
share x rest = 0x53 ∷ 0x48 ∷ x ∷ 0x00 ∷ 0x00 ∷ 0x00 ∷ rest

-- the example of each row, from row 1 on; document 01 gives no shares with those of rows 12 and 13, and s = 10 is used
unfoldable pub refusals : List Given
refusals =
    -- no bytes
    given [] []
    -- 4C 53 01 02
    ∷ given (0x4C ∷ 0x53 ∷ 0x01 ∷ 0x02 ∷ []) []
    -- T's list less its last byte
    ∷ given (head 1 (0x53 ∷ 0x54 ∷ 0x00 ∷ 0x01 ∷ 0x0A ∷ [])) []
    -- T's list with 53 55
    ∷ given (head 1 (0x53 ∷ 0x55 ∷ 0x00 ∷ 0x01 ∷ 0x0A ∷ 0x00 ∷ [])) []
    -- site 53 54 00 40 0A 00
    ∷ given (head 1 (site 0x00 0x40 0x0A [])) []
    -- site 53 54 00 01 00 00
    ∷ given (head 1 (site 0x00 0x01 0x00 [])) []
    -- 50 4D 01 01 00
    ∷ given list_t (0x50 ∷ 0x4D ∷ 0x01 ∷ 0x01 ∷ 0x00 ∷ [])
    -- 50 4C 41 01 00
    ∷ given list_t (plan 0x41 1 [])
    -- T, 50 4C 01 02 00
    ∷ given list_t (plan 1 2 [])
    -- T's plan and one byte
    ∷ given list_t (plan 1 1 (group 3 (share 10 (0x00 ∷ []))))
    -- T's plan with 53 47
    ∷ given list_t (plan 1 1 (group 3 (0x53 ∷ 0x47 ∷ 0x0A ∷ 0x00 ∷ 0x00 ∷ 0x00 ∷ [])))
    -- T, groups {0}, {0,1}
    ∷ given list_t (plan 2 1 (group 1 (group 3 (share 10 []))))
    -- T, group {0}
    ∷ given list_t (plan 1 1 (group 1 (share 10 [])))
    -- T, s = 21
    ∷ given list_t (plan 1 1 (group 3 (share 21 [])))
    -- T, s = 11
    ∷ given list_t (plan 1 1 (group 3 (share 11 [])))
    -- own sites 0 and 1 of 4, groups {0}, {1}, shares 4, 4
    ∷ given (head 2 (site 0 0 4 (site 1 1 4 []))) (plan 2 2 (group 1 (group 2 (share 4 (share 4 [])))))
    ∷ []

-- a row, and what gets it
pub record Refusal : Type 0 where
  pub row : ℕ
  pub given : Given

abbrev pub gets : ℕ → List ℕ → List ℕ → Refusal
gets n list plan = record { row = n; given = given list plan }

-- Document 02, c: "List edition 2 begins 4C 32", "Plan edition 2 begins 50 32"; here one site, and groups of depots below 8
abbrev pub head2 : List ℕ → List ℕ
head2 rest = 0x4C ∷ 0x32 ∷ 0x01 ∷ 0x00 ∷ rest

abbrev pub groups2 : List ℕ → List ℕ → List ℕ
groups2 [] rest = rest
groups2 (g ∷ gs) rest = group g (groups2 gs rest)

abbrev pub plan_of2 : List ℕ → List ℕ → List ℕ
plan_of2 gs rest = 0x50 ∷ 0x32 ∷ length gs ∷ 0x01 ∷ 0x00 ∷ groups2 gs rest

abbrev pub plan2 : List ℕ → List ℕ
plan2 = plan_of2 (3 ∷ [])

-- s, below 256, in 8 bytes
abbrev pub share2 : ℕ → List ℕ
share2 x = 0x53 ∷ 0x33 ∷ x ∷ 0x00 ∷ 0x00 ∷ 0x00 ∷ 0x00 ∷ 0x00 ∷ 0x00 ∷ 0x00 ∷ []

-- one site of 70,000 litres (`list_big`) and its plan, changed; then one of 12 litres between depots of three crews and one (`list_rolled`), changed; then the same with depots without sites (`list_opened`)
unfoldable pub refusals2 : List Refusal
refusals2 =
    -- a list of neither edition
    gets 1 (0x4C ∷ 0x33 ∷ 0x01 ∷ 0x00 ∷ 0x53 ∷ 0x32 ∷ 0x00 ∷ 0x01 ∷ 0x70 ∷ 0x11 ∷ 0x01 ∷ 0x00 ∷ []) plan_big
    -- litres in 2 bytes
    ∷ gets 3 (head2 (0x53 ∷ 0x32 ∷ 0x00 ∷ 0x01 ∷ 0x70 ∷ 0x11 ∷ [])) plan_big
    -- the site mark of edition 1
    ∷ gets 4 (head2 (0x53 ∷ 0x54 ∷ 0x00 ∷ 0x01 ∷ 0x70 ∷ 0x11 ∷ 0x01 ∷ 0x00 ∷ [])) plan_big
    -- no litres
    ∷ gets 6 (head2 (0x53 ∷ 0x32 ∷ 0x00 ∷ 0x01 ∷ 0x00 ∷ 0x00 ∷ 0x00 ∷ 0x00 ∷ [])) plan_big
    -- "Each edition of plan passes only with its own edition of list, and row 7 refuses the other"
    ∷ gets 7 list_big plan_t
    ∷ gets 7 list_t plan_big
    -- also where there is no site, and nothing else refuses
    ∷ gets 7 (0x4C ∷ 0x32 ∷ 0x00 ∷ 0x00 ∷ []) (0x50 ∷ 0x4C ∷ 0x00 ∷ 0x00 ∷ 0x00 ∷ [])
    ∷ gets 7 (0x4C ∷ 0x53 ∷ 0x00 ∷ 0x00 ∷ []) (0x50 ∷ 0x32 ∷ 0x00 ∷ 0x00 ∷ 0x00 ∷ [])
    -- s in 4 bytes
    ∷ gets 10 list_big (plan2 (0x53 ∷ 0x33 ∷ 0x70 ∷ 0x11 ∷ 0x01 ∷ 0x00 ∷ []))
    -- the share mark of edition 1
    ∷ gets 11 list_big (plan2 (0x53 ∷ 0x48 ∷ 0x70 ∷ 0x11 ∷ 0x01 ∷ 0x00 ∷ 0x00 ∷ 0x00 ∷ 0x00 ∷ 0x00 ∷ []))
    -- s = 70,000 + 2^32: the high half counts
    ∷ gets 14 list_big (plan2 (0x53 ∷ 0x33 ∷ 0x70 ∷ 0x11 ∷ 0x01 ∷ 0x00 ∷ 0x01 ∷ 0x00 ∷ 0x00 ∷ 0x00 ∷ []))
    -- s = 70,001
    ∷ gets 15 list_big (plan2 (0x53 ∷ 0x33 ∷ 0x71 ∷ 0x11 ∷ 0x01 ∷ 0x00 ∷ 0x00 ∷ 0x00 ∷ 0x00 ∷ 0x00 ∷ []))
    -- no litres, and a roll byte of 10: row 6 is before row 22
    ∷ gets 6 (head2 (0x53 ∷ 0x32 ∷ 0x00 ∷ 0x01 ∷ 0x00 ∷ 0x00 ∷ 0x00 ∷ 0x00 ∷ 0x44 ∷ 0x52 ∷ 10 ∷ replicate 63 0)) []
    -- a roll byte of 10, and a site's depot without crews; then that depot alone; each with no plan, so that row 7 would refuse it
    ∷ gets 22 (list_with (0x44 ∷ 0x52 ∷ 0 ∷ 1 ∷ 10 ∷ replicate 61 0)) []
    ∷ gets 23 (list_with (0x44 ∷ 0x52 ∷ 3 ∷ 0 ∷ replicate 62 1)) []
    -- s = 24 of 48, where three crews are to have 36
    ∷ gets 15 list_rolled (plan2 (share2 24))
    -- depots 2 and 3 have crews and no site (`list_opened`): left out, one of them left out, each in a group of its own, joined to the group before, in a group before it
    ∷ gets 13 list_opened (plan2 (share2 36))
    ∷ gets 13 list_opened (plan_of2 (3 ∷ 4 ∷ []) (share2 36))
    ∷ gets 16 list_opened (plan_of2 (3 ∷ 4 ∷ 8 ∷ []) (share2 36))
    ∷ gets 15 list_opened (plan_of2 (15 ∷ []) (share2 63))
    ∷ gets 16 list_opened (plan_of2 (12 ∷ 3 ∷ []) (share2 36))
    ∷ []
