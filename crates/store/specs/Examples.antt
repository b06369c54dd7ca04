-- Document 01: histories of T, of two own sites of 4 and of two sites of one pair on a table of two places, with their replies, the rows of every call
-- among them. Document 02, a: a history of thresholds; b: one of lists written out; c: one of edition 2; e: one that goes over to edition 2; g: one of crews; h: one of
-- depots without sites.
use Rattle.std.specs.Prelude.{List, [], ◌∷◌, ◌++◌, map, ℕ, pos, get_or, replicate}
use Rattle.std.proofs.Math.Option.{Option, none, some}
use Rattle.density.specs.declared.Site.{Site}
use Rattle.density.specs.Network.{Listing}
use Rattle.density.specs.Examples.{pair, own}
use Rattle.records.specs.Values.{Plan}
use Rattle.records.specs.declared.Edition.{Edition}
use Rattle.records.specs.Format.{edition1, edition2}
use Rattle.records.specs.Samples.{list_t, plan_t, list_big, plan_big, crews_three_one, Rolled, list_with, list_rolled, plan_of_rolled, crews_of_four, Opened, list_opened, plan_of_opened}
use Rattle.judge.specs.Refusals.{group, share, plan2, plan_of2, share2}
use Rattle.store.specs.declared.Request.{Request}
use Rattle.store.specs.declared.Request.TheVariants.{Load, Change, Add, Propose, Share, Depot, Difference, Written, AtLeast, ListWritten}
use Rattle.store.specs.Calls.{Call, Event, called, migrate, Reply, Told, unbuffered, refused, done, shared, loaded, differ, wrote, reached}
use Rattle.store.specs.Model.{Model, migrated_model}

abbrev pub call : Request → List ℕ → List ℕ → Call
call q i o = record { request = q; input = i; buffer = o }

-- calls as the events of a history
abbrev pub events : List Call → List Event
events = map called

abbrev pub reply : Told → List ℕ → Reply
reply a o = record { answer = a; buffer = o }

-- a list without a roll
abbrev pub plain : List Site → Listing
plain sites = record { sites = sites; roll = none }

abbrev pub model_by : Edition → Listing → Option Plan → Model
model_by e l p = record { edition = e; places = 2; list = l; plan = p }

abbrev pub model : Listing → Option Plan → Model
model l p = model_by edition1 l p

-- ---- T: its list, its plan, and the same with s = 11, where both shares add up to the whole and are not level

abbrev pub plans_t : ℕ → List ℕ
plans_t x = 0x50 ∷ 0x4C ∷ 0x01 ∷ 0x01 ∷ 0x00 ∷ group 0x03 (share x [])

abbrev pub calls_t : List Call
calls_t =
    call Load list_t []
    ∷ call Propose (plans_t 0x0A) []
    ∷ call (Share 0) [] []
    ∷ call (Depot 0) [] []
    ∷ call (Difference 0 1) [] []
    ∷ call Written [] (replicate 22 7)
    ∷ call Propose (plans_t 0x0B) []
    ∷ call (Depot 1) [] []
    ∷ []

abbrev pub replies_t : List Reply
replies_t =
    reply done []
    ∷ reply done []
    ∷ reply (shared 10 20) []
    ∷ reply (loaded 10 2) []
    ∷ reply (differ (pos 0) 4) []
    ∷ reply (wrote 21) (plans_t 0x0A ++ (7 ∷ []))
    ∷ reply (refused 15) []
    ∷ reply (loaded 10 2) []
    ∷ []

abbrev pub sites_t : Listing
sites_t = plain (pair 0 1 10 ∷ [])

abbrev pub loaded_t : Model
loaded_t = model sites_t none

abbrev pub planned_t : Model
planned_t = model sites_t (some (record { groups = 3 ∷ []; shares = 10 ∷ [] }))

-- ---- own 0 and own 1 of 4: groups {0}, {1} are level, and do not fall; {0,1} is the plan, and a change that changes nothing drops it

abbrev pub list_o : List ℕ
list_o =
    0x4C ∷ 0x53 ∷ 0x02 ∷ 0x00 ∷ 0x53 ∷ 0x54 ∷ 0x00 ∷ 0x00 ∷ 0x04 ∷ 0x00 ∷ 0x53 ∷ 0x54 ∷ 0x01 ∷ 0x01 ∷ 0x04 ∷ 0x00 ∷ []

abbrev pub calls_o : List Call
calls_o =
    call Load list_o []
    ∷ call Propose (0x50 ∷ 0x4C ∷ 0x02 ∷ 0x02 ∷ 0x00 ∷ group 0x01 (group 0x02 (share 0x04 (share 0x04 [])))) []
    ∷ call (Depot 0) [] []
    ∷ call Propose (0x50 ∷ 0x4C ∷ 0x01 ∷ 0x02 ∷ 0x00 ∷ group 0x03 (share 0x08 (share 0x08 []))) []
    ∷ call (Change 0 4) [] []
    ∷ call (Depot 0) [] []
    ∷ []

abbrev pub replies_o : List Reply
replies_o = reply done [] ∷ reply (refused 16) [] ∷ reply (refused 17) [] ∷ reply done [] ∷ reply done [] ∷ reply (refused 17) [] ∷ []

abbrev pub sites_o : Listing
sites_o = plain (own 0 4 ∷ own 1 4 ∷ [])

abbrev pub loaded_o : Model
loaded_o = model sites_o none

abbrev pub planned_o : Model
planned_o = model sites_o (some (record { groups = 3 ∷ []; shares = 8 ∷ 8 ∷ [] }))

-- ---- (0,1) of 1 twice, which has several plans: two pass, and shares and the plan written out are those of the second

abbrev pub list_p : List ℕ
list_p =
    0x4C ∷ 0x53 ∷ 0x02 ∷ 0x00 ∷ 0x53 ∷ 0x54 ∷ 0x00 ∷ 0x01 ∷ 0x01 ∷ 0x00 ∷ 0x53 ∷ 0x54 ∷ 0x00 ∷ 0x01 ∷ 0x01 ∷ 0x00 ∷ []

abbrev pub plan_p : ℕ → ℕ → List ℕ
plan_p x y = 0x50 ∷ 0x4C ∷ 0x01 ∷ 0x02 ∷ 0x00 ∷ group 0x03 (share x (share y []))

abbrev pub calls_p : List Call
calls_p =
    call Load list_p []
    ∷ call Propose (plan_p 0x02 0x00) []
    ∷ call Propose (plan_p 0x00 0x02) []
    ∷ call (Share 0) [] []
    ∷ call Written [] (replicate 28 7)
    ∷ []

abbrev pub replies_p : List Reply
replies_p =
    reply done [] ∷ reply done [] ∷ reply done [] ∷ reply (shared 0 2) [] ∷ reply (wrote 27) (plan_p 0x00 0x02 ++ (7 ∷ [])) ∷ []

abbrev pub sites_p : Listing
sites_p = plain (pair 0 1 1 ∷ pair 0 1 1 ∷ [])

abbrev pub loaded_p : Model
loaded_p = model sites_p none

abbrev pub planned_p : ℕ → ℕ → Model
planned_p x y = model sites_p (some (record { groups = 3 ∷ []; shares = x ∷ y ∷ [] }))

-- ---- the rows of the calls: T on a desk of two places; where two rows apply, the first is given

abbrev pub calls_r : List Call
calls_r =
    call (Share 0) [] []
    ∷ call Load list_t []
    ∷ call (Change 1 0) [] []
    ∷ call (Change 1 5) [] []
    ∷ call (Add 64 0 0) [] []
    ∷ call (Add 0 1 0) [] []
    ∷ call (Add 0 1 1) [] []
    ∷ call (Add 64 0 0) [] []
    ∷ call Load list_t []
    ∷ call Propose (plans_t 0x0A) []
    ∷ call (Share 1) [] []
    ∷ call (Depot 2) [] []
    ∷ call (Difference 0 2) [] []
    ∷ call Written [] (replicate 20 7)
    ∷ []

abbrev pub replies_r : List Reply
replies_r =
    reply (refused 17) []
    ∷ reply done []
    ∷ reply (refused 6) []
    ∷ reply (refused 18) []
    ∷ reply (refused 5) []
    ∷ reply (refused 6) []
    ∷ reply done []
    ∷ reply (refused 2) []
    ∷ reply done []
    ∷ reply done []
    ∷ reply (refused 18) []
    ∷ reply (refused 19) []
    ∷ reply (refused 19) []
    ∷ reply (refused 20) (replicate 20 7)
    ∷ []

-- ---- thresholds: (0,1) of 9 and (1,2) of 1, where W/q is 9/2 of depots 0 and 1, and 1 of depot 2. 65,537 is 1 in 16 bits.
abbrev pub thresholds_m : List ℕ
thresholds_m = 0 ∷ 1 ∷ 2 ∷ 4 ∷ 5 ∷ 65537 ∷ 4294967295 ∷ []

-- {0,1,2} is 7, {0,1} 3
abbrev pub sets_m : List ℕ
sets_m = 7 ∷ 7 ∷ 3 ∷ 3 ∷ 0 ∷ 0 ∷ 0 ∷ []

abbrev pub list_m : List ℕ
list_m =
    0x4C ∷ 0x53 ∷ 0x02 ∷ 0x00 ∷ 0x53 ∷ 0x54 ∷ 0x00 ∷ 0x01 ∷ 0x09 ∷ 0x00 ∷ 0x53 ∷ 0x54 ∷ 0x01 ∷ 0x02 ∷ 0x01 ∷ 0x00 ∷ []

abbrev pub plan_m : List ℕ
plan_m = 0x50 ∷ 0x4C ∷ 0x02 ∷ 0x02 ∷ 0x00 ∷ group 0x03 (group 0x04 (share 0x09 (share 0x00 [])))

abbrev pub calls_m : List Call
calls_m =
    call Load list_m []
    ∷ call (AtLeast 0) [] []
    ∷ call Propose plan_m []
    ∷ map (λ (m : ℕ). call (AtLeast m) [] []) thresholds_m

abbrev pub replies_m : List Reply
replies_m =
    reply done []
    ∷ reply (refused 17) []
    ∷ reply done []
    ∷ map (λ (x : ℕ). reply (reached x) []) sets_m

abbrev pub sites_m : Listing
sites_m = plain (pair 0 1 9 ∷ pair 1 2 1 ∷ [])

abbrev pub loaded_m : Model
loaded_m = model sites_m none

abbrev pub planned_m : Model
planned_m = model sites_m (some (record { groups = 3 ∷ 4 ∷ []; shares = 9 ∷ 0 ∷ [] }))

-- ---- the list written out: of no sites, of T without a plan and with one, and of T and a site more; each in a buffer that is filled with 7

-- T and (0,1) of 513
abbrev pub list_l : List ℕ
list_l =
    0x4C ∷ 0x53 ∷ 0x02 ∷ 0x00 ∷ 0x53 ∷ 0x54 ∷ 0x00 ∷ 0x01 ∷ 0x0A ∷ 0x00 ∷ 0x53 ∷ 0x54 ∷ 0x00 ∷ 0x01 ∷ 0x01 ∷ 0x02 ∷ []

abbrev pub calls_l : List Call
calls_l =
    call ListWritten [] (replicate 4 7)
    ∷ call ListWritten [] (replicate 3 7)
    ∷ call Load list_t []
    ∷ call ListWritten [] (replicate 11 7)
    ∷ call ListWritten [] (replicate 9 7)
    ∷ call Propose (plans_t 0x0A) []
    ∷ call ListWritten [] (replicate 11 7)
    ∷ call (Add 0 1 513) [] []
    ∷ call ListWritten [] (replicate 16 7)
    ∷ []

abbrev pub replies_l : List Reply
replies_l =
    reply (wrote 4) (0x4C ∷ 0x53 ∷ 0x00 ∷ 0x00 ∷ [])
    ∷ reply (refused 20) (replicate 3 7)
    ∷ reply done []
    ∷ reply (wrote 10) (list_t ++ (7 ∷ []))
    ∷ reply (refused 20) (replicate 9 7)
    ∷ reply done []
    ∷ reply (wrote 10) (list_t ++ (7 ∷ []))
    ∷ reply done []
    ∷ reply (wrote 16) list_l
    ∷ []

abbrev pub added_l : Model
added_l = model (plain (pair 0 1 10 ∷ pair 0 1 513 ∷ [])) none

-- ---- edition 2: "A desk takes lists and plans of its own edition only; row 1 or row 7 refuses the other", and "its litres come as a 32-bit figure"

abbrev pub calls_b : List Call
calls_b =
    call Load list_t []
    ∷ call Load list_big []
    ∷ call Propose plan_t []
    ∷ call Propose plan_big []
    ∷ call (Share 0) [] []
    ∷ call (Depot 0) [] []
    ∷ call Written [] (replicate 26 7)
    ∷ call (Add 1 1 4294967295) [] []
    ∷ call ListWritten [] (replicate 20 7)
    ∷ []

-- the list with the site that was added
abbrev pub list_b : List ℕ
list_b =
    0x4C ∷ 0x32 ∷ 0x02 ∷ 0x00
    ∷ 0x53 ∷ 0x32 ∷ 0x00 ∷ 0x01 ∷ 0x70 ∷ 0x11 ∷ 0x01 ∷ 0x00
    ∷ 0x53 ∷ 0x32 ∷ 0x01 ∷ 0x01 ∷ 0xFF ∷ 0xFF ∷ 0xFF ∷ 0xFF ∷ []

abbrev pub replies_b : List Reply
replies_b =
    reply (refused 1) []
    ∷ reply done []
    ∷ reply (refused 7) []
    ∷ reply done []
    ∷ reply (shared 70000 140000) []
    ∷ reply (loaded 70000 2) []
    ∷ reply (wrote 25) (plan_big ++ (7 ∷ []))
    ∷ reply done []
    ∷ reply (wrote 20) list_b
    ∷ []

abbrev pub sites_b : Listing
sites_b = plain (pair 0 1 70000 ∷ [])

abbrev pub loaded_b : Model
loaded_b = model_by edition2 sites_b none

abbrev pub planned_b : Model
planned_b = model_by edition2 sites_b (some (record { groups = 3 ∷ []; shares = 70000 ∷ [] }))

abbrev pub added_b : Model
added_b = model_by edition2 (plain (pair 0 1 70000 ∷ own 1 4294967295 ∷ [])) none

-- ---- T goes over to edition 2 with its plan: a new table without places has too few, one of three has them; figures are as before, what is written out is in edition 2, lists
-- and plans of edition 1 are refused, and litres have 32 bits

abbrev pub list_e : List ℕ
list_e = 0x4C ∷ 0x32 ∷ 0x01 ∷ 0x00 ∷ 0x53 ∷ 0x32 ∷ 0x00 ∷ 0x01 ∷ 0x0A ∷ 0x00 ∷ 0x00 ∷ 0x00 ∷ []

abbrev pub plan_e : List ℕ
plan_e = 0x50 ∷ 0x32 ∷ 0x01 ∷ 0x01 ∷ 0x00 ∷ group 0x03 (0x53 ∷ 0x33 ∷ 0x0A ∷ 0x00 ∷ 0x00 ∷ 0x00 ∷ 0x00 ∷ 0x00 ∷ 0x00 ∷ 0x00 ∷ [])

abbrev pub before_e : List Call
before_e = call Load list_t [] ∷ call Propose plan_t [] ∷ []

abbrev pub after_e : List Call
after_e =
    call (Share 0) [] []
    ∷ call (Depot 0) [] []
    ∷ call Written [] (replicate 26 7)
    ∷ call Written [] (replicate 24 7)
    ∷ call ListWritten [] (replicate 13 7)
    ∷ call ListWritten [] (replicate 11 7)
    ∷ call Propose plan_t []
    ∷ call Load list_t []
    ∷ call (Add 1 1 65536) [] []
    ∷ call (Add 1 1 1) [] []
    ∷ call (Add 1 1 1) [] []
    ∷ []

-- z stands at each place of the new tables
abbrev pub events_e : Site → List Event
events_e z = events before_e ++ (migrate [] ∷ migrate (replicate 3 z) ∷ events after_e)

abbrev pub replies_e : List Reply
replies_e =
    reply done []
    ∷ reply done []
    ∷ unbuffered (refused 2)
    ∷ unbuffered done
    ∷ reply (shared 10 20) []
    ∷ reply (loaded 10 2) []
    ∷ reply (wrote 25) (plan_e ++ (7 ∷ []))
    ∷ reply (refused 20) (replicate 24 7)
    ∷ reply (wrote 12) (list_e ++ (7 ∷ []))
    ∷ reply (refused 20) (replicate 11 7)
    ∷ reply (refused 7) []
    ∷ reply (refused 1) []
    ∷ reply done []
    ∷ reply done []
    ∷ reply (refused 2) []
    ∷ []

-- the model of T with its plan, gone over to three places; and with sites more
abbrev pub over_t : Model
over_t = migrated_model planned_t 3

abbrev pub added_e : List Site → Model
added_e more = record { edition = edition2; places = 3; list = plain (pair 0 1 10 ∷ more); plan = none }

-- ---- crews, in edition 2: (0,1) of 12 litres, where depot 0 has three crews and depot 1 one

abbrev pub plan_c : ℕ → List ℕ
plan_c x = plan2 (share2 x)

-- the list with a roll that has these bytes for depots 0 and 1, and none for the others
abbrev pub list_crewed : ℕ → ℕ → List ℕ
list_crewed x y = list_with (0x44 ∷ 0x52 ∷ x ∷ y ∷ replicate 62 0)

-- A roll byte of 10, and depot 1 without a crew: row 22 comes first. s = 24 is level where each depot has one crew. Depot 2 has none. A site more leaves the roll, a list without one drops it.
abbrev pub calls_c : List Call
calls_c =
    call Load (list_crewed 10 0) []
    ∷ call Load (list_crewed 3 0) []
    ∷ call Load list_rolled []
    ∷ call Propose (plan_c 24) []
    ∷ call Propose (plan_c 36) []
    ∷ call (Depot 0) [] []
    ∷ call (Share 0) [] []
    ∷ call (Add 0 2 5) [] []
    ∷ call (Add 0 1 5) [] []
    ∷ call (Depot 0) [] []
    ∷ call ListWritten [] (replicate 87 7)
    ∷ call Load (list_with []) []
    ∷ []

-- the list with the site that was added, and its roll
abbrev pub list_c : List ℕ
list_c =
    0x4C ∷ 0x32 ∷ 0x02 ∷ 0x00
    ∷ 0x53 ∷ 0x32 ∷ 0x00 ∷ 0x01 ∷ 0x0C ∷ 0x00 ∷ 0x00 ∷ 0x00
    ∷ 0x53 ∷ 0x32 ∷ 0x00 ∷ 0x01 ∷ 0x05 ∷ 0x00 ∷ 0x00 ∷ 0x00
    ∷ 0x44 ∷ 0x52 ∷ crews_three_one

abbrev pub replies_c : List Reply
replies_c =
    reply (refused 22) []
    ∷ reply (refused 23) []
    ∷ reply done []
    ∷ reply (refused 15) []
    ∷ reply done []
    ∷ reply (loaded 12 4) []
    ∷ reply (shared 36 48) []
    ∷ reply (refused 23) []
    ∷ reply done []
    ∷ reply (refused 17) []
    ∷ reply (wrote 86) (list_c ++ (7 ∷ []))
    ∷ reply done []
    ∷ []

abbrev pub loaded_c : Model
loaded_c = model_by edition2 Rolled none

abbrev pub planned_c : Model
planned_c = model_by edition2 Rolled (some plan_of_rolled)

abbrev pub added_c : Model
added_c = model_by edition2 (record { sites = pair 0 1 12 ∷ pair 0 1 5 ∷ []; roll = some crews_three_one }) none

-- the list without a roll
abbrev pub unrolled_c : Model
unrolled_c = model_by edition2 (plain Rolled.sites) none

-- ---- depots without sites: the same site, and crews of depots 2 and 3, which no site names

abbrev pub plan_h : List ℕ → ℕ → List ℕ
plan_h gs x = plan_of2 gs (share2 x)

-- Depots 2 and 3 left out, each in a group of its own, and joined to the group before. Depot 4 has no crew. Each listed depot reaches 0, and those with sites 3. A site that names depot 2 leaves no plan.
abbrev pub calls_h : List Call
calls_h =
    call Load list_opened []
    ∷ call Propose (plan_h (3 ∷ []) 36) []
    ∷ call Propose (plan_h (3 ∷ 4 ∷ 8 ∷ []) 36) []
    ∷ call Propose (plan_h (15 ∷ []) 63) []
    ∷ call Propose (plan_h (3 ∷ 12 ∷ []) 36) []
    ∷ call (Depot 2) [] []
    ∷ call (Depot 4) [] []
    ∷ call (Difference 0 3) [] []
    ∷ call (AtLeast 0) [] []
    ∷ call (AtLeast 3) [] []
    ∷ call (Add 2 2 5) [] []
    ∷ call (Depot 2) [] []
    ∷ []

abbrev pub replies_h : List Reply
replies_h =
    reply done []
    ∷ reply (refused 13) []
    ∷ reply (refused 16) []
    ∷ reply (refused 15) []
    ∷ reply done []
    ∷ reply (loaded 0 3) []
    ∷ reply (refused 19) []
    ∷ reply (differ (pos 36) 12) []
    ∷ reply (reached 15) []
    ∷ reply (reached 3) []
    ∷ reply done []
    ∷ reply (refused 17) []
    ∷ []

abbrev pub loaded_h : Model
loaded_h = model_by edition2 Opened none

abbrev pub planned_h : Model
planned_h = model_by edition2 Opened (some plan_of_opened)

abbrev pub added_h : Model
added_h = model_by edition2 (record { sites = pair 0 1 12 ∷ own 2 5 ∷ []; roll = some crews_of_four }) none

-- the answer to the i-th call, and its buffer
abbrev pub nth : ℕ → List Reply → Told
nth i rs = (get_or rs i (reply done [])).answer

abbrev pub nth_buffer : ℕ → List Reply → List ℕ
nth_buffer i rs = (get_or rs i (reply done [])).buffer
