-- T, two own sites of 4, two sites of one pair, thresholds, lists written out, edition 2, T gone over to edition 2, crews, and depots without sites: histories with their replies, the rows of every call among them, and replies of wrong stores, which no model gives. Assumes nothing.
use mathlib.Core.Path.{◌≡◌, refl, sym, ap, ap₂, ◌∙◌}
use mathlib.Core.Logic.{inl, inr, ⊎_elim}
use mathlib.Core.Bool.{Bool, true, ◌&&◌}
use mathlib.Core.List.{List, [], ◌∷◌, ◌++◌, flat_map}
use mathlib.Core.Option.{Option, none, some, none-ne-some}
use Prim.Native.Nat.{ℕ, zero, suc, ◌<◌, ◌≤◌, ◌*◌, ◌^◌}
use native.Mathlib.Omega.{arith}
use lib.Dec.{T, not_T, eqb, eqb→eq, ltb, ltb→lt, nltb→le, lit<, lit≤}
use lib.IntN.{pos}
use lib.ListN.{length, get_or, take, replicate, get_or-eq_default}
use Rattle.sets.specs.Sum.{sum, all, any}
use Rattle.sets.specs.Set.{has, set_of, weigh, lowest}
use Rattle.sets.proofs.Test.{T?, and_l, and_r}
use Rattle.sets.proofs.Sum.{all-at}
use Rattle.density.specs.declared.Site.{Site}
use Rattle.density.specs.Network.{Listing, Network, network, depots_in_range, crews_above, sites_uncrewed, in_range, size}
use Rattle.density.specs.Groups.{Decomposition}
use Rattle.density.specs.Plan.{union, place, carrier, group_size, group_litres, whole, first_share, second_share, share_of, target, TruePlan}
use Rattle.density.specs.Rows.{first_row, groups_meet, groups_unlisted, share_broken, shares_broken, scaled_load, loads_uneven, groups_rise, plan_rows}
use Rattle.density.specs.Figures.{depot_litres, depot_size, difference, divisor, difference_of, groups_read, depots_read}
use Rattle.density.specs.Examples.{pair, own, starred}
use Rattle.density.proofs.Examples.{starred-known}
use Rattle.density.proofs.Lists.{valid}
use Rattle.density.proofs.Figures.{depot-litres, depot-size, site-whole}
use Rattle.density.proofs.AtLeast.{read_is}
use Rattle.records.specs.Bytes.{Bytes, value, le}
use Rattle.records.specs.Record.{records}
use Rattle.records.specs.Values.{Plan}
use Rattle.records.specs.declared.Edition.{Edition}
use Rattle.records.specs.Format.{edition1, edition2, plan_of}
use Rattle.records.specs.Write.{list_bytes, plan_bytes, Marked}
use Rattle.records.specs.Samples.{list_t, plan_t, list_big, plan_big, crews_three_one, Rolled, list_with, list_rolled, Opened, list_opened}
use Rattle.records.proofs.Samples.{marked1, marked2}
use Rattle.store.specs.declared.Request.{Request}
use Rattle.store.specs.declared.Request.TheVariants.{Load, Change, Add, Propose, Share, Depot, Difference, Written, AtLeast, ListWritten}
use Rattle.store.specs.Calls.{Call, Event, called, migrate, Reply, unbuffered, refused, done, shared, loaded, differ, wrote, reached}
use Rattle.judge.specs.Check.{True}
use Rattle.store.specs.Model.{Model, empty_model, Proposes, Says, Follows, turned, turn, model_rows, proposal_rows}
use Rattle.held_state.specs.Held.{State}
use Rattle.store.specs.State.{model_of, fresh}
use Rattle.store.specs.Examples.{call, events, reply, plain, model_by, model, plans_t, calls_t, replies_t, sites_t, loaded_t, planned_t, list_o, calls_o, replies_o, sites_o, loaded_o, planned_o, list_p, plan_p, calls_p, replies_p, sites_p, loaded_p, planned_p, calls_r, replies_r, list_m, plan_m, calls_m, replies_m, sites_m, loaded_m, planned_m, thresholds_m, sets_m, list_l, calls_l, replies_l, added_l, calls_b, list_b, replies_b, sites_b, loaded_b, planned_b, added_b, list_e, plan_e, after_e, events_e, replies_e, over_t, added_e, plan_c, list_crewed, calls_c, list_c, replies_c, loaded_c, planned_c, added_c, unrolled_c, plan_h, calls_h, replies_h, loaded_h, planned_h, added_h, nth, nth_buffer}
use Rattle.store.specs.Trace.{Run, start, then, History, Modelled, AllBytes, traced, trace}
use Rattle.store.proofs.Plans.{true-of-rows, rows-of-true}
use Rattle.store.proofs.OneModel.{one-model}
use Rattle.store.proofs.History.{followed}
use Rattle.store.proofs.Steps.{fresh_holds}

-- a plan laid out in these bytes, and true of a list whose depots are in range
module _ (l : Listing) (g x : List ℕ) (t : TruePlan (network l) g x) where
  laid : length g ≤ 64 → ((i : ℕ) → i < length x → get_or x i 0 < 256 ^ 4) → True edition1 l (record { groups = g; shares = x }) (plan_bytes edition1 (record { groups = g; shares = x }))
  unfolding network
  laid few fits =
      record {
        layout = record { few = few; sets = t.form.sets; each = t.form.each; fits = fits; bytes-are = refl };
        groups = t.groups;
        shares = t.shares;
      }

-- a proposal that a row refuses
module _ (e : Edition) (m : Marked e) (l : Listing) (p : Option Plan) (s : List ℕ) (n : ℕ) where
  abbrev b : Model
  b = model_by e l p

  refuses : T (in_range l) → length l.sites ≤ 512 → first_row (model_rows b (call Propose s [])) ≡ some n
      → Proposes b (call Propose s []) (reply (refused n) []) b
  refuses ok few h =
      inr (λ q t. none-ne-some n (sym (rows-of-true e l (valid l ok) s m few q t) ∙ h), n, h, refl, refl)

-- ---- inputs are bytes

-- inputs tested to be bytes
unfoldable inputs : List Call → Bool
inputs [] = true
inputs (c ∷ cs) = all (λ i. ltb (get_or c.input i 0) 256) (length c.input) && inputs cs

are-bytes : (s : List ℕ) → T (all (λ i. ltb (get_or s i 0) 256) (length s)) → Bytes s
are-bytes s t i =
    ⊎_elim (λ l. ltb→lt _ _ (all-at (λ i. ltb (get_or s i 0) 256) (length s) t i (ltb→lt i (length s) l)))
    (λ n. rw (get_or-eq_default s 0 (nltb→le i (length s) (not_T (ltb i (length s)) n))) (lit< tt)) (T? (ltb i (length s)))

are_all : (cs : List Call) → T (inputs cs) → AllBytes (events cs)
unfolding inputs AllBytes
are_all [] t = tt
are_all (c ∷ cs) t =
    let test = all (λ i. ltb (get_or c.input i 0) 256) (length c.input) in
    (are-bytes c.input (and_l test (inputs cs) t), are_all cs (and_r test (inputs cs) t))

-- ---- a call that the model answers, and what follows

next : {b b₁ b₂ : Model} {c : Call} {vs : List Event} {r : Reply} {rs : List Reply} → Says b c r b₁ → Run Follows b₁ vs rs b₂ → Run Follows b (called c ∷ vs) (r ∷ rs) b₂
next x xs = then (tt, x) xs

-- ---- T

abbrev N : Network
N = network sites_t

abbrev empty_t : Model
empty_t = empty_model edition1 2

loads-T : turned loaded_t (reply done []) ≡ turn empty_t (call Load list_t [])
unfolding first_row value records any crews_above sites_uncrewed
loads-T = refl

true-plan-T : TruePlan N (3 ∷ []) (10 ∷ [])
unfolding starred
true-plan-T = (starred-known 1 (lit< tt)).plan

accepts-T : Proposes loaded_t (call Propose (plans_t 0x0A) []) (reply done []) planned_t
unfolding plan_bytes le flat_map
accepts-T = inl (record { groups = 3 ∷ []; shares = 10 ∷ [] }, laid sites_t (3 ∷ []) (10 ∷ []) true-plan-T (lit≤ tt) fits, refl, refl)
  where
    fits : (i : ℕ) → i < 1 → get_or (10 ∷ []) i 0 < 256 ^ 4
    fits zero h = lit< tt
    fits (suc i) h = absurd (let z : ⊥ = omega arith in z)

in-range-T : T (in_range sites_t)
unfolding in_range depots_in_range crews_above sites_uncrewed all any
in-range-T = tt

litres-T : (d : ℕ) → group_litres N (3 ∷ []) (place (3 ∷ []) d) ≡ depot_litres N d
litres-T = depot-litres N (valid sites_t in-range-T) (3 ∷ []) true-plan-T.groups

size-T : (d : ℕ) → group_size N (3 ∷ []) (place (3 ∷ []) d) ≡ depot_size N d
size-T = depot-size N (valid sites_t in-range-T) (3 ∷ []) true-plan-T.groups

shares-T : turned planned_t (reply (shared 10 20) []) ≡ turn planned_t (call (Share 0) [] [])
unfolding first_row network sum has weigh size place carrier group_size whole
shares-T = ap (λ (w : ℕ). turned planned_t (reply (shared 10 w) [])) (site-whole N (valid sites_t in-range-T) (3 ∷ []) true-plan-T.groups 0)

depot-T-0 : turned planned_t (reply (loaded 10 2) []) ≡ turn planned_t (call (Depot 0) [] [])
unfolding first_row network any sum has weigh size place carrier group_size group_litres
depot-T-0 = ap₂ (λ (w q : ℕ). turned planned_t (reply (loaded w q) [])) (litres-T 0) (size-T 0)

depot-T-1 : turned planned_t (reply (loaded 10 2) []) ≡ turn planned_t (call (Depot 1) [] [])
unfolding first_row network any sum has weigh size place carrier group_size group_litres
depot-T-1 = ap₂ (λ (w q : ℕ). turned planned_t (reply (loaded w q) [])) (litres-T 1) (size-T 1)

writes-T : turned planned_t (reply (wrote 21) (plans_t 0x0A ++ (7 ∷ []))) ≡ turn planned_t (call Written [] (replicate 22 7))
unfolding first_row plan_bytes le flat_map
writes-T = refl

refuses-T : first_row (model_rows planned_t (call Propose (plans_t 0x0B) [])) ≡ some 15
unfolding first_row value records sum any has weigh size network plan_rows groups_meet groups_unlisted shares_broken share_broken loads_uneven scaled_load share_of target groups_rise place union carrier group_size group_litres whole first_share second_share
refuses-T = refl

differs-T : turned planned_t (reply (differ (pos 0) 4) []) ≡ turn planned_t (call (Difference 0 1) [] [])
unfolding first_row network any sum has weigh size place carrier group_size group_litres difference divisor
differs-T =
    ap₂ (λ (a d : ℕ × ℕ). turned planned_t (reply (differ (difference_of a.0 a.1 d.0 d.1) (a.1 * d.1)) []))
    (ap₂ (λ (w q : ℕ). (w, q)) (litres-T 0) (size-T 0)) (ap₂ (λ (w q : ℕ). (w, q)) (litres-T 1) (size-T 1))

modelled-T : Modelled edition1 2 (events calls_t) replies_t planned_t
modelled-T =
    next loads-T
    (next accepts-T
    (next shares-T
    (next depot-T-0 (next differs-T (next writes-T (next (refuses edition1 marked1 sites_t planned_t.plan (plans_t 0x0B) 15 in-range-T (lit≤ tt) refuses-T) (next depot-T-1 start)))))))

-- ---- own 0 and own 1 of 4

loads-O : turned loaded_o (reply done []) ≡ turn empty_t (call Load list_o [])
unfolding first_row value records any crews_above sites_uncrewed
loads-O = refl

refuses-O : first_row (model_rows loaded_o (get_or calls_o 1 (call Load [] []))) ≡ some 16
unfolding first_row value records sum any has weigh size network plan_rows groups_meet groups_unlisted shares_broken share_broken loads_uneven scaled_load share_of target groups_rise place union carrier group_size group_litres whole first_share second_share
refuses-O = refl

in-range-O : T (in_range sites_o)
unfolding in_range depots_in_range crews_above sites_uncrewed all any
in-range-O = tt

wants-O : turned loaded_o (reply (refused 17) []) ≡ turn loaded_o (call (Depot 0) [] [])
unfolding first_row
wants-O = refl

accepts-O : Proposes loaded_o (get_or calls_o 3 (call Load [] [])) (reply done []) planned_o
unfolding plan_bytes le flat_map starred
accepts-O = inl (record { groups = 3 ∷ []; shares = 8 ∷ 8 ∷ [] }, laid sites_o (3 ∷ []) (8 ∷ 8 ∷ []) (starred-known 3 (lit< tt)).plan (lit≤ tt) fits, refl, refl)
  where
    fits : (i : ℕ) → i < 2 → get_or (8 ∷ 8 ∷ []) i 0 < 256 ^ 4
    fits zero h = lit< tt
    fits (suc zero) h = lit< tt
    fits (suc (suc i)) h = absurd (let z : ⊥ = omega arith in z)

changes-O : turned loaded_o (reply done []) ≡ turn planned_o (call (Change 0 4) [] [])
unfolding first_row
changes-O = refl

modelled-O : Modelled edition1 2 (events calls_o) replies_o loaded_o
modelled-O =
    next loads-O (next (refuses edition1 marked1 sites_o none (get_or calls_o 1 (call Load [] [])).input 16 in-range-O (lit≤ tt) refuses-O) (next wants-O (next accepts-O (next changes-O (next wants-O start)))))

-- ---- (0,1) of 1 twice

in-range-P : T (in_range sites_p)
unfolding in_range depots_in_range crews_above sites_uncrewed all any
in-range-P = tt

-- a proposal that no row refuses
true-P : (s : List ℕ) → T (all (λ i. ltb (get_or s i 0) 256) (length s)) → first_row (proposal_rows edition1 sites_p s) ≡ none → True edition1 sites_p (plan_of edition1 2 s) s
true-P s t = true-of-rows edition1 sites_p (valid sites_p in-range-P) s (are-bytes s t)

true-P-2-0 : True edition1 sites_p (plan_of edition1 2 (plan_p 0x02 0x00)) (plan_p 0x02 0x00)
unfolding all first_row value records sum any has weigh size network plan_rows groups_meet groups_unlisted shares_broken share_broken loads_uneven scaled_load share_of target groups_rise place union carrier group_size group_litres whole first_share second_share
true-P-2-0 = true-P (plan_p 0x02 0x00) tt refl

true-P-0-2 : True edition1 sites_p (plan_of edition1 2 (plan_p 0x00 0x02)) (plan_p 0x00 0x02)
unfolding all first_row value records sum any has weigh size network plan_rows groups_meet groups_unlisted shares_broken share_broken loads_uneven scaled_load share_of target groups_rise place union carrier group_size group_litres whole first_share second_share
true-P-0-2 = true-P (plan_p 0x00 0x02) tt refl

loads-P : turned loaded_p (reply done []) ≡ turn empty_t (call Load list_p [])
unfolding first_row value records any crews_above sites_uncrewed
loads-P = refl

accepts-P : Proposes loaded_p (call Propose (plan_p 0x02 0x00) []) (reply done []) (planned_p 2 0)
unfolding value records
accepts-P = inl (plan_of edition1 2 (plan_p 0x02 0x00), true-P-2-0, refl, refl)

accepts-P-again : Proposes (planned_p 2 0) (call Propose (plan_p 0x00 0x02) []) (reply done []) (planned_p 0 2)
unfolding value records
accepts-P-again = inl (plan_of edition1 2 (plan_p 0x00 0x02), true-P-0-2, refl, refl)

groups-P : Decomposition (network sites_p) (3 ∷ [])
unfolding value records
groups-P = true-P-0-2.groups

shares-P : turned (planned_p 0 2) (reply (shared 0 2) []) ≡ turn (planned_p 0 2) (call (Share 0) [] [])
unfolding first_row network sum has weigh size place carrier group_size whole
shares-P = ap (λ (w : ℕ). turned (planned_p 0 2) (reply (shared 0 w) [])) (site-whole (network sites_p) (valid sites_p in-range-P) (3 ∷ []) groups-P 0)

writes-P : turned (planned_p 0 2) (reply (wrote 27) (plan_p 0x00 0x02 ++ (7 ∷ []))) ≡ turn (planned_p 0 2) (call Written [] (replicate 28 7))
unfolding first_row plan_bytes le flat_map
writes-P = refl

modelled-P : Modelled edition1 2 (events calls_p) replies_p (planned_p 0 2)
modelled-P = next loads-P (next accepts-P (next accepts-P-again (next shares-P (next writes-P start))))

-- ---- the rows of the calls

abbrev added : Model
added = model (plain (pair 0 1 10 ∷ pair 0 1 1 ∷ [])) none

-- the reply to a call that leaves the model
abbrev Leaves : Model → Request → List ℕ → ℕ → Type 0
Leaves b q buffer n = turned b (reply (refused n) buffer) ≡ turn b (call q [] buffer)

first-17 : Leaves empty_t (Share 0) [] 17
unfolding first_row
first-17 = refl

change-6 : Leaves loaded_t (Change 1 0) [] 6
unfolding first_row
change-6 = refl

change-18 : Leaves loaded_t (Change 1 5) [] 18
unfolding first_row
change-18 = refl

add-5 : Leaves loaded_t (Add 64 0 0) [] 5
unfolding first_row
add-5 = refl

add-6 : Leaves loaded_t (Add 0 1 0) [] 6
unfolding first_row
add-6 = refl

adds : turned added (reply done []) ≡ turn loaded_t (call (Add 0 1 1) [] [])
unfolding first_row
adds = refl

add-2 : Leaves added (Add 64 0 0) [] 2
unfolding first_row
add-2 = refl

loads-again : turned loaded_t (reply done []) ≡ turn added (call Load list_t [])
unfolding first_row value records any crews_above sites_uncrewed
loads-again = refl

share-18 : Leaves planned_t (Share 1) [] 18
unfolding first_row
share-18 = refl

depot-19 : Leaves planned_t (Depot 2) [] 19
unfolding first_row network any
depot-19 = refl

difference-19 : Leaves planned_t (Difference 0 2) [] 19
unfolding first_row network any
difference-19 = refl

written-20 : Leaves planned_t Written (replicate 20 7) 20
unfolding first_row plan_bytes le flat_map
written-20 = refl

modelled-R : Modelled edition1 2 (events calls_r) replies_r planned_t
modelled-R =
    next first-17
    (next loads-T
    (next change-6
    (next change-18
    (next add-5
    (next add-6
    (next adds (next add-2 (next loads-again (next accepts-T (next share-18 (next depot-19 (next difference-19 (next written-20 start)))))))))))))

-- ---- thresholds

loads-M : turned loaded_m (reply done []) ≡ turn empty_t (call Load list_m [])
unfolding first_row value records any crews_above sites_uncrewed
loads-M = refl

wants-M : Leaves loaded_m (AtLeast 0) [] 17
unfolding first_row
wants-M = refl

true-plan-M : TruePlan (network sites_m) (3 ∷ 4 ∷ []) (9 ∷ 0 ∷ [])
unfolding starred
true-plan-M = (starred-known 8 (lit< tt)).plan

accepts-M : Proposes loaded_m (call Propose plan_m []) (reply done []) planned_m
unfolding plan_bytes le flat_map
accepts-M = inl (record { groups = 3 ∷ 4 ∷ []; shares = 9 ∷ 0 ∷ [] }, laid sites_m (3 ∷ 4 ∷ []) (9 ∷ 0 ∷ []) true-plan-M (lit≤ tt) fits, refl, refl)
  where
    fits : (i : ℕ) → i < 2 → get_or (9 ∷ 0 ∷ []) i 0 < 256 ^ 4
    fits zero h = lit< tt
    fits (suc zero) h = lit< tt
    fits (suc (suc i)) h = absurd (let z : ⊥ = omega arith in z)

in-range-M : T (in_range sites_m)
unfolding in_range depots_in_range crews_above sites_uncrewed all any
in-range-M = tt

-- the model's answer to a threshold, by the groups of the plan
abbrev Answers : ℕ → ℕ → Type 0
Answers m x = turned planned_m (reply (reached x) []) ≡ turn planned_m (call (AtLeast m) [] [])

by-groups : (m x : ℕ) → set_of (depots_read (network sites_m) (3 ∷ 4 ∷ []) m) 64 ≡ x → Answers m x
unfolding first_row
by-groups m x e = ap (λ (y : ℕ). turned planned_m (reply (reached y) [])) (sym e ∙ read_is (network sites_m) (valid sites_m in-range-M) (3 ∷ 4 ∷ []) true-plan-M.groups m)

computed-M : T (all (λ k. eqb (set_of (depots_read (network sites_m) (3 ∷ 4 ∷ []) (get_or thresholds_m k 0)) 64) (get_or sets_m k 0)) (length thresholds_m))
unfolding all set_of union has groups_read lowest network sum weigh size place carrier group_size group_litres
computed-M = tt

answers-M : (k : ℕ) → k < length thresholds_m → Answers (get_or thresholds_m k 0) (get_or sets_m k 0)
answers-M k l = by-groups (get_or thresholds_m k 0) (get_or sets_m k 0) (eqb→eq _ _ (all-at (λ k. eqb _ (get_or sets_m k 0)) (length thresholds_m) computed-M k l))

modelled-M : Modelled edition1 2 (events calls_m) replies_m planned_m
modelled-M =
    next loads-M
    (next wants-M
    (next accepts-M
    (next (answers-M 0 (lit< tt))
    (next (answers-M 1 (lit< tt))
    (next (answers-M 2 (lit< tt))
    (next (answers-M 3 (lit< tt)) (next (answers-M 4 (lit< tt)) (next (answers-M 5 (lit< tt)) (next (answers-M 6 (lit< tt)) start)))))))))

-- ---- the list written out

-- the model's list in a buffer
abbrev WritesOut : Model → List ℕ → ℕ → List ℕ → Type 0
WritesOut b buffer n after = turned b (reply (wrote n) after) ≡ turn b (call ListWritten [] buffer)

empty-out : WritesOut empty_t (replicate 4 7) 4 (0x4C ∷ 0x53 ∷ 0x00 ∷ 0x00 ∷ [])
unfolding first_row list_bytes le flat_map
empty-out = refl

empty-20 : Leaves empty_t ListWritten (replicate 3 7) 20
unfolding first_row list_bytes le flat_map
empty-20 = refl

loaded-out : WritesOut loaded_t (replicate 11 7) 10 (list_t ++ (7 ∷ []))
unfolding first_row list_bytes le flat_map
loaded-out = refl

loaded-20 : Leaves loaded_t ListWritten (replicate 9 7) 20
unfolding first_row list_bytes le flat_map
loaded-20 = refl

planned-out : WritesOut planned_t (replicate 11 7) 10 (list_t ++ (7 ∷ []))
unfolding first_row list_bytes le flat_map
planned-out = refl

adds-L : turned added_l (reply done []) ≡ turn planned_t (call (Add 0 1 513) [] [])
unfolding first_row
adds-L = refl

added_out : WritesOut added_l (replicate 16 7) 16 list_l
unfolding first_row list_bytes le flat_map
added_out = refl

modelled-L : Modelled edition1 2 (events calls_l) replies_l added_l
modelled-L =
    next empty-out
    (next empty-20
    (next loads-T (next loaded-out (next loaded-20 (next accepts-T (next planned-out (next adds-L (next added_out start))))))))

-- ---- edition 2

abbrev empty_b : Model
empty_b = empty_model edition2 2

in-range-B : T (in_range sites_b)
unfolding in_range depots_in_range crews_above sites_uncrewed all any
in-range-B = tt

-- its list is of the other edition
load-1 : turned empty_b (reply (refused 1) []) ≡ turn empty_b (call Load list_t [])
unfolding first_row value records any crews_above sites_uncrewed
load-1 = refl

loads-B : turned loaded_b (reply done []) ≡ turn empty_b (call Load list_big [])
unfolding first_row value records any crews_above sites_uncrewed
loads-B = refl

-- so is its plan
plan-7 : first_row (model_rows loaded_b (call Propose plan_t [])) ≡ some 7
unfolding first_row value records sum any has weigh size network plan_rows groups_meet groups_unlisted shares_broken share_broken loads_uneven scaled_load share_of target groups_rise place union carrier group_size group_litres whole first_share second_share
plan-7 = refl

true-B : True edition2 sites_b (plan_of edition2 1 plan_big) plan_big
unfolding all first_row value records sum any has weigh size network plan_rows groups_meet groups_unlisted shares_broken share_broken loads_uneven scaled_load share_of target groups_rise place union carrier group_size group_litres whole first_share second_share
true-B = true-of-rows edition2 sites_b (valid sites_b in-range-B) plan_big (are-bytes plan_big tt) refl

accepts-B : Proposes loaded_b (call Propose plan_big []) (reply done []) planned_b
unfolding value records
accepts-B = inl (plan_of edition2 1 plan_big, true-B, refl, refl)

groups-B : Decomposition (network sites_b) (3 ∷ [])
unfolding value records
groups-B = true-B.groups

shares-B : turned planned_b (reply (shared 70000 140000) []) ≡ turn planned_b (call (Share 0) [] [])
unfolding first_row network sum has weigh size place carrier group_size whole
shares-B = ap (λ (w : ℕ). turned planned_b (reply (shared 70000 w) [])) (site-whole (network sites_b) (valid sites_b in-range-B) (3 ∷ []) groups-B 0)

depot-B : turned planned_b (reply (loaded 70000 2) []) ≡ turn planned_b (call (Depot 0) [] [])
unfolding first_row network any sum has weigh size place carrier group_size group_litres
depot-B =
    ap₂ (λ (w q : ℕ). turned planned_b (reply (loaded w q) [])) (depot-litres (network sites_b) (valid sites_b in-range-B) (3 ∷ []) groups-B 0)
    (depot-size (network sites_b) (valid sites_b in-range-B) (3 ∷ []) groups-B 0)

writes-B : turned planned_b (reply (wrote 25) (plan_big ++ (7 ∷ []))) ≡ turn planned_b (call Written [] (replicate 26 7))
unfolding first_row plan_bytes le flat_map
writes-B = refl

adds-B : turned added_b (reply done []) ≡ turn planned_b (call (Add 1 1 4294967295) [] [])
unfolding first_row
adds-B = refl

added-B-out : WritesOut added_b (replicate 20 7) 20 list_b
unfolding first_row list_bytes le flat_map
added-B-out = refl

modelled-B : Modelled edition2 2 (events calls_b) replies_b added_b
modelled-B =
    next load-1
    (next loads-B
    (next (refuses edition2 marked2 sites_b none plan_t 7 in-range-B (lit≤ tt) plan-7)
    (next accepts-B (next shares-B (next depot-B (next writes-B (next adds-B (next added-B-out start))))))))

-- ---- T goes over to edition 2

-- a new table without places, and one of three
over-2 : Follows planned_t (migrate []) (unbuffered (refused 2)) planned_t
unfolding first_row
over-2 = (refl, refl)

over-E : (z : Site) → Follows planned_t (migrate (replicate 3 z)) (unbuffered done) over_t
unfolding first_row
over-E z = (refl, refl)

shares-E : turned over_t (reply (shared 10 20) []) ≡ turn over_t (call (Share 0) [] [])
unfolding first_row network sum has weigh size place carrier group_size whole
shares-E = ap (λ (w : ℕ). turned over_t (reply (shared 10 w) [])) (site-whole N (valid sites_t in-range-T) (3 ∷ []) true-plan-T.groups 0)

depot-E : turned over_t (reply (loaded 10 2) []) ≡ turn over_t (call (Depot 0) [] [])
unfolding first_row network any sum has weigh size place carrier group_size group_litres
depot-E = ap₂ (λ (w q : ℕ). turned over_t (reply (loaded w q) [])) (litres-T 0) (size-T 0)

writes_E : turned over_t (reply (wrote 25) (plan_e ++ (7 ∷ []))) ≡ turn over_t (call Written [] (replicate 26 7))
unfolding first_row plan_bytes le flat_map
writes_E = refl

written-20-E : Leaves over_t Written (replicate 24 7) 20
unfolding first_row plan_bytes le flat_map
written-20-E = refl

list-E : WritesOut over_t (replicate 13 7) 12 (list_e ++ (7 ∷ []))
unfolding first_row list_bytes le flat_map
list-E = refl

list-20-E : Leaves over_t ListWritten (replicate 11 7) 20
unfolding first_row list_bytes le flat_map
list-20-E = refl

-- plans and lists of edition 1
plan-7-E : first_row (model_rows over_t (call Propose plan_t [])) ≡ some 7
unfolding first_row value records sum any has weigh size network plan_rows groups_meet groups_unlisted shares_broken share_broken loads_uneven scaled_load share_of target groups_rise place union carrier group_size group_litres whole first_share second_share
plan-7-E = refl

refuses-E : Proposes over_t (call Propose plan_t []) (reply (refused 7) []) over_t
refuses-E =
    inr (λ q t. none-ne-some 7 (sym (rows-of-true edition2 sites_t (valid sites_t in-range-T) plan_t marked2 (lit≤ tt) q t) ∙ plan-7-E), 7, plan-7-E, refl, refl)

load-1-E : turned over_t (reply (refused 1) []) ≡ turn over_t (call Load list_t [])
unfolding first_row value records any crews_above sites_uncrewed
load-1-E = refl

-- litres of 17 bits, and as many sites as the new table has places
adds-E : turned (added_e (own 1 65536 ∷ [])) (reply done []) ≡ turn over_t (call (Add 1 1 65536) [] [])
unfolding first_row
adds-E = refl

adds-again-E : turned (added_e (own 1 65536 ∷ own 1 1 ∷ [])) (reply done []) ≡ turn (added_e (own 1 65536 ∷ [])) (call (Add 1 1 1) [] [])
unfolding first_row
adds-again-E = refl

full-E : Leaves (added_e (own 1 65536 ∷ own 1 1 ∷ [])) (Add 1 1 1) [] 2
unfolding first_row
full-E = refl

modelled-E : (z : Site) → Modelled edition1 2 (events_e z) replies_e (added_e (own 1 65536 ∷ own 1 1 ∷ []))
modelled-E z =
    next loads-T
    (next accepts-T
    (then over-2
    (then (over-E z)
    (next shares-E
    (next depot-E
    (next writes_E
    (next written-20-E
    (next list-E (next list-20-E (next refuses-E (next load-1-E (next adds-E (next adds-again-E (next full-E start))))))))))))))

-- ---- crews

load-22 : turned empty_b (reply (refused 22) []) ≡ turn empty_b (call Load (list_crewed 10 0) [])
unfolding first_row value records any crews_above sites_uncrewed
load-22 = refl

load-23 : turned empty_b (reply (refused 23) []) ≡ turn empty_b (call Load (list_crewed 3 0) [])
unfolding first_row value records any crews_above sites_uncrewed
load-23 = refl

loads-C : turned loaded_c (reply done []) ≡ turn empty_b (call Load list_rolled [])
unfolding first_row value records any crews_above sites_uncrewed
loads-C = refl

in-range-C : T (in_range Rolled)
unfolding in_range depots_in_range crews_above sites_uncrewed all any
in-range-C = tt

refuses-C : first_row (model_rows loaded_c (call Propose (plan_c 24) [])) ≡ some 15
unfolding first_row value records sum any has weigh size network plan_rows groups_meet groups_unlisted shares_broken share_broken loads_uneven scaled_load share_of target groups_rise place union carrier group_size group_litres whole first_share second_share
refuses-C = refl

true-C : True edition2 Rolled (plan_of edition2 1 (plan_c 36)) (plan_c 36)
unfolding all first_row value records sum any has weigh size network plan_rows groups_meet groups_unlisted shares_broken share_broken loads_uneven scaled_load share_of target groups_rise place union carrier group_size group_litres whole first_share second_share
true-C = true-of-rows edition2 Rolled (valid Rolled in-range-C) (plan_c 36) (are-bytes (plan_c 36) tt) refl

accepts-C : Proposes loaded_c (call Propose (plan_c 36) []) (reply done []) planned_c
unfolding value records
accepts-C = inl (plan_of edition2 1 (plan_c 36), true-C, refl, refl)

groups-C : Decomposition (network Rolled) (3 ∷ [])
unfolding value records
groups-C = true-C.groups

depot-C : turned planned_c (reply (loaded 12 4) []) ≡ turn planned_c (call (Depot 0) [] [])
unfolding first_row network any sum has weigh size place carrier group_size group_litres
depot-C =
    ap₂ (λ (w q : ℕ). turned planned_c (reply (loaded w q) [])) (depot-litres (network Rolled) (valid Rolled in-range-C) (3 ∷ []) groups-C 0)
    (depot-size (network Rolled) (valid Rolled in-range-C) (3 ∷ []) groups-C 0)

shares-C : turned planned_c (reply (shared 36 48) []) ≡ turn planned_c (call (Share 0) [] [])
unfolding first_row network sum has weigh size place carrier group_size whole
shares-C = ap (λ (w : ℕ). turned planned_c (reply (shared 36 w) [])) (site-whole (network Rolled) (valid Rolled in-range-C) (3 ∷ []) groups-C 0)

add-23 : Leaves planned_c (Add 0 2 5) [] 23
unfolding first_row
add-23 = refl

adds-C : turned added_c (reply done []) ≡ turn planned_c (call (Add 0 1 5) [] [])
unfolding first_row
adds-C = refl

wants-C : Leaves added_c (Depot 0) [] 17
unfolding first_row
wants-C = refl

added-C-out : WritesOut added_c (replicate 87 7) 86 (list_c ++ (7 ∷ []))
unfolding first_row list_bytes le flat_map
added-C-out = refl

loads-unrolled : turned unrolled_c (reply done []) ≡ turn added_c (call Load (list_with []) [])
unfolding first_row value records any crews_above sites_uncrewed
loads-unrolled = refl

modelled-C : Modelled edition2 2 (events calls_c) replies_c unrolled_c
modelled-C =
    next load-22
    (next load-23
    (next loads-C
    (next (refuses edition2 marked2 Rolled none (plan_c 24) 15 in-range-C (lit≤ tt) refuses-C)
    (next accepts-C
    (next depot-C (next shares-C (next add-23 (next adds-C (next wants-C (next added-C-out (next loads-unrolled start)))))))))))

-- ---- depots without sites

loads-H : turned loaded_h (reply done []) ≡ turn empty_b (call Load list_opened [])
unfolding first_row value records any crews_above sites_uncrewed
loads-H = refl

in-range-H : T (in_range Opened)
unfolding in_range depots_in_range crews_above sites_uncrewed all any
in-range-H = tt

left-out-H : first_row (model_rows loaded_h (call Propose (plan_h (3 ∷ []) 36) [])) ≡ some 13
unfolding first_row value records sum any has weigh size network plan_rows groups_meet groups_unlisted shares_broken share_broken loads_uneven scaled_load share_of target groups_rise place union carrier group_size group_litres whole first_share second_share
left-out-H = refl

alone-H : first_row (model_rows loaded_h (call Propose (plan_h (3 ∷ 4 ∷ 8 ∷ []) 36) [])) ≡ some 16
unfolding first_row value records sum any has weigh size network plan_rows groups_meet groups_unlisted shares_broken share_broken loads_uneven scaled_load share_of target groups_rise place union carrier group_size group_litres whole first_share second_share
alone-H = refl

joined-H : first_row (model_rows loaded_h (call Propose (plan_h (15 ∷ []) 63) [])) ≡ some 15
unfolding first_row value records sum any has weigh size network plan_rows groups_meet groups_unlisted shares_broken share_broken loads_uneven scaled_load share_of target groups_rise place union carrier group_size group_litres whole first_share second_share
joined-H = refl

-- a proposal to it that a row refuses
refuses-H : (s : List ℕ) (n : ℕ) → first_row (model_rows loaded_h (call Propose s [])) ≡ some n → Proposes loaded_h (call Propose s []) (reply (refused n) []) loaded_h
refuses-H s n = refuses edition2 marked2 Opened none s n in-range-H (lit≤ tt)

true-H : True edition2 Opened (plan_of edition2 1 (plan_h (3 ∷ 12 ∷ []) 36)) (plan_h (3 ∷ 12 ∷ []) 36)
unfolding all first_row value records sum any has weigh size network plan_rows groups_meet groups_unlisted shares_broken share_broken loads_uneven scaled_load share_of target groups_rise place union carrier group_size group_litres whole first_share second_share
true-H = true-of-rows edition2 Opened (valid Opened in-range-H) (plan_h (3 ∷ 12 ∷ []) 36) (are-bytes (plan_h (3 ∷ 12 ∷ []) 36) tt) refl

accepts-H : Proposes loaded_h (call Propose (plan_h (3 ∷ 12 ∷ []) 36) []) (reply done []) planned_h
unfolding value records
accepts-H = inl (plan_of edition2 1 (plan_h (3 ∷ 12 ∷ []) 36), true-H, refl, refl)

groups-H : Decomposition (network Opened) (3 ∷ 12 ∷ [])
unfolding value records
groups-H = true-H.groups

-- W and q of its depots
litres-H : (d : ℕ) → group_litres (network Opened) (3 ∷ 12 ∷ []) (place (3 ∷ 12 ∷ []) d) ≡ depot_litres (network Opened) d
litres-H = depot-litres (network Opened) (valid Opened in-range-H) (3 ∷ 12 ∷ []) groups-H

sizes-H : (d : ℕ) → group_size (network Opened) (3 ∷ 12 ∷ []) (place (3 ∷ 12 ∷ []) d) ≡ depot_size (network Opened) d
sizes-H = depot-size (network Opened) (valid Opened in-range-H) (3 ∷ 12 ∷ []) groups-H

depot-H : turned planned_h (reply (loaded 0 3) []) ≡ turn planned_h (call (Depot 2) [] [])
unfolding first_row network any sum has weigh size place carrier group_size group_litres
depot-H = ap₂ (λ (w q : ℕ). turned planned_h (reply (loaded w q) [])) (litres-H 2) (sizes-H 2)

depot-19-H : Leaves planned_h (Depot 4) [] 19
unfolding first_row network any
depot-19-H = refl

difference-H : turned planned_h (reply (differ (pos 36) 12) []) ≡ turn planned_h (call (Difference 0 3) [] [])
unfolding first_row network any sum has weigh size place carrier group_size group_litres difference divisor
difference-H =
    ap₂ (λ (a b : ℕ × ℕ). turned planned_h (reply (differ (difference_of a.0 a.1 b.0 b.1) (a.1 * b.1)) []))
    (ap₂ (λ (w q : ℕ). (w, q)) (litres-H 0) (sizes-H 0)) (ap₂ (λ (w q : ℕ). (w, q)) (litres-H 3) (sizes-H 3))

-- the model's answer to a threshold, by the groups of the plan
reaches-H : (m x : ℕ) → set_of (depots_read (network Opened) (3 ∷ 12 ∷ []) m) 64 ≡ x → turned planned_h (reply (reached x) []) ≡ turn planned_h (call (AtLeast m) [] [])
unfolding first_row
reaches-H m x e = ap (λ (y : ℕ). turned planned_h (reply (reached y) [])) (sym e ∙ read_is (network Opened) (valid Opened in-range-H) (3 ∷ 12 ∷ []) groups-H m)

zero-H : set_of (depots_read (network Opened) (3 ∷ 12 ∷ []) 0) 64 ≡ 15
unfolding set_of union has groups_read lowest network sum weigh size place carrier group_size group_litres
zero-H = refl

three-H : set_of (depots_read (network Opened) (3 ∷ 12 ∷ []) 3) 64 ≡ 3
unfolding set_of union has groups_read lowest network sum weigh size place carrier group_size group_litres
three-H = refl

adds-H : turned added_h (reply done []) ≡ turn planned_h (call (Add 2 2 5) [] [])
unfolding first_row
adds-H = refl

wants-H : Leaves added_h (Depot 2) [] 17
unfolding first_row
wants-H = refl

modelled-H : Modelled edition2 2 (events calls_h) replies_h added_h
modelled-H =
    next loads-H
    (next (refuses-H (plan_h (3 ∷ []) 36) 13 left-out-H)
    (next (refuses-H (plan_h (3 ∷ 4 ∷ 8 ∷ []) 36) 16 alone-H)
    (next (refuses-H (plan_h (15 ∷ []) 63) 15 joined-H)
    (next accepts-H
    (next depot-H
    (next depot-19-H (next difference-H (next (reaches-H 0 15 zero-H) (next (reaches-H 3 3 three-H) (next adds-H (next wants-H start)))))))))))

-- ---- the store's history has these replies

-- what the model answers, the store answers on any table of two places
has-history : {e : Edition} → Marked e → (vs : List Event) (replies : List Reply) (b : Model) → Modelled e 2 vs replies b → AllBytes vs → (x y : Site)
    → (s : State) × History e (x ∷ y ∷ []) vs replies s × (model_of s ≡ b)
has-history {e} m vs replies b run bytes x y =
    let (s, h, same, marked, holds) = followed run (fresh e (x ∷ y ∷ [])) refl m (fresh_holds e (x ∷ y ∷ [])) bytes in
    (s, h, sym same)

pub history-T : (x y : Site) → (s : State) × History edition1 (x ∷ y ∷ []) (events calls_t) replies_t s × (model_of s ≡ planned_t)
unfolding inputs all
history-T = has-history marked1 (events calls_t) replies_t planned_t modelled-T (are_all calls_t tt)

pub history-O : (x y : Site) → (s : State) × History edition1 (x ∷ y ∷ []) (events calls_o) replies_o s × (model_of s ≡ loaded_o)
unfolding inputs all
history-O = has-history marked1 (events calls_o) replies_o loaded_o modelled-O (are_all calls_o tt)

pub history-P : (x y : Site) → (s : State) × History edition1 (x ∷ y ∷ []) (events calls_p) replies_p s × (model_of s ≡ planned_p 0 2)
unfolding inputs all
history-P = has-history marked1 (events calls_p) replies_p (planned_p 0 2) modelled-P (are_all calls_p tt)

pub history-R : (x y : Site) → (s : State) × History edition1 (x ∷ y ∷ []) (events calls_r) replies_r s × (model_of s ≡ planned_t)
unfolding inputs all
history-R = has-history marked1 (events calls_r) replies_r planned_t modelled-R (are_all calls_r tt)

pub history-M : (x y : Site) → (s : State) × History edition1 (x ∷ y ∷ []) (events calls_m) replies_m s × (model_of s ≡ planned_m)
unfolding inputs all
history-M = has-history marked1 (events calls_m) replies_m planned_m modelled-M (are_all calls_m tt)

pub history-L : (x y : Site) → (s : State) × History edition1 (x ∷ y ∷ []) (events calls_l) replies_l s × (model_of s ≡ added_l)
unfolding inputs all
history-L = has-history marked1 (events calls_l) replies_l added_l modelled-L (are_all calls_l tt)

pub history-B : (x y : Site) → (s : State) × History edition2 (x ∷ y ∷ []) (events calls_b) replies_b s × (model_of s ≡ added_b)
unfolding inputs all
history-B = has-history marked2 (events calls_b) replies_b added_b modelled-B (are_all calls_b tt)

pub history-E : (x y z : Site) → (s : State) × History edition1 (x ∷ y ∷ []) (events_e z) replies_e s × (model_of s ≡ added_e (own 1 65536 ∷ own 1 1 ∷ []))
unfolding inputs all AllBytes
history-E x y z =
    has-history marked1 (events_e z) replies_e (added_e (own 1 65536 ∷ own 1 1 ∷ [])) (modelled-E z)
    (are-bytes list_t tt, (are-bytes plan_t tt, (tt, (tt, are_all after_e tt)))) x y

pub history-C : (x y : Site) → (s : State) × History edition2 (x ∷ y ∷ []) (events calls_c) replies_c s × (model_of s ≡ unrolled_c)
unfolding inputs all
history-C = has-history marked2 (events calls_c) replies_c unrolled_c modelled-C (are_all calls_c tt)

pub history-H : (x y : Site) → (s : State) × History edition2 (x ∷ y ∷ []) (events calls_h) replies_h s × (model_of s ≡ added_h)
unfolding inputs all
history-H = has-history marked2 (events calls_h) replies_h added_h modelled-H (are_all calls_h tt)

-- the proposal that passed last, by these calls and replies, on a table of any places: of T its plan, of the own sites none after the change, of the pair the second, of the lists
-- written out none after a site was added
pub last-T : (table : List Site) → (trace edition1 table (events calls_t) replies_t).proposal ≡ some (record { edition = edition1; bytes = plans_t 0x0A })
unfolding traced
last-T table = refl

pub last-O : (table : List Site) → (trace edition1 table (events calls_o) replies_o).proposal ≡ none
unfolding traced
last-O table = refl

pub last-P : (table : List Site) → (trace edition1 table (events calls_p) replies_p).proposal ≡ some (record { edition = edition1; bytes = plan_p 0x00 0x02 })
unfolding traced
last-P table = refl

pub last-L : (table : List Site) → (trace edition1 table (events calls_l) replies_l).proposal ≡ none
unfolding traced
last-L table = refl

-- the roll of the list last loaded: before the last call, and after it
pub rolls-C : (table : List Site)
    → ((trace edition2 table (events (take 11 calls_c)) (take 11 replies_c)).roll ≡ some crews_three_one) × ((trace edition2 table (events calls_c) replies_c).roll ≡ none)
unfolding traced value
rolls-C table = (refl, refl)

-- ---- what no model answers, and so no history has

module _ (rs : List Reply) (b : Model) (run : Modelled edition1 2 (events calls_t) rs b) where
  is_T : (i : ℕ) → nth i replies_t ≡ nth i rs
  is_T i = ap (nth i) (one-model modelled-T run).0

  -- "checks its first proposal and waves the later ones through"; "a check of form and totals that passes everything well formed": s = 11
  pub not-waved : nth 6 rs ≡ done → ⊥
  not-waved h = let e : refused 15 ≡ done = is_T 6 ∙ h in let z : ◌≡◌ {A = ℕ} 0 1 = cc in omega arith

  -- "a gate that never opens"
  pub not-shut : (n : ℕ) → nth 1 rs ≡ refused n → ⊥
  not-shut n h = let e : done ≡ refused n = is_T 1 ∙ h in let z : ◌≡◌ {A = ℕ} 0 1 = cc in omega arith

  -- "drops every proposal unread"; "no plan held" right after a plan has passed
  pub not-dropped : (n : ℕ) → nth 2 rs ≡ refused n → ⊥
  not-dropped n h = let e : shared 10 20 ≡ refused n = is_T 2 ∙ h in let z : ◌≡◌ {A = ℕ} 0 1 = cc in omega arith

  -- nor after another was refused
  pub not-lost : (n : ℕ) → nth 7 rs ≡ refused n → ⊥
  not-lost n h = let e : loaded 10 2 ≡ refused n = is_T 7 ∙ h in let z : ◌≡◌ {A = ℕ} 0 1 = cc in omega arith

  -- "loads with an invented W or q"
  pub not-invented : (w q : ℕ) → nth 3 rs ≡ loaded w q → (w ≡ 10) × (q ≡ 2)
  not-invented w q h = let e : loaded 10 2 ≡ loaded w q = is_T 3 ∙ h in (cc, cc)

  pub not-another-share : (x w : ℕ) → nth 2 rs ≡ shared x w → (x ≡ 10) × (w ≡ 20)
  not-another-share x w h = let e : shared 10 20 ≡ shared x w = is_T 2 ∙ h in (cc, cc)

module _ (rs : List Reply) (b : Model) (run : Modelled edition1 2 (events calls_o) rs b) where
  is-O : (i : ℕ) → nth i replies_o ≡ nth i rs
  is-O i = ap (nth i) (one-model modelled-O run).0

  -- a plan well formed and level, with the right totals, whose groups do not fall
  pub not-passed : nth 1 rs ≡ done → ⊥
  not-passed h = let e : refused 16 ≡ done = is-O 1 ∙ h in let z : ◌≡◌ {A = ℕ} 0 1 = cc in omega arith

  -- and the true plan after it
  pub not-shut-after : (n : ℕ) → nth 3 rs ≡ refused n → ⊥
  not-shut-after n h = let e : done ≡ refused n = is-O 3 ∙ h in let z : ◌≡◌ {A = ℕ} 0 1 = cc in omega arith

  -- "Keeping the held plan when only one site's litres changed"
  pub not-kept : (w q : ℕ) → nth 5 rs ≡ loaded w q → ⊥
  not-kept w q h = let e : refused 17 ≡ loaded w q = is-O 5 ∙ h in let z : ◌≡◌ {A = ℕ} 0 1 = cc in omega arith

module _ (rs : List Reply) (b : Model) (run : Modelled edition1 2 (events calls_m) rs b) where
  is-M : (i : ℕ) → nth i replies_m ≡ nth i rs
  is-M i = ap (nth i) (one-model modelled-M run).0

  -- "at least": depot 2, whose W/q is 1 exactly, reaches 1
  pub not-strict : (x : ℕ) → nth 4 rs ≡ reached x → x ≡ 7
  not-strict x h = let e : reached 7 ≡ reached x = is-M 4 ∙ h in cc

  -- nothing is rounded: 9/2 is below 5
  pub not-rounded : (x : ℕ) → nth 7 rs ≡ reached x → x ≡ 0
  not-rounded x h = let e : reached 0 ≡ reached x = is-M 7 ∙ h in cc

  -- a threshold has more than 16 bits
  pub not-16-bits : (x : ℕ) → nth 8 rs ≡ reached x → x ≡ 0
  not-16-bits x h = let e : reached 0 ≡ reached x = is-M 8 ∙ h in cc

module _ (rs : List Reply) (b : Model) (run : Modelled edition1 2 (events calls_l) rs b) where
  is-L : (i : ℕ) → nth i replies_l ≡ nth i rs
  is-L i = ap (nth i) (one-model modelled-L run).0

  buffer-L : (i : ℕ) → nth_buffer i replies_l ≡ nth_buffer i rs
  buffer-L i = ap (nth_buffer i) (one-model modelled-L run).0

  -- "needs no plan": none is held yet
  pub not-17 : nth 3 rs ≡ refused 17 → ⊥
  not-17 h = let e : wrote 10 ≡ refused 17 = is-L 3 ∙ h in let z : ◌≡◌ {A = ℕ} 0 1 = cc in omega arith

  -- one site is held: a list of the table's two places, of 16 bytes, would be refused in these 11
  pub not-places : nth 3 rs ≡ refused 20 → ⊥
  not-places h = let e : wrote 10 ≡ refused 20 = is-L 3 ∙ h in let z : ◌≡◌ {A = ℕ} 0 1 = cc in omega arith

  -- the eleventh byte, behind the list, is as it was lent
  pub behind-kept : nth_buffer 3 rs ≡ list_t ++ (7 ∷ [])
  behind-kept = sym (buffer-L 3)

  -- so are all of a buffer that is too short
  pub short-kept : nth_buffer 4 rs ≡ replicate 9 7
  short-kept = sym (buffer-L 4)

  -- with a plan held it is still the list, and not the plan of 21 bytes, which would be refused in these 11
  pub not-the-plan : nth 6 rs ≡ refused 20 → ⊥
  not-the-plan h = let e : wrote 10 ≡ refused 20 = is-L 6 ∙ h in let z : ◌≡◌ {A = ℕ} 0 1 = cc in omega arith

module _ (rs : List Reply) (b : Model) (run : Modelled edition2 2 (events calls_b) rs b) where
  is-B : (i : ℕ) → nth i replies_b ≡ nth i rs
  is-B i = ap (nth i) (one-model modelled-B run).0

  -- a store of edition 2 takes no list of edition 1
  pub not-the-other-list : nth 0 rs ≡ done → ⊥
  not-the-other-list h = let e : refused 1 ≡ done = is-B 0 ∙ h in let z : ◌≡◌ {A = ℕ} 0 1 = cc in omega arith

  -- nor a plan of edition 1
  pub not-the-other-plan : nth 2 rs ≡ done → ⊥
  not-the-other-plan h = let e : refused 7 ≡ done = is-B 2 ∙ h in let z : ◌≡◌ {A = ℕ} 0 1 = cc in omega arith

  -- litres are not cut to 16 bits: 70,000 would become 4,464
  pub not-cut : (w q : ℕ) → nth 5 rs ≡ loaded w q → (w ≡ 70000) × (q ≡ 2)
  not-cut w q h = let e : loaded 70000 2 ≡ loaded w q = is-B 5 ∙ h in (cc, cc)

module _ (z : Site) (rs : List Reply) (b : Model) (run : Modelled edition1 2 (events_e z) rs b) where
  is-E : (i : ℕ) → nth i replies_e ≡ nth i rs
  is-E i = ap (nth i) (one-model (modelled-E z) run).0

  buffer-E : (i : ℕ) → nth_buffer i replies_e ≡ nth_buffer i rs
  buffer-E i = ap (nth_buffer i) (one-model (modelled-E z) run).0

  -- "too few places gives row 2": the old table's two places do not help the first new one
  pub not-the-old-places : nth 2 rs ≡ done → ⊥
  not-the-old-places h = let e : refused 2 ≡ done = is-E 2 ∙ h in let z : ◌≡◌ {A = ℕ} 0 1 = cc in omega arith

  -- "can't drop its plan in season"
  pub not-dropped-over : (n : ℕ) → nth 4 rs ≡ refused n → ⊥
  not-dropped-over n h = let e : shared 10 20 ≡ refused n = is-E 4 ∙ h in let z : ◌≡◌ {A = ℕ} 0 1 = cc in omega arith

  -- "each question gets the figure it would have got before"
  pub not-another-figure : (w q : ℕ) → nth 5 rs ≡ loaded w q → (w ≡ 10) × (q ≡ 2)
  not-another-figure w q h = let e : loaded 10 2 ≡ loaded w q = is-E 5 ∙ h in (cc, cc)

  -- the plan and the list written out are "now in edition 2", "with length and row 20 counted by" the longer records
  pub written_over : (nth 6 rs ≡ wrote 25) × (nth_buffer 6 rs ≡ plan_e ++ (7 ∷ [])) × (nth 7 rs ≡ refused 20)
  written_over = (sym (is-E 6), sym (buffer-E 6), sym (is-E 7))

  pub list_over : (nth 8 rs ≡ wrote 12) × (nth_buffer 8 rs ≡ list_e ++ (7 ∷ [])) × (nth 9 rs ≡ refused 20)
  list_over = (sym (is-E 8), sym (buffer-E 8), sym (is-E 9))

  -- "from there on with the new table and its places": a third site fits, and a fourth does not
  pub places-over : (nth 13 rs ≡ done) × (nth 14 rs ≡ refused 2)
  places-over = (sym (is-E 13), sym (is-E 14))

module _ (rs : List Reply) (b : Model) (run : Modelled edition2 2 (events calls_c) rs b) where
  is-C : (i : ℕ) → nth i replies_c ≡ nth i rs
  is-C i = ap (nth i) (one-model modelled-C run).0

  -- a plan that is level where each depot has one crew
  pub not-one-crew-each : nth 3 rs ≡ done → ⊥
  not-one-crew-each h = let e : refused 15 ≡ done = is-C 3 ∙ h in let z : ◌≡◌ {A = ℕ} 0 1 = cc in omega arith

  -- q is the crews added up, and not the number of depots
  pub not-depots-counted : (w q : ℕ) → nth 5 rs ≡ loaded w q → (w ≡ 12) × (q ≡ 4)
  not-depots-counted w q h = let e : loaded 12 4 ≡ loaded w q = is-C 5 ∙ h in (cc, cc)

  -- "a site added to a desk" answers to row 23
  pub not-added-uncrewed : nth 7 rs ≡ done → ⊥
  not-added-uncrewed h = let e : refused 23 ≡ done = is-C 7 ∙ h in let z : ◌≡◌ {A = ℕ} 0 1 = cc in omega arith

  -- the list written out has its roll
  pub roll-out : (nth 10 rs ≡ wrote 86) × (nth_buffer 10 rs ≡ list_c ++ (7 ∷ []))
  roll-out = (sym (is-C 10), sym (ap (nth_buffer 10) (one-model modelled-C run).0))

module _ (rs : List Reply) (b : Model) (run : Modelled edition2 2 (events calls_h) rs b) where
  is-H : (i : ℕ) → nth i replies_h ≡ nth i rs
  is-H i = ap (nth i) (one-model modelled-H run).0

  -- depots without sites left out, each in a group of its own, and joined to the group before
  pub not-left-out : nth 1 rs ≡ done → ⊥
  not-left-out h = let e : refused 13 ≡ done = is-H 1 ∙ h in let z : ◌≡◌ {A = ℕ} 0 1 = cc in omega arith

  pub not-each-alone : nth 2 rs ≡ done → ⊥
  not-each-alone h = let e : refused 16 ≡ done = is-H 2 ∙ h in let z : ◌≡◌ {A = ℕ} 0 1 = cc in omega arith

  pub not-joined : nth 3 rs ≡ done → ⊥
  not-joined h = let e : refused 15 ≡ done = is-H 3 ∙ h in let z : ◌≡◌ {A = ℕ} 0 1 = cc in omega arith

  -- such a depot is listed, with W 0 and the crews of all of them
  pub not-unlisted : (n : ℕ) → nth 5 rs ≡ refused n → ⊥
  not-unlisted n h = let e : loaded 0 3 ≡ refused n = is-H 5 ∙ h in let z : ◌≡◌ {A = ℕ} 0 1 = cc in omega arith

  pub not-its-own-crews : (w q : ℕ) → nth 5 rs ≡ loaded w q → (w ≡ 0) × (q ≡ 3)
  not-its-own-crews w q h = let e : loaded 0 3 ≡ loaded w q = is-H 5 ∙ h in (cc, cc)

  -- "a mark of 0 gives all listed depots"
  pub not-without-them : (x : ℕ) → nth 8 rs ≡ reached x → x ≡ 15
  not-without-them x h = let e : reached 15 ≡ reached x = is-H 8 ∙ h in cc
