-- Document 02, d: what is converted reads as the same figures, passes exactly if it passed, and comes back as the same bytes. One argument for both ways. Assumes nothing.
use mathlib.Core.Path.{◌≡◌, refl, sym, ap, ap₂, ◌∙◌, subst}
use mathlib.Core.Bool.{Bool, true, false, not, ◌&&◌, ◌||◌, or-true}
use mathlib.Core.Logic.{◌↔◌, ⊎_elim}
use mathlib.Core.List.{List, [], ◌∷◌}
use mathlib.Core.Option.{Option, none, some}
use Prim.Native.Nat.{ℕ, ◌*◌, ◌<◌, ◌≤◌, ◌^◌}
use native.Mathlib.Nat.{lt_of_lt_of_le}
use native.Mathlib.Omega.{arith}
use lib.Dec.{eqb, ltb, lit≤, eqb→eq, ltb→lt, nltb→le, not_T}
use lib.ListN.{length, take}
use Rattle.sets.specs.Sum.{any}
use Rattle.sets.proofs.Sum.{any_at, any-from}
use Rattle.sets.proofs.Test.{is_false, fails, or_cases, or_r}
use Rattle.density.specs.Network.{Listing, network, site_at, no_site}
use Rattle.density.specs.Plan.{first_share}
use Rattle.density.specs.Rows.{row, first_row}
use Rattle.records.specs.declared.Edition.{Edition}
use Rattle.std.specs.declared.result.Result.TheVariants.{Ok}
use Rattle.records.specs.Bytes.{Bytes}
use Rattle.records.specs.Record.{wrong_mark}
use Rattle.records.specs.Values.{Plan}
use Rattle.records.specs.Outcome.{Outcome, refused, passed, gate, bind}
use Rattle.records.specs.Format.{edition1, edition2, edition_of, read_list, read_plan}
use Rattle.records.specs.Write.{list_bytes, plan_bytes, is_short, fitted, WrittenOf, All, Marked, Allowed, Good, Whole, Crewed}
use Rattle.records.specs.Files.{Files, files, fitted_both, WrittenBoth}
use Rattle.records.proofs.Records.{all_from, all-at}
use Rattle.records.proofs.Outcomes.{clear, or-false, gate-numbered, bind-numbered, list-numbered}
use Rattle.records.proofs.RoundTrip.{list_read_lem, list_back, list-again, list-allowed, list-good, list-few, list-range, laid-read, plan-read}
use Rattle.records.proofs.Samples.{marked1, marked2}
use Rattle.records.proofs.Files.{front_of, fronts-of, fitted-room, both-room}
use Rattle.readers.proofs.Editions.{names1, names2}
use Rattle.judge.specs.Check.{judged_for, judged, check_row, checked_row, True}
use Rattle.judge.proofs.Truth.{judged-read, judged-numbered, judged-true, true-judged}
use Rattle.judge.proofs.Widths.{true-over}
use Rattle.converter.specs.declared.Way.{Way}
use Rattle.converter.specs.Convert.{upgrade, downgrade, way, is_outside, outside, has_roll, unfit, list_for, convert_list, convert_plan, SameList, SamePlan}
use Rattle.converter.proofs.Found.{taken}

-- ---- the two ways

-- the litres of a list have a width
abbrev Litres : ℕ → Listing → Type 0
Litres w l = (i : ℕ) → i < length l.sites → (site_at l i).litres < 256 ^ w

-- a list of edition 1 fits edition 2
fits-up : (s : List ℕ) (l : Listing) → Bytes s → read_list edition1 512 s ≡ passed l → Litres edition2.litres l
fits-up s l b h i k = lt_of_lt_of_le (all-at (Good edition1) no_site l.sites (list-good edition1 512 s b h) i k).fits (lit≤ tt)

-- a list that row 21 does not refuse fits edition 1
fits-down : (l : Listing) → outside l ≡ false → Litres edition1.litres l
unfolding outside
fits-down l h i k =
    let test : ℕ → Bool = λ i. is_outside (site_at l i) in
    let w = (site_at l i).litres in
    let small = nltb→le _ w (not_T _ (λ t. fails (any test (length l.sites)) h (any-from test (length l.sites) i k (or_r (eqb w 0) _ t)))) in
    omega arith

-- the litres of sites that edition 1 has are not outside
inside : (l : Listing) → All (Good edition1) l.sites → outside l ≡ false
unfolding outside
inside l good =
    is_false (any test (length l.sites)) (λ t.
    let (i, k, u) = any_at test (length l.sites) t in
    let g = all-at (Good edition1) no_site l.sites good i k in
    let w = (site_at l i).litres in
    ⊎_elim (λ z. let e = eqb→eq w 0 z in let p = g.allowed.some in omega arith) (λ z. let a = ltb→lt _ w z in let q = g.fits in omega arith)
    (or_cases (eqb w 0) _ u))
  where
    test : ℕ → Bool
    test i = is_outside (site_at l i)

-- row 21 refuses no list without a roll whose sites edition 1 has
comes_back : (l : Listing) → l.roll ≡ none → All (Good edition1) l.sites → unfit l ≡ false
comes_back l bare good = ap₂ (λ (a b : Bool). a || b) (inside l good) (ap has_roll bare)

marked : (back : Bool) → Marked (way back).to
marked false = marked2
marked true = marked1

wide : (back : Bool) → 256 ^ (way back).to.litres * 576 ≤ 256 ^ (way back).to.share
wide false = lit≤ tt
wide true = lit≤ tt

-- a list that a way takes fits the edition it goes to
fits : (back : Bool) (s : List ℕ) {l : Listing} → Bytes s → list_for (way back) s ≡ passed l → Litres (way back).to.litres l
fits false s {l} b h = fits-up s l b (taken upgrade s h).0
fits true s {l} b h = fits-down l (or-false (outside l) (has_roll l.roll) (taken downgrade s h).1).0

-- a list of edition 1 has no roll
bare-1 : (s : List ℕ) {l : Listing} → read_list edition1 512 s ≡ passed l → l.roll ≡ none
bare-1 s r = sym (list_read_lem edition1 512 s r).roll

no-roll : (o : Option (List ℕ)) → has_roll o ≡ false → o ≡ none
no-roll none h = refl
no-roll (some roll) h = let z : ◌≡◌ {A = ℕ} 0 1 = cc in absurd (omega arith)

-- nor has one that a way takes
bare : (back : Bool) (s : List ℕ) {l : Listing} → list_for (way back) s ≡ passed l → l.roll ≡ none
bare false s h = bare-1 s (taken upgrade s h).0
bare true s {l} h = no-roll l.roll (or-false (outside l) (has_roll l.roll) (taken downgrade s h).1).1

-- figures that came from there are taken back
takes : (back : Bool) (s t : List ℕ) {l : Listing} → Bytes t → read_list (way back).from 512 s ≡ passed l → read_list (way back).to 512 t ≡ passed l → list_for (way back) s ≡ passed l
unfolding first_row
takes false s t b r k = rw r refl
takes true s t {l} b r k = rw (r, comes_back l (bare-1 t k) (list-good edition1 512 t b k)) refl

-- what a way writes, the other reads
other-to : (back : Bool) → (way (not back)).to ≡ (way back).from
other-to false = refl
other-to true = refl

other_from : (back : Bool) → (way (not back)).from ≡ (way back).to
other_from false = refl
other_from true = refl

-- ---- a list that a way takes

module _ (back : Bool) (s : List ℕ) {l : Listing} (bytes : Bytes s) (took : list_for (way back) s ≡ passed l) where
  read-in : read_list (way back).from 512 s ≡ passed l
  read-in = (taken (way back) s took).0

  few : length l.sites ≤ 512
  few = (list-few (way back).from 512 s read-in).0

  crewed : Crewed (way back).to l
  crewed =
      let r = list_read_lem (way back).from 512 s read-in in
      record { whole = subst (Whole (way back).to) (sym (bare back s took)) tt; few-crews = r.few-crews; crewed = r.crewed }

  read-over : read_list (way back).to 512 (list_bytes (way back).to l) ≡ passed l
  read-over =
      list_back (way back).to (marked back) l few crewed 512 few
      (all_from (Good (way back).to) no_site l.sites (λ i k. record { allowed = all-at Allowed no_site l.sites (list-allowed (way back).from 512 s read-in) i k; fits = fits back s bytes took i k }))

  again : list_bytes (way back).from l ≡ s
  again = list-again (way back).from 512 s bytes read-in

  -- what is written for it is taken back
  back-taken : list_for (way (not back)) (list_bytes (way back).to l) ≡ passed l
  back-taken =
      takes (not back) (list_bytes (way back).to l) s bytes (subst (λ (e : Edition). read_list e 512 (list_bytes (way back).to l) ≡ passed l) (sym (other_from back)) read-over)
      (subst (λ (e : Edition). read_list e 512 s ≡ passed l) (sym (other-to back)) read-in)

  -- a plan that passes with it
  module _ (plan : List ℕ) {p : Plan} (plan-bytes : Bytes plan) (passes : judged_for (way back).from l plan ≡ passed p) where
    true-in : True (way back).from l p plan
    true-in = judged-true (way back).from l (list-range (way back).from 512 s read-in) plan p plan-bytes passes

    true-out : True (way back).to l p (plan_bytes (way back).to p)
    true-out = true-over (way back).from (way back).to l (list-range (way back).from 512 s read-in) p (wide back) (fits back s bytes took) true-in

    judged-over : judged_for (way back).to l (plan_bytes (way back).to p) ≡ passed p
    judged-over = true-judged (way back).to l (list-range (way back).from 512 s read-in) (plan_bytes (way back).to p) p (marked back) few true-out

-- the edition that a list's first bytes name is that in which it reads
from_named : (back : Bool) (s : List ℕ) {l : Listing} → read_list (way back).from 512 s ≡ passed l → edition_of s ≡ (way back).from
from_named false s h = names1 s h
from_named true s h = names2 s h

to_named : (back : Bool) (s : List ℕ) {l : Listing} → read_list (way back).to 512 s ≡ passed l → edition_of s ≡ (way back).to
to_named false s h = names2 s h
to_named true s h = names1 s h

-- ---- what is found where a length is answered

list-found : (w : Way) (s out : List ℕ) {x : List ℕ} → convert_list w s out ≡ passed x → (l : Listing) × (list_for w s ≡ passed l) × (list_bytes w.to l ≡ x)
list-found w s out {x} h = by-list (list_for w s) refl h
  where
    by-list : (o : Outcome Listing) → list_for w s ≡ o → bind o (λ (l : Listing). fitted (list_bytes w.to l) out) ≡ passed x
        → (l : Listing) × (list_for w s ≡ passed l) × (list_bytes w.to l ≡ x)
    by-list (refused n) r h = let z : ◌≡◌ {A = ℕ} 0 1 = cc in absurd (omega arith)
    by-list (passed l) r h = (l, r, (clear (row 20 (is_short out (list_bytes w.to l)) ∷ []) h).1)

-- a list was taken, a plan passed with it, and both were written
record BothFound (w : Way) (s plan : List ℕ) (x : Files) : Type 0 where
  sites : Listing
  figures : Plan
  took : list_for w s ≡ passed sites
  passes : judged_for w.from sites plan ≡ passed figures
  wrote : files w.to sites figures ≡ x

plan-found : (w : Way) (s plan out other : List ℕ) {x : Files} → convert_plan w s plan out other ≡ passed x → BothFound w s plan x
plan-found w s plan out other {x} h = by-list (list_for w s) refl h
  where
    by-plan : (l : Listing) → list_for w s ≡ passed l → (o : Outcome Plan) → judged_for w.from l plan ≡ o
        → bind o (λ (p : Plan). fitted_both (files w.to l p) out other) ≡ passed x → BothFound w s plan x
    by-plan l r (refused n) k h = let z : ◌≡◌ {A = ℕ} 0 1 = cc in absurd (omega arith)
    by-plan l r (passed p) k h =
        record {
          sites = l;
          figures = p;
          took = r;
          passes = k;
          wrote = (clear (row 20 (is_short out (list_bytes w.to l)) ∷ row 20 (is_short other (plan_bytes w.to p)) ∷ []) h).1;
        }

    by-list : (o : Outcome Listing) → list_for w s ≡ o
        → bind o (λ (l : Listing). bind (judged_for w.from l plan) (λ (p : Plan). fitted_both (files w.to l p) out other)) ≡ passed x → BothFound w s plan x
    by-list (refused n) r h = let z : ◌≡◌ {A = ℕ} 0 1 = cc in absurd (omega arith)
    by-list (passed l) r h = by-plan l r (judged_for w.from l plan) refl h

-- ---- a list alone, by the contract of `upgrade_list` and `downgrade_list`

module _ (back : Bool) (s out last : List ℕ) (n : ℕ) (bytes : Bytes s) (c : WrittenOf (convert_list (way back) s out) out (Ok n) last) where
  found : (l : Listing) × (list_for (way back) s ≡ passed l) × (list_bytes (way back).to l ≡ take n last)
  found = list-found (way back) s out (front_of (convert_list (way back) s out) out last n c)

  -- "with the same figures in the same order"
  pub list-figures : SameList (way back) s (take n last)
  list-figures =
      let (l, took, wrote) = found in
      record {
        l = l;
        given = read-in back s bytes took;
        written = subst (λ (t : List ℕ). read_list (way back).to 512 t ≡ passed l) wrote (read-over back s bytes took);
      }

  -- "Going there and back restores the bytes": the other way writes what was given, and only a short buffer stops it
  pub list-restored : (out' : List ℕ) → convert_list (way (not back)) (take n last) out' ≡ fitted s out'
  list-restored out' =
      let (l, took, wrote) = found in
      rw (← wrote, back-taken back s bytes took, other-to back, again back s bytes took) refl

  -- so two calls that answer lengths end where they began
  pub list-returned : (out' last' : List ℕ) (n' : ℕ) → WrittenOf (convert_list (way (not back)) (take n last) out') out' (Ok n') last' → take n' last' ≡ s
  list-returned out' last' n' d =
      let h = sym (list-restored out') ∙ front_of (convert_list (way (not back)) (take n last) out') out' last' n' d in
      sym (clear (row 20 (is_short out' s) ∷ []) h).1

-- ---- a list with its plan, by the contract of `upgrade_plan` and `downgrade_plan`

module _ (back : Bool) (s plan out other last rest : List ℕ) (n k : ℕ) (bytes : Bytes s) (plan-bytes : Bytes plan)
    (c : WrittenBoth (convert_plan (way back) s plan out other) out other (Ok (record { list = n; plan = k })) last rest) where
  both_found : BothFound (way back) s plan (record { list = take n last; plan = take k rest })
  both_found = plan-found (way back) s plan out other (fronts-of (convert_plan (way back) s plan out other) out other last rest n k c)

  list_wrote : list_bytes (way back).to both_found.sites ≡ take n last
  list_wrote = ap (λ (x : Files). x.list) both_found.wrote

  plan-wrote : plan_bytes (way back).to both_found.figures ≡ take k rest
  plan-wrote = ap (λ (x : Files). x.plan) both_found.wrote

  list_over : read_list (way back).to 512 (take n last) ≡ passed both_found.sites
  list_over = subst (λ (t : List ℕ). read_list (way back).to 512 t ≡ passed both_found.sites) list_wrote (read-over back s bytes both_found.took)

  -- "with the same figures in the same order"
  pub plan-figures : SamePlan (way back) s plan (take n last) (take k rest)
  unfolding network first_share
  plan-figures =
      let took = both_found.took in
      let before = true-in back s bytes took plan plan-bytes both_found.passes in
      let after = true-out back s bytes took plan plan-bytes both_found.passes in
      record {
        lists = record { l = both_found.sites; given = read-in back s bytes took; written = list_over };
        p = both_found.figures;
        given = judged-read (way back).from both_found.sites plan both_found.passes;
        written =
            subst (λ (t : List ℕ). read_plan (way back).to (length both_found.sites.sites) t ≡ passed both_found.figures) plan-wrote
            (laid-read (way back).to (marked back) both_found.sites (few back s bytes took) after.layout);
        fits = λ i h. ((before.shares.rules i h).bound, after.layout.fits i (omega (arith, after.layout.each)));
      }

  -- "passes after if it passed before": by Check, which goes by the edition that the list's first bytes name
  pub converted-passes : (checked_row s plan ≡ none) × (checked_row (take n last) (take k rest) ≡ none)
  unfolding check_row
  converted-passes =
      let took = both_found.took in
      let given = read-in back s bytes took in (
        rw (from_named back s given, given, both_found.passes) refl,
        rw (to_named back (take n last) list_over, list_over, ← plan-wrote, judged-over back s bytes took plan plan-bytes both_found.passes) refl,
      )

  -- "Going there and back restores the bytes": the other way writes what was given, and only short buffers stop it
  pub plan-restored : (out' other' : List ℕ) → convert_plan (way (not back)) (take n last) (take k rest) out' other' ≡ fitted_both (record { list = s; plan = plan }) out' other'
  plan-restored out' other' =
      let took = both_found.took in
      let before = true-in back s bytes took plan plan-bytes both_found.passes in
      rw (
        ← list_wrote,
        ← plan-wrote,
        back-taken back s bytes took,
        other_from back,
        judged-over back s bytes took plan plan-bytes both_found.passes,
        other-to back,
        again back s bytes took,
        ← before.layout.bytes-are,
      )
      refl

  -- so two calls that answer lengths end where they began
  pub plan-returned : (out' other' last' rest' : List ℕ) (n' k' : ℕ)
      → WrittenBoth (convert_plan (way (not back)) (take n last) (take k rest) out' other') out' other' (Ok (record { list = n'; plan = k' })) last' rest' → (take n' last' ≡ s) × (take k' rest' ≡ plan)
  plan-returned out' other' last' rest' n' k' d =
      let h = sym (plan-restored out' other') ∙ fronts-of (convert_plan (way (not back)) (take n last) (take k rest) out' other') out' other' last' rest' n' k' d in
      let e = (clear (row 20 (is_short out' s) ∷ row 20 (is_short other' plan) ∷ []) h).1 in
      (sym (ap (λ (x : Files). x.list) e), sym (ap (λ (x : Files). x.plan) e))

-- ---- Check

-- "A plan .. passes after if it passed before": where the list is taken, the rows tried on the plan are Check's, so the plan is converted exactly if it passes and both buffers have room
pub plan-by-check : (w : Way) (s plan out other : List ℕ) {l : Listing} → list_for w s ≡ passed l
    → convert_plan w s plan out other ≡ bind (judged w.from s plan) (λ (p : Plan). fitted_both (files w.to l p) out other)
plan-by-check w s plan out other h = rw (h, (taken w s h).0) refl

-- going up, every list of edition 1 is taken
pub up-taken : (s : List ℕ) → list_for upgrade s ≡ read_list edition1 512 s
unfolding first_row
up-taken s = by_read (read_list edition1 512 s)
  where
    by_read : (o : Outcome Listing) → bind o (λ (l : Listing). gate (row 21 (false && unfit l) ∷ []) l) ≡ o
    by_read (refused n) = refl
    by_read (passed l) = refl

-- "and back where every figure fits": going back, a list of edition 2 is taken exactly if edition 1 has each of its sites and it has no roll
pub down-taken : (s : List ℕ) {l : Listing} → read_list edition2 512 s ≡ passed l → (list_for downgrade s ≡ passed l) ↔ (All (Good edition1) l.sites × (l.roll ≡ none))
unfolding first_row
down-taken s {l} r = (
  λ h. (
    all_from (Good edition1) no_site l.sites
        (λ i k. record { allowed = all-at Allowed no_site l.sites (list-allowed edition2 512 s r) i k; fits = fits-down l (or-false (outside l) (has_roll l.roll) (taken downgrade s h).1).0 i k }),
    bare true s h,
  ),
  λ (good, unrolled). rw (r, comes_back l unrolled good) refl,
)

-- Check's answer depends on the figures alone: a list and a plan that read as the same figures in the two editions get the same row, or pass, in both; so one passes exactly if the
-- other does
pub same_row : (back : Bool) (s plan t plan' : List ℕ) {l : Listing} {p : Plan} → read_list (way back).from 512 s ≡ passed l → read_list (way back).to 512 t ≡ passed l
    → read_plan (way back).from (length l.sites) plan ≡ passed p → read_plan (way back).to (length l.sites) plan' ≡ passed p
    → checked_row s plan ≡ checked_row t plan'
unfolding check_row
same_row back s plan t plan' r k u v = rw (from_named back s r, to_named back t k, r, k, u, v) refl

-- ---- "Each way takes one edition only, and row 1 or row 7 refuses the other"

-- what has another mark than that of the edition a way takes
pub own-lists : (w : Way) (s : List ℕ) → wrong_mark w.from.mark.list s ≡ true → list_for w s ≡ refused 1
unfolding read_list first_row
own-lists w s h = rw (h, or-true (ltb (length s) 4)) refl

pub own-plans : (w : Way) (s plan out other : List ℕ) {l : Listing} → list_for w s ≡ passed l → wrong_mark w.from.mark.plan plan ≡ true
    → convert_plan w s plan out other ≡ refused 7
unfolding read_plan first_row
own-plans w s plan out other h m = rw (h, m, or-true (ltb (length plan) 5)) refl

-- so what the other way takes
pub other-lists : (back : Bool) (s : List ℕ) {l : Listing} → read_list (way back).to 512 s ≡ passed l → list_for (way back) s ≡ refused 1
other-lists false s r = own-lists upgrade s (rw (list_read_lem edition2 512 s r).mark refl)
other-lists true s r = own-lists downgrade s (rw (list_read_lem edition1 512 s r).mark refl)

pub other-plans : (back : Bool) (s plan out other : List ℕ) {l : Listing} {p : Plan} → list_for (way back) s ≡ passed l
    → read_plan (way back).to (length l.sites) plan ≡ passed p → convert_plan (way back) s plan out other ≡ refused 7
other-plans false s plan out other {l} h r = own-plans upgrade s plan out other h (rw (plan-read edition2 (length l.sites) plan r).mark refl)
other-plans true s plan out other {l} h r = own-plans downgrade s plan out other h (rw (plan-read edition1 (length l.sites) plan r).mark refl)

-- ---- what is written has room, and a refusal's number is not 0

pub list-room : (w : Way) (s out x : List ℕ) → convert_list w s out ≡ passed x → is_short out x ≡ false
list-room w s out x h = let (l, took, wrote) = list-found w s out h in fitted-room (list_bytes w.to l) out x (rw took at h)

pub plan-room : (w : Way) (s plan out other : List ℕ) (x : Files) → convert_plan w s plan out other ≡ passed x → is_short out x.list ≡ false
plan-room w s plan out other x h =
    let f = plan-found w s plan out other h in
    both-room (files w.to f.sites f.figures) out other x (rw (f.took, f.passes) at h)

taken-numbered : (w : Way) (s : List ℕ) (n : ℕ) → list_for w s ≡ refused n → 0 < n
taken-numbered w s =
    bind-numbered (read_list w.from 512 s) _ (list-numbered w.from 512 s) (λ (l : Listing). gate-numbered (row 21 (w.back && unfit l) ∷ []) tt l)

pub list-row-numbered : (w : Way) (s out : List ℕ) (n : ℕ) → convert_list w s out ≡ refused n → 0 < n
list-row-numbered w s out =
    bind-numbered (list_for w s) _ (taken-numbered w s) (λ (l : Listing). gate-numbered (row 20 (is_short out (list_bytes w.to l)) ∷ []) tt (list_bytes w.to l))

pub plan-row-numbered : (w : Way) (s plan out other : List ℕ) (n : ℕ) → convert_plan w s plan out other ≡ refused n → 0 < n
plan-row-numbered w s plan out other =
    bind-numbered (list_for w s) _ (taken-numbered w s)
    (λ (l : Listing).
    bind-numbered (judged_for w.from l plan) _ (judged-numbered w.from l plan)
    (λ (p : Plan). both-numbered (files w.to l p)))
  where
    both-numbered : (x : Files) (n : ℕ) → fitted_both x out other ≡ refused n → 0 < n
    both-numbered x = gate-numbered (row 20 (is_short out x.list) ∷ row 20 (is_short other x.plan) ∷ []) tt x
