-- The answers to questions, and to the call for the list written out: each is the step's, at a state that the values stand for. Assumes nothing.
use mathlib.Core.Path.{◌≡◌, refl, sym, ap, ap₂, ◌∙◌}
use mathlib.Core.Bool.{Bool, true, false, cond, not, ◌||◌}
use mathlib.Core.List.{List, [], ◌∷◌}
use mathlib.Core.Option.{none, some}
use Prim.Native.Nat.{ℕ, ◌*◌}
use borrow.Author.Tests.{leb-false}
use lib.Dec.{leb}
use lib.ListN.{length, get_or, take}
use lib.Seq.{get_or-take}
use Rattle.sets.specs.Set.{has, set_of}
use Rattle.density.specs.Network.{Listing, network}
use Rattle.density.specs.Plan.{place, group_litres, group_size, whole}
use Rattle.density.specs.Rows.{row, first_row}
use Rattle.density.specs.Figures.{difference_of, depots_read}
use Rattle.records.specs.declared.Edition.{Edition}
use Rattle.records.specs.declared.ListArray.{ListArray}
use Rattle.records.specs.declared.PlanArray.{PlanArray}
use Rattle.records.specs.Values.{Plan, listing, plan_in}
use Rattle.std.specs.declared.result.Result.{Result}
use Rattle.std.specs.declared.result.Result.TheVariants.{Ok, Err}
use Rattle.records.specs.declared.refusal.Refusal.{Refusal}
use Rattle.records.specs.declared.refusal.Refusal.TheVariants as row-of
use Rattle.records.specs.Refusals.{number, outcome}
use Rattle.records.specs.Outcome.{Outcome, refused as refused-by, passed, gate}
use Rattle.records.specs.Write.{list_bytes, plan_bytes, is_short, wrote_of, buffer_of, Written as Writes}
use Rattle.tables.specs.declared.Form.{Form}
use Rattle.tables.specs.Tables.{net, groups_in, lent_plan, Kept}
use Rattle.held_state.specs.declared.Summary.{Summary}
use Rattle.held_state.specs.Held.{State, list_of, plan_held, corrupt, litres_at, size_at}
use Rattle.held_state.specs.Values.{Stands, held_litres, held_size}
use Rattle.held_state.proofs.Figures.{listed_has}
use Rattle.held_state.proofs.Standing.{stands-list, stands-plan}
use Rattle.store.specs.declared.Request.{Request}
use Rattle.store.specs.declared.Request.TheVariants.{Load, Change, Add, Propose, Share, Depot, Difference, Written, AtLeast, ListWritten}
use Rattle.store.specs.declared.Answer.{Answer}
use Rattle.store.specs.declared.Answer.TheVariants as of
use Rattle.store.specs.Calls.{Call, Told, same, put_out, told, refused, wrote}
use Rattle.store.specs.Model.{Model}
use Rattle.store.specs.State.{Done, model_of, tries_zero, row_for, refusal, effect_of, step}
use Rattle.store.specs.Trace.{Question, ReadsOnly}
use Rattle.store_calls.specs.Told.{wrote_told}
use Rattle.store.proofs.Settled.{refused-step, granted-step, zero-step, row_is_lem}
use Rattle.store_calls.proofs.Steps.{held-count}

-- the listed depots of the tables are those of the list
pub kept-has : {list : ListArray} {plan : PlanArray} {f : Form} {ws : List ℕ} → Kept list plan f ws → (d : ℕ) → has f.listed d ≡ (net list).listed d
kept-has {list} k d = ap (λ (x : ℕ). has x d) k.listed ∙ listed_has list k.ready.counted.range d

-- what a writer found, as the call is answered
abbrev wrote-by : Outcome ℕ → Told
wrote-by (refused-by n) = refused n
wrote-by (passed n) = wrote n

wrote-is : (w : Result ℕ Refusal) → told (wrote_told w) ≡ wrote-by (outcome w)
wrote-is (Ok n) = refl
wrote-is (Err e) = refl

-- ---- row 0, and no plan

tries-zero : (q : Request) → ReadsOnly q → tries_zero q ≡ true
tries-zero Load h = absurd h
tries-zero (Change i w) h = absurd h
tries-zero (Add f d w) h = absurd h
tries-zero Propose h = absurd h
tries-zero (Share i) h = refl
tries-zero (Depot d) h = refl
tries-zero (Difference a d) h = refl
tries-zero Written h = refl
tries-zero (AtLeast m) h = refl
tries-zero ListWritten h = refl

no-plan : (b : Model) (c : Call) (q : Request) → Question q → b.plan ≡ none → row_for b c q ≡ some 17
unfolding first_row
no-plan b c Load h p = absurd h
no-plan b c (Change i w) h p = absurd h
no-plan b c (Add f d w) h p = absurd h
no-plan b c Propose h p = absurd h
no-plan b c (Share i) h p = rw p
no-plan b c (Depot d) h p = rw p
no-plan b c (Difference a d) h p = rw p
no-plan b c Written h p = rw p
no-plan b c (AtLeast m) h p = rw p
no-plan b c ListWritten h p = absurd h

module _ (s : State) (c : Call) where
  pub zero-told : ReadsOnly c.request → corrupt s ≡ true → same c (refused 0) ≡ (step s c).reply
  zero-told q h = sym (ap (λ (d : Done). d.reply) (zero-step s c (tries-zero c.request q) h))

  pub wants-told : Question c.request → corrupt s ≡ false → s.store.held ≡ false → same c (refused 17) ≡ (step s c).reply
  wants-told q z h =
      sym (ap (λ (d : Done). d.reply) (refused-step s c 17 (row_is_lem s c z c.request refl ∙ no-plan (model_of s) c c.request q (rw h))))

  -- a row that refuses, or an answer
  asked : (t : Bool) (x : Refusal) (a : Answer) → refusal s c ≡ cond t (some (number x)) none → (t ≡ false → (effect_of s c c.request).reply ≡ same c (told (Ok a)))
      → same c (told (cond t (Err x) (Ok a))) ≡ (step s c).reply
  asked true x a h g = sym (ap (λ (d : Done). d.reply) (refused-step s c (number x) h))
  asked false x a h g = sym (ap (λ (d : Done). d.reply) (granted-step s c h) ∙ g refl)

  -- row 20, or the bytes that a writer wrote
  module _ (bytes : List ℕ) (refuses : refusal s c ≡ cond (is_short c.buffer bytes) (some 20) none) (effect : (effect_of s c c.request).reply ≡ put_out c bytes) where
    out-by : (t : Bool) → is_short c.buffer bytes ≡ t
        → let o = gate (row 20 t ∷ []) bytes in record { answer = wrote-by (wrote_of o); buffer = buffer_of o c.buffer } ≡ (step s c).reply
    unfolding first_row
    out-by true u = sym (ap (λ (d : Done). d.reply) (refused-step s c 20 (refuses ∙ rw u)))
    out-by false u = sym (ap (λ (d : Done). d.reply) (granted-step s c (refuses ∙ rw u)) ∙ effect)

    out-told : (w : Result ℕ Refusal) {r : Result Answer Refusal} {last : List ℕ} → Writes bytes c.buffer w last → r ≡ wrote_told w → record { answer = told r; buffer = last } ≡ (step s c).reply
    out-told w x h = rw (h, wrote-is w, x.answer, x.buffer) (out-by (is_short c.buffer bytes) refl)

-- ---- the list written out, with a plan or without one

pub list-told : {s : State} {list : ListArray} {k : Summary} {gs ss : List ℕ} → Stands s list k gs ss → corrupt s ≡ false → (c : Call) → c.request ≡ ListWritten
    → (w : Result ℕ Refusal) {r : Result Answer Refusal} {last : List ℕ} → Writes (list_bytes s.edition (listing list)) c.buffer w last → r ≡ wrote_told w
    → record { answer = told r; buffer = last } ≡ (step s c).reply
unfolding first_row
list-told {s} {list} st z c q w x h =
    let lists : listing list ≡ list_of s = stands-list st z in
    out-told s c (list_bytes s.edition (listing list)) (row_is_lem s c z ListWritten q ∙ rw lists) (rw (q, lists)) w x h

-- ---- a plan is held

module _ {s : State} {list : ListArray} {k : Summary} {gs ss ws : List ℕ} {f : Form} (st : Stands s list k gs ss) (z : corrupt s ≡ false) (held : k.held ≡ true) (kept : Kept list (lent_plan k.grouped gs ss) f ws) (input buffer : List ℕ) where
  abbrev plan : PlanArray
  plan = lent_plan k.grouped gs ss

  abbrev call : Request → Call
  call q = record { request = q; input = input; buffer = buffer }

  there : s.store.held ≡ true
  there = sym st.held ∙ held

  lists : listing list ≡ list_of s
  lists = stands-list st z

  plans : plan_in plan list.count ≡ plan_held s
  plans = stands-plan st z there

  size : length (list_of s).sites ≡ list.count
  size = (held-count s z).2 ∙ sym st.count

  by : {A : Type 0} (g : Listing → List ℕ → A) → g (list_of s) (plan_held s).groups ≡ g (listing list) (groups_in list plan)
  by g = sym (ap₂ (λ (l : Listing) (p : Plan). g l p.groups) lists plans)

  litres-is : (d : ℕ) → litres_at s d ≡ held_litres list plan d
  litres-is d = by (λ (l : Listing) (gs : List ℕ). group_litres (network l) gs (place gs d))

  size_is : (d : ℕ) → size_at s d ≡ held_size list plan d
  size_is d = by (λ (l : Listing) (gs : List ℕ). group_size (network l) gs (place gs d))

  -- what is answered to a request
  abbrev Answers : Request → Result Answer Refusal → List ℕ → Type 0
  Answers q r last = record { answer = told r; buffer = last } ≡ (step s (call q)).reply

  module _ (q : Request) (r : Result Answer Refusal) where
    pub share-told : (i : ℕ) → q ≡ Share i → r ≡ cond (leb list.count i) (Err row-of.NoSuchSite) (Ok (of.Share (get_or ss i 0) (get_or ws i 0))) → Answers q r buffer
    unfolding first_row
    share-told i e h =
        let t = leb list.count i in
        rw (e, h)
        (asked s (call (Share i)) t row-of.NoSuchSite (of.Share (get_or ss i 0) (get_or ws i 0)) (row_is_lem s (call (Share i)) z (Share i) refl ∙ rw (there, size))
        (λ u.
        let l = leb-false list.count i u in
        let a : get_or s.store.shares i 0 ≡ get_or ss i 0 =
        sym (get_or-take list.count s.store.shares i 0 l)
        ∙ ap (λ (xs : List ℕ). get_or xs i 0) (sym (st.shares kept.ready.counted.sites))
        ∙ get_or-take list.count ss i 0 l in
        let b : whole (network (list_of s)) (plan_held s).groups i ≡ get_or ws i 0 =
        by (λ (x : Listing) (gs : List ℕ). whole (network x) gs i) ∙ sym (kept.wholes.1 i l) in
        ap₂ (λ (x y : ℕ). same (call (Share i)) (told (Ok (of.Share x y)))) a b))

    pub depot-told : (d : ℕ) → q ≡ Depot d → r ≡ cond (not ((net list).listed d)) (Err row-of.DepotUnlisted) (Ok (of.Depot (held_litres list plan d) (held_size list plan d)))
        → Answers q r buffer
    unfolding first_row
    depot-told d e h =
        rw (e, h)
        (asked s (call (Depot d)) (not ((net list).listed d)) row-of.DepotUnlisted (of.Depot (held_litres list plan d) (held_size list plan d))
        (row_is_lem s (call (Depot d)) z (Depot d) refl ∙ rw (there, lists))
        (λ u. ap₂ (λ (x y : ℕ). same (call (Depot d)) (told (Ok (of.Depot x y)))) (litres-is d) (size_is d)))

    pub difference-told : (a b : ℕ) → q ≡ Difference a b
        → r
        ≡ cond (not ((net list).listed a) || not ((net list).listed b)) (Err row-of.DepotUnlisted)
        (Ok (of.Difference (difference_of (held_litres list plan a) (held_size list plan a) (held_litres list plan b) (held_size list plan b)) (held_size list plan a * held_size list plan b)))
        → Answers q r buffer
    unfolding first_row
    difference-told a b e h =
        let x = of.Difference (difference_of (held_litres list plan a) (held_size list plan a) (held_litres list plan b) (held_size list plan b)) (held_size list plan a * held_size list plan b) in
        rw (e, h)
        (asked s (call (Difference a b)) (not ((net list).listed a) || not ((net list).listed b)) row-of.DepotUnlisted x
        (row_is_lem s (call (Difference a b)) z (Difference a b) refl ∙ rw (there, lists))
        (λ u. rw (litres-is a, litres-is b, size_is a, size_is b)))

    pub written-told : (e : Edition) (w : Result ℕ Refusal) (last : List ℕ) → s.edition ≡ e → q ≡ Written
        → Writes (plan_bytes e (record { groups = take k.grouped gs; shares = take list.count ss })) buffer w last → r ≡ wrote_told w → Answers q r last
    unfolding first_row
    written-told e w last m h x t =
        rw h
        (out-told s (call Written) (plan_bytes s.edition (plan_in plan list.count)) (row_is_lem s (call Written) z Written refl ∙ rw (there, ← plans))
        (ap (λ (p : Plan). put_out (call Written) (plan_bytes s.edition p)) (sym plans)) w (rw (← m) at x) t)

    pub at-least-told : (m x : ℕ) → q ≡ AtLeast m → r ≡ Ok (of.Reached x) → x ≡ set_of (depots_read (net list) (groups_in list plan) m) 64 → Answers q r buffer
    unfolding first_row
    at-least-told m x e h y =
        rw (e, h)
        (asked s (call (AtLeast m)) false row-of.NoSuchSite (of.Reached x) (row_is_lem s (call (AtLeast m)) z (AtLeast m) refl ∙ rw there)
        (λ u. ap (λ (n : ℕ). same (call (AtLeast m)) (told (Ok (of.Reached n)))) (by (λ (l : Listing) (gs : List ℕ). set_of (depots_read (network l) gs m) 64) ∙ sym y)))
