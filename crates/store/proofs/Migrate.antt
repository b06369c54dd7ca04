-- Document 02, e: the store's step to edition 2 is the model's, and keeps what a state holds; so each event of a history is the model's. Assumes nothing.
use mathlib.Core.Path.{◌≡◌, refl, sym, ap, ap₂, ◌∙◌, subst}
use mathlib.Core.Logic.{◌↔◌, inl, inr}
use mathlib.Core.Bool.{Bool, true, false, cond}
use mathlib.Core.List.{List, [], ◌∷◌, ◌++◌, map}
use mathlib.Core.Option.{Option, none, some, none-ne-some, some-injective}
use Prim.Native.Nat.{ℕ, ◌≤◌}
use native.Mathlib.Omega.{arith}
use borrow.Author.Tests.{ltb-true, ltb-false}
use lib.Dec.{T, ltb}
use lib.ListN.{length, take, drop, length-append, length-drop, length-take}
use lib.Seq.{take_at, drop-append_seam, length-take-le}
use Rattle.sets.proofs.Test.{passes}
use Rattle.density.specs.declared.Site.{Site}
use Rattle.density.specs.Network.{Listing, network}
use Rattle.density.specs.Plan.{TruePlan}
use Rattle.density.specs.Rows.{first_row, row}
use Rattle.records.specs.declared.Edition.{Edition}
use Rattle.records.specs.Values.{Plan, roll_array}
use Rattle.records.specs.Format.{edition1, edition2, roll_of}
use Rattle.records.specs.Write.{Marked}
use Rattle.records.proofs.Samples.{marked2}
use Rattle.store.specs.declared.Request.{Request}
use Rattle.store.specs.declared.Request.TheVariants.{Load, Change, Add, Propose, Share, Depot, Difference, Written, AtLeast, ListWritten}
use Rattle.store.specs.Calls.{Call, Event, called, migrate, Reply, Told, unbuffered, done, refused}
use Rattle.store.specs.Model.{Model, count, migrate_rows, Possible, Follows}
use Rattle.store.specs.Model as M
use Rattle.held_state.specs.declared.Store.{Store}
use Rattle.held_state.specs.Held.{State, on, list_of, plan_held, bad_plan, corrupt}
use Rattle.store.specs.State.{Done, model_of, bare, holding, migrated, migrate_row, migrate_step, stays, step_on}
use Rattle.store.specs.Trace.{Goes, InBytes, Proposal, MadeIn, Traced, leaves, roll_left, ended, traced_on, traced, begun, trace, Tidy, Migration, Migrates}
use Rattle.store.proofs.Steps.{Holds, unrolled, bare-holds, holding-plan, holding-intact, holding-tidy, holding-holds, fed, keeps, not-zero}
use Rattle.store.proofs.LastPassed.{BackedIn, says-backed}
use Rattle.held_state.proofs.Intact.{Good, listing, Intact, sized, intact→}

-- What events and replies tell of a state: its edition, its places, the proposal that its plan comes from, and its roll or the lack of one.
pub record Agrees (t : Traced) (s : State) : Type 0 where
  pub edition : s.edition ≡ t.edition
  pub places : length s.table ≡ t.places
  pub backed : BackedIn (model_of s) t.proposal
  pub own : (p : Proposal) → t.proposal ≡ some p → MadeIn p t.edition
  pub roll : (list_of s).roll ≡ t.roll

-- a proposal to a store that is still of edition 1 was made in edition 1
own-edition : (t : Traced) (p : Proposal) → t.edition ≡ edition1 → MadeIn p t.edition → p.edition ≡ edition1
own-edition t p e (inl k) = k ∙ e
own-edition t p e (inr k) = k.0

-- a call leaves the proposal, drops it or becomes it
module _ (P : Proposal → Type 0) where
  dropped : (b : Bool) (o : Option Proposal) → ((x : Proposal) → o ≡ some x → P x) → (x : Proposal) → cond b none o ≡ some x → P x
  dropped true o h x k = absurd (none-ne-some x k)
  dropped false o h x k = h x k

  made : (b : Bool) (p : Proposal) (o : Option Proposal) → P p → ((x : Proposal) → o ≡ some x → P x) → (x : Proposal) → cond b (some p) o ≡ some x → P x
  made true p o k h x j = subst P (some-injective p x j) k
  made false p o k h x j = h x j

  call-leaves : (q : Request) (p : Proposal) (a : Told) (o : Option Proposal) → P p → ((x : Proposal) → o ≡ some x → P x) → (x : Proposal) → leaves q p a o ≡ some x → P x
  call-leaves Load p a o k h = dropped (ended a) o h
  call-leaves (Change i w) p a o k h = dropped (ended a) o h
  call-leaves (Add f d w) p a o k h = dropped (ended a) o h
  call-leaves Propose p a o k h = made (ended a) p o k h
  call-leaves (Share i) p a o k h = h
  call-leaves (Depot d) p a o k h = h
  call-leaves (Difference b d) p a o k h = h
  call-leaves Written p a o k h = h
  call-leaves (AtLeast m) p a o k h = h
  call-leaves ListWritten p a o k h = h

-- Calls alone leave the edition and the places, and each proposal was made in that edition.
calls-from : (t : Traced) → ((p : Proposal) → t.proposal ≡ some p → p.edition ≡ t.edition) → (cs : List Call) (rs : List Reply)
    → let u : Traced = traced t (map called cs) rs in
    (u.edition ≡ t.edition) × (u.places ≡ t.places) × ((p : Proposal) → u.proposal ≡ some p → p.edition ≡ t.edition)
unfolding traced
calls-from t h [] rs = (refl, refl, h)
calls-from t h (c ∷ cs) [] = (refl, refl, h)
calls-from t h (c ∷ cs) (r ∷ rs) =
    calls-from (traced_on (called c) r.answer t)
    (call-leaves (λ (p : Proposal). p.edition ≡ t.edition) c.request (record { edition = t.edition; bytes = c.input }) r.answer t.proposal refl h) cs rs

pub calls_alone : (e : Edition) (table : List Site) (cs : List Call) (rs : List Reply)
    → let u : Traced = trace e table (map called cs) rs in
    (u.edition ≡ e) × (u.places ≡ length table) × ((p : Proposal) → u.proposal ≡ some p → p.edition ≡ e)
calls_alone e table cs rs = calls-from (begun e table) (λ p k. absurd (none-ne-some p k)) cs rs

-- An event that is the model's and keeps what a state holds.
pub record KeptOn (s : State) (v : Event) (d : Done) : Type 0 where
  pub follows : Follows (model_of s) v d.reply (model_of d.after)
  pub holds : Holds d.after
  pub marked : Marked d.after.edition
  pub agrees : (t : Traced) → Agrees t s → Agrees (traced_on v d.reply.answer t) d.after
  pub not-zero : d.reply.answer ≡ refused 0 → ⊥

-- ---- the step to edition 2 where the new table has the places: at a state that is not corrupt, has a share for each site where a plan is held, and has no roll

module _ (s : State) (sound : corrupt s ≡ false) (each : s.store.held ≡ true → length (plan_held s).shares ≡ s.store.count) (no-roll : (list_of s).roll ≡ none) (table : List Site)
    (room : s.store.count ≤ length table) where
  abbrev n : ℕ
  n = s.store.count

  parts : Intact s
  parts = intact→ s sound

  size : length (list_of s).sites ≡ n
  size = sized s parts.room

  -- the new table then
  abbrev filled : List Site
  filled = (list_of s).sites ++ drop n table

  long : length filled ≡ length table
  long = rw (length-append, size, length-drop) (omega arith)

  front : listing none (take n filled) ≡ list_of s
  front = ap₂ listing (sym no-roll) (take_at (list_of s).sites (drop n table) n size)

  good : Good (listing none (take n filled))
  good = subst Good (sym front) parts.good

  -- the store then, by whether a plan is held
  abbrev empty : Store
  empty = bare n (roll_array none)

  abbrev over : Bool → State
  over x = on edition2 (cond x (holding empty (plan_held s)) empty) filled

  over-bare : Holds (over false)
  over-bare = bare-holds edition2 n (roll_array none) filled parts.few (rw long room) good tt

  module _ (t : s.store.held ≡ true) where
    same-plan : plan_held (over true) ≡ plan_held s
    same-plan = holding-plan edition2 empty (plan_held s) filled (each t)

    few-groups : length (plan_held s).groups ≤ 64
    few-groups = rw length-take (omega (arith, parts.groups (passes s.store.held t)))

    over-intact : corrupt (over true) ≡ false
    over-intact =
        holding-intact edition2 empty (plan_held s) filled (each t) parts.few (rw long room) good few-groups
        (subst (λ (l : Listing). T (bad_plan l (plan_held s)) → ⊥) (sym front) (parts.plan (passes s.store.held t)))

  intact-by : (x : Bool) → s.store.held ≡ x → corrupt (over x) ≡ false
  intact-by false e = over-bare.intact
  intact-by true e = over-intact e

  tidy-by : (x : Bool) → s.store.held ≡ x → Tidy (over x)
  tidy-by false e = over-bare.tidy
  tidy-by true e = holding-tidy edition2 empty (plan_held s) filled (each e)

  abbrev model_with : ℕ → Listing → Option Plan → Model
  model_with k l o = record { edition = edition2; places = k; list = l; plan = o }

  model-by : (x : Bool) → s.store.held ≡ x → model_of (over x) ≡ M.migrated_model (model_of s) (length table)
  model-by false e =
      ap₂ (λ (k : ℕ) (l : Listing). model_with k l none) long front
      ∙ ap (λ (b : Bool). model_with (length table) (list_of s) (cond b (some (plan_held s)) none)) (sym e)
  model-by true e =
      ap₂ (λ (k : ℕ) (l : Listing). model_with k l (some (plan_held (over true)))) long front
      ∙ ap (λ (q : Plan). model_with (length table) (list_of s) (some q)) (same-plan e)
      ∙ ap (λ (b : Bool). model_with (length table) (list_of s) (cond b (some (plan_held s)) none)) (sym e)

  pub migrated-intact : corrupt (migrated s table) ≡ false
  migrated-intact = intact-by s.store.held refl

  pub migrated-model : model_of (migrated s table) ≡ M.migrated_model (model_of s) (length table)
  migrated-model = model-by s.store.held refl

  pub migration : Migration s table (migrated s table)
  migration =
      record {
        edition = refl;
        sites = ap (λ (b : Model). b.list) migrated-model;
        plan = ap (λ (b : Model). b.plan) migrated-model;
        zero = tidy-by s.store.held refl;
        places = long;
        behind = drop-append_seam (list_of s).sites (drop n table) ∙ ap (λ (k : ℕ). drop k table) (sym size);
      }

  -- where the plan held is true, so it is after
  module _ (holds : s.store.held ≡ true → TruePlan (network (list_of s)) (plan_held s).groups (plan_held s).shares) where
    holds_by : (x : Bool) → s.store.held ≡ x → Holds (over x)
    holds_by false e = over-bare
    holds_by true e =
        holding-holds edition2 empty (plan_held s) filled (each e) (over-intact e)
        (subst (λ (l : Listing). TruePlan (network l) (plan_held s).groups (plan_held s).shares) (sym front) (holds e)) tt

    pub migrated-holds : Holds (migrated s table)
    migrated-holds = holds_by s.store.held refl

-- ---- its rows, at any state

module _ (s : State) (table : List Site) where
  zero-first : {z : Bool} → corrupt s ≡ z → migrate_row s table ≡ cond z (some 0) (first_row (migrate_rows (model_of s) (length table)))
  unfolding first_row
  zero-first e = ap (λ (b : Bool). cond b (some 0) (cond (ltb (length table) (count (model_of s))) (some 2) none)) e

  -- "The old desk answers to row 0 first"
  pub migrate-zero : corrupt s ≡ true → step_on s (migrate table) ≡ stays s (unbuffered (refused 0))
  migrate-zero e = ap (λ (o : Option ℕ). migrate_step o s table) (zero-first e)

  pub migrate-sound : corrupt s ≡ false → migrate_row s table ≡ first_row (migrate_rows (model_of s) (length table))
  migrate-sound e = zero-first e

  -- row 0 is answered exactly if the state is corrupt
  pub migrate-row-zero : (r : Reply) (s' : State) → Goes s (migrate table) r s' → (r.answer ≡ refused 0) ↔ (corrupt s ≡ true)
  unfolding first_row
  migrate-row-zero r s' x = (
    λ a. by (corrupt s) refl (ltb (length table) (count (model_of s))) (sym (ap (λ (d : Done). d.reply.answer) x-is) ∙ a),
    λ z. ap (λ (d : Done). d.reply.answer) (x.1 ∙ migrate-zero z),
  )
    where
      x-is : record { after = s'; reply = r } ≡ migrate_step (migrate_row s table) s table
      x-is = x.1

      by : (z : Bool) → corrupt s ≡ z → (b : Bool) → (migrate_step (cond (corrupt s) (some 0) (cond b (some 2) none)) s table).reply.answer ≡ refused 0 → corrupt s ≡ true
      by true e b h = e
      by false e true h = absurd (let k = rw e at h in let c : ◌≡◌ {A = ℕ} 2 0 = cc in omega arith)
      by false e false h = absurd (let k = rw e at h in let c : ◌≡◌ {A = ℕ} 0 1 = cc in omega arith)

  -- "wherever its desk is of edition 1": there is no second step
  pub no-second-step : s.edition ≡ edition2 → (r : Reply) (s' : State) → Goes s (migrate table) r s' → ⊥
  no-second-step e r s' x = let z : ◌≡◌ {A = ℕ} 4 2 = ap (λ (e : Edition). e.litres) (sym e ∙ x.0) in omega arith

-- row 2, or the store has gone over: at any state that is not corrupt, has a share for each site where a plan is held, and no roll where its edition has none
module _ (s : State) (sound : corrupt s ≡ false) (each : s.store.held ≡ true → length (plan_held s).shares ≡ s.store.count)
    (rolls : s.edition.roll ≡ false → (list_of s).roll ≡ none) (table : List Site) where
  -- so none where it is of edition 1
  no-roll-yet : s.edition ≡ edition1 → (list_of s).roll ≡ none
  no-roll-yet e = rolls (ap (λ (e : Edition). e.roll) e)

  over_by : s.edition ≡ edition1 → (b : Bool) → ltb (length table) (count (model_of s)) ≡ b → (r : Reply) (s' : State) → record { after = s'; reply = r } ≡ migrate_step (first_row (row 2 b ∷ [])) s table
      → Migrates s table r s'
  unfolding first_row
  over_by e true k r s' x = inl (ltb-true (length table) (count (model_of s)) k, ap (λ (d : Done). d.reply) x, ap (λ (d : Done). d.after) x)
  over_by e false k r s' x =
      let few : count (model_of s) ≤ length table = ltb-false (length table) (count (model_of s)) k in
      let room : s.store.count ≤ length table = omega (arith, few, sized s (intact→ s sound).room) in
      inr (few, ap (λ (d : Done). d.reply) x, subst (Migration s table) (sym (ap (λ (d : Done). d.after) x)) (migration s sound each (no-roll-yet e) table room))

  pub migration-or-row-2 : (r : Reply) (s' : State) → Goes s (migrate table) r s' → Migrates s table r s'
  migration-or-row-2 r s' x =
      over_by x.0 (ltb (length table) (count (model_of s))) refl r s' (x.1 ∙ ap (λ (o : Option ℕ). migrate_step o s table) (migrate-sound s table sound))

  -- what follows is not corrupt either
  pub still-sound : (r : Reply) (s' : State) → Goes s (migrate table) r s' → corrupt s' ≡ false
  unfolding first_row
  still-sound r s' x =
      by (ltb (length table) (count (model_of s))) refl (x.1 ∙ ap (λ (o : Option ℕ). migrate_step o s table) (migrate-sound s table sound))
    where
      by : (b : Bool) → ltb (length table) (count (model_of s)) ≡ b → record { after = s'; reply = r } ≡ migrate_step (cond b (some 2) none) s table → corrupt s' ≡ false
      by true k h = ap (λ (d : Done). corrupt d.after) h ∙ sound
      by false k h =
          let few : count (model_of s) ≤ length table = ltb-false (length table) (count (model_of s)) k in
          let room : s.store.count ≤ length table = omega (arith, few, sized s (intact→ s sound).room) in
          ap (λ (d : Done). corrupt d.after) h ∙ migrated-intact s sound each (no-roll-yet x.0) table room

-- a store has a share for each site: one with all its places, and one that holds what it should
pub each-of-512 : (s : State) → corrupt s ≡ false → length s.store.shares ≡ 512 → s.store.held ≡ true → length (plan_held s).shares ≡ s.store.count
each-of-512 s sound wide t = length-take-le s.store.count s.store.shares (omega (arith, (intact→ s sound).few, wide))

pub each-held : (s : State) → Holds s → s.store.held ≡ true → length (plan_held s).shares ≡ s.store.count
unfolding network
each-held s h t = (h.plan t).form.each ∙ sized s (intact→ s h.intact).room

-- and no roll where its edition has none
pub none-held : (s : State) → Holds s → s.edition.roll ≡ false → (list_of s).roll ≡ none
none-held s h = unrolled s.edition (list_of s).roll h.roll

-- ---- the step is the model's

module _ (s : State) (h : Holds s) (m : Marked s.edition) (table : List Site) (e : s.edition ≡ edition1) where
  -- by whether the new table has too few places
  migrates-by : (b : Bool) → ltb (length table) (count (model_of s)) ≡ b → KeptOn s (migrate table) (migrate_step (first_row (row 2 b ∷ [])) s table)
  unfolding first_row
  migrates-by true k =
      record {
        follows = (e, rw k refl);
        holds = h;
        marked = m;
        agrees = λ t a. a;
        not-zero = λ z. let c : ◌≡◌ {A = ℕ} 2 0 = cc in omega arith;
      }
  migrates-by false k =
      let room : s.store.count ≤ length table =
      omega (arith, ltb-false (length table) (count (model_of s)) k, sized s (intact→ s h.intact).room) in
      let each = each-held s h in
      let no-roll : (list_of s).roll ≡ none = none-held s h (ap (λ (e : Edition). e.roll) e) in
      let model = migrated-model s h.intact each no-roll table room in
      record {
        follows = (e, rw k (ap (λ (b : Model). M.turned b (unbuffered done)) model));
        holds = migrated-holds s h.intact each no-roll table room h.plan;
        marked = marked2;
        agrees = λ t a.
            record {
              edition = refl;
              places = ap (λ (b : Model). b.places) model;
              backed = subst (λ (b : Model). BackedIn b t.proposal) (sym model) a.backed;
              own = λ p k. inr (own-edition t p (sym a.edition ∙ e) (a.own p k), refl);
              roll = ap (λ (b : Model). b.list.roll) model ∙ no-roll;
            };
        not-zero = λ z. let c : ◌≡◌ {A = ℕ} 0 1 = cc in omega arith;
      }

  migrate-keeps : KeptOn s (migrate table) (migrate_step (migrate_row s table) s table)
  migrate-keeps =
      subst (λ (o : Option ℕ). KeptOn s (migrate table) (migrate_step o s table)) (sym (migrate-sound s table h.intact)) (migrates-by (ltb (length table) (count (model_of s))) refl)

-- Each event from a state that holds is the model's, and the next state holds.
module _ (s : State) (m : Marked s.edition) (h : Holds s) where
  pub goes_on_lem : (v : Event) → Possible s.edition v → InBytes v → KeptOn s v (step_on s v)
  goes_on_lem (called c) p b =
      let k = keeps s c m h (fed c.request c.input b) in
      let d = step_on s (called c) in
      record {
        follows = (tt, k.says);
        holds = k.holds;
        marked = subst Marked (sym k.edition) m;
        agrees = λ t a.
            record {
              edition = k.edition ∙ a.edition;
              places = k.places ∙ a.places;
              roll =
                  k.roll
                  ∙ ap₂ (λ (e : Edition) (o : Option (List ℕ)). roll_left c.request (roll_of e c.input) d.reply.answer o) a.edition a.roll;
              own = call-leaves (λ (p : Proposal). MadeIn p t.edition) c.request (record { edition = t.edition; bytes = c.input }) d.reply.answer t.proposal (inl refl) a.own;
              backed =
                  says-backed (model_of s) c t.proposal a.backed t.edition (sym a.edition) d.reply (model_of d.after) c.request refl k.says;
            };
        not-zero = not-zero s c d.reply d.after h.intact refl;
      }
  goes_on_lem (migrate table) p b = migrate-keeps s h m table p

  pub gone-on : (v : Event) (r : Reply) (s' : State) → InBytes v → Goes s v r s' → KeptOn s v (record { after = s'; reply = r })
  gone-on v r s' b x = subst (λ (d : Done). KeptOn s v d) (sym x.1) (goes_on_lem v x.0 b)
