-- The contracts of the exported functions of the store say what `Did`, `Figures`, `OneFigure`, `Differs`, `WroteOut`, `FreshCode` and `MigrateCode` say of the edition that a store's length tells, or that the
-- function is for (Contracts); so any calls of them, from what `sulgheti_fresh` or `sulgheti_fresh2` writes where it answers 0 and a table of any bytes, are a history of document 01, through the step to edition 2 where they take it, and each
-- code, figure and buffer that they give is that of the history's reply. What is written out of a list, and loaded, is the same list. The laws are over the edition. Assumes nothing.
use Prim.Native.Nat.{ℕ}
use mathlib.Core.Bool.{Bool, true, false, cond, ◌&&◌, false≢true}
use mathlib.Core.List.{List, [], ◌∷◌}
use mathlib.Core.Option.{Option, none, some}
use mathlib.Core.Path.{◌≡◌, refl, sym, ap, ap₂, ◌∙◌, subst}
use mathlib.Core.Logic.{inl, inr}
use native.Mathlib.Omega.{arith}
use borrow.Author.Tests.{eqb-true, ne_eqb}
use lib.Dec.{eqb}
use lib.IntN.{ℤ, pos}
use lib.ListN.{length, take}
use Rattle.records.specs.declared.Edition.{Edition}
use Rattle.records.specs.Bytes.{Bytes}
use Rattle.records.specs.Values.{roll_in}
use Rattle.records.specs.Outcome.{passed}
use Rattle.records.specs.Format.{edition1, edition2, read_list}
use Rattle.records.specs.Write.{Marked}
use Rattle.records.proofs.Samples.{marked1, marked2}
use Rattle.held_state.specs.declared.Store.{Store}
use Rattle.held_state.specs.Held.{State, on, corrupt}
use Rattle.store.specs.declared.Request.{Request}
use Rattle.store.specs.declared.Request.TheVariants.{Load, Change, Add, Propose, Share, Depot, Difference, Written, AtLeast, ListWritten}
use Rattle.store.specs.Calls.{Call, Event, Reply, Told, unbuffered, done, wrote}
use Rattle.store.specs.State.{Done, model_of, effect_of, refusal, settle, step}
use Rattle.store.specs.Trace.{Run, start, then, Steps, Goes, History, AllBytes, Figure, Exact, ListRoundTrip, SameFigures}
use Rattle.store.proofs.History.{exact, same-figures}
use Rattle.store.proofs.Steps.{both_true}
use Rattle.store.proofs.Migrate.{migrate-zero, each-of-512}
use Rattle.store.proofs.SameAnswers.{same-through}
use Rattle.layout.specs.Layout.{store_size, sites_in}
use Rattle.layout.proofs.Reading.{length-sites}
use Rattle.lent.specs.Lent.{state_in, is_of, call, Freshened}
use Rattle.store_migrate_bytes.specs.Migrate.{into, migrates, Migrated}
use Rattle.lent.proofs.Contracts.{laid-reply, fresh-sized, bytes-list}
use Rattle.lent.proofs.Served.{litres-fit, unrolled}
use Rattle.store_converted.specs.Converted.{Converted}
use Rattle.store_converted.proofs.Converted.{written_over}
use Rattle.store_migrate_bytes.proofs.Migrated.{store-places}
use Rattle.store_migrate_bytes.proofs.Contracts.{over-goes, not-over-goes, over_sized}
use Rattle.codes.specs.Codes.{edition_in, no_store_code, done_code, length_code, first_of, second_of, difference_of, answer_of, Moved, Did, WroteOut, FreshCode, MigrateCode}
use Rattle.codes.proofs.DeskCodes.{row-not-length, migrate-answer, code-migrated, code-done, code-refused}
use Rattle.desk.specs.Exports.{Given, coded, figures, differs, written, one_figure, Exported, Answers, AllAnswer, Offered, edition_for, Calls, none as no_call, next, over, not-over, other, other-start, other_step, asked, question, SameGiven, ListGiven, MigratedGiven}

-- ---- the edition of a store

-- bytes that have the length of a store of an edition are told as of that edition
told-edition : {e : Edition} (s : List ℕ) → Offered e → is_of e s ≡ true → edition_in s ≡ e
told-edition s (inl k) long =
    let h : length s ≡ 2584 = eqb-true (length s) 2584 (subst (λ (d : Edition). is_of d s ≡ true) k long) in
    ap (λ (b : Bool). cond b edition2 edition1) (ne_eqb (length s) 4704 (λ j. omega (arith, h, j))) ∙ sym k
told-edition s (inr k) long = ap (λ (b : Bool). cond b edition2 edition1) (subst (λ (d : Edition). is_of d s ≡ true) k long) ∙ sym k

-- and so every function serves it by that edition
serves : {e : Edition} (s : List ℕ) → edition_in s ≡ e → (q : Request) → edition_for e q s ≡ e
serves s k Load = k
serves s k (Change i w) = refl
serves s k (Add f d w) = refl
serves s k Propose = k
serves s k (Share i) = k
serves s k (Depot d) = k
serves s k (Difference a b) = k
serves s k Written = k
serves s k (AtLeast m) = k
serves s k ListWritten = k

-- what keeps its length keeps its edition
same-edition : (s s' : List ℕ) → length s' ≡ length s → edition_in s' ≡ edition_in s
same-edition s s' h = ap (λ (n : ℕ). cond (eqb n (store_size 8 true)) edition2 edition1) h

marked : {e : Edition} → Offered e → Marked e
marked (inl k) = subst Marked (sym k) marked1
marked (inr k) = subst Marked (sym k) marked2

-- every store is told as of one of the two
offered : (s : List ℕ) → Offered (edition_in s)
offered s = by (is_of edition2 s)
  where
    by : (b : Bool) → Offered (cond b edition2 edition1)
    by true = inr refl
    by false = inl refl

-- a store that is told as of an edition with rolls has its length
rolls-sized : (s : List ℕ) → (edition_in s).roll ≡ true → is_of (edition_in s) s ≡ true
rolls-sized s = by (is_of edition2 s) refl
  where
    by : (b : Bool) → is_of edition2 s ≡ b → (cond b edition2 edition1).roll ≡ true → is_of (cond b edition2 edition1) s ≡ true
    by true long h = long
    by false long h = absurd (false≢true h)

-- ---- one call

module _ (e : Edition) (s t s' t' : List ℕ) (c : Call) where
  as-kept : s' ≡ s → t' ≡ t → Moved e s t c s t → Moved e s t c s' t'
  as-kept h k m = subst (λ (z : List ℕ). Moved e s t c z t') (sym h) (subst (λ (z : List ℕ). Moved e s t c s z) (sym k) m)

  moved : (g : Given) → Exported e s t c g s' t' → Moved e s t c s' t'
  moved (coded r) x = x.moved
  moved (figures r a b a' b') x = as-kept x.1 x.2 x.0.kept
  moved (differs r a b a' b') x = as-kept x.1 x.2 x.0.kept
  moved (written r out) x = as-kept x.1 x.2 x.0.kept
  moved (one_figure r a a') x = as-kept x.1 x.2 x.0.kept

  module _ (long : is_of e s ≡ true) where
    answers : (g : Given) → Exported e s t c g s' t' → Answers g (call e s t c).reply
    answers (coded r) x = rw long at x.code
    answers (figures r a b a' b') x = (rw long at x.0.code, rw long at x.0.first, rw long at x.0.second)
    answers (differs r a b a' b') x = (rw long at x.0.code, rw long at x.0.difference, rw long at x.0.divisor)
    answers (written r out) x = (rw long at x.0.code, rw long at x.0.buffer)
    answers (one_figure r a a') x = (rw long at x.0.code, rw long at x.0.figure)

    is-step : Moved e s t c s' t' → Steps (state_in e s t) c (call e s t c).reply (state_in e s' t')
    is-step m = ap₂ (λ (z : State) (r : Reply). record { after = z; reply = r }) (m.reads long) (laid-reply e s t (step (state_in e s t) c))

    stays-sized : Moved e s t c s' t' → is_of e s' ≡ true
    stays-sized m = ap (λ (n : ℕ). eqb n (store_size e.share e.roll)) m.long ∙ long

-- ---- a store of the other edition

-- bytes are a store of one edition only
pub one-edition : (s : List ℕ) → (is_of edition1 s ≡ true → is_of edition2 s ≡ false) × (is_of edition2 s ≡ true → is_of edition1 s ≡ false)
one-edition s = (
  (λ h. let k = eqb-true (length s) 2584 h in ne_eqb (length s) 4704 (λ j. omega (arith, k, j))),
  (λ h. let k = eqb-true (length s) 4704 h in ne_eqb (length s) 2584 (λ j. omega (arith, k, j))),
)

-- a function for one edition answers no row at a store of the other, and leaves it and its table as they were
pub other-edition : {e : Edition} {s t s' t' : List ℕ} {c : Call} {r : ℤ} → is_of e s ≡ false → Did e s t c r s' t' → (r ≡ no_store_code) × (s' ≡ s) × (t' ≡ t)
other-edition h d = (rw h at d.code, rw h at d.moved.store, rw h at d.moved.table)

pub other-fresh : {e : Edition} {s s' : List ℕ} {r : ℤ} → is_of e s ≡ false → FreshCode e s r s' → (r ≡ no_store_code) × (s' ≡ s)
other-fresh h f = (rw h at f.code, rw h at f.store)

-- so does the step to edition 2, and leaves the new store and table as they were
pub other-migrate : {s t s₂ t₂ s₂' t₂' : List ℕ} {r : ℤ} → is_of edition1 s && is_of edition2 s₂ ≡ false → MigrateCode s t s₂ t₂ r s₂' t₂'
    → (r ≡ no_store_code) × (s₂' ≡ s₂) × (t₂' ≡ t₂)
other-migrate h m = (rw h at m.code, rw h at m.store, rw h at m.table)

-- ---- codes

-- what answers 0 or a length has been given a store
length-there : (m : ℕ) (x : ℤ) (b : Bool) → pos m ≡ cond b x no_store_code → b ≡ true
length-there m x true h = refl
length-there m x false h = let z : ◌≡◌ {A = ℕ} 0 1 = cc in absurd (omega arith)

-- ---- the step to edition 2

-- a code of 0 is answered where both stores have their lengths
module _ {s t s₂ t₂ s₂' t₂' : List ℕ} (m : MigrateCode s t s₂ t₂ (pos 0) s₂' t₂') where
  over-long : (is_of edition1 s ≡ true) × (is_of edition2 s₂ ≡ true)
  over-long = both_true (is_of edition1 s) (is_of edition2 s₂) (length-there 0 (done_code (migrates s t t₂).reply.answer) (is_of edition1 s && is_of edition2 s₂) m.code)

  over-migrated : Migrated s t s₂ t₂ (migrates s t t₂).reply.answer s₂' t₂'
  over-migrated = code-migrated m over-long.0 over-long.1

  new-sized : is_of edition2 s₂' ≡ true
  new-sized = over_sized over-migrated over-long.1

  over_done : (migrates s t t₂).reply.answer ≡ done
  over_done = code-done m over-long.0 over-long.1 refl

  over-event : Goes (state_in edition1 s t) (into t₂) (unbuffered (migrates s t t₂).reply.answer) (state_in edition2 s₂' t₂')
  over-event = over-goes over-migrated over_done

-- ---- calls

run : {e d : Edition} {s t s' t' : List ℕ} {vs : List Event} {gs : List Given} → Offered e → is_of e s ≡ true → Calls e s t vs gs d s' t'
    → (rs : List Reply) × Run Goes (state_in e s t) vs rs (state_in d s' t') × AllAnswer gs rs × (is_of d s' ≡ true) × Offered d
unfolding AllAnswer
run o long no_call = ([], start, tt, long, o)
run {e} {s = s} {t} o long (next {s₁ = s₁} {t₁ = t₁} {c = c} {g = g} y calls) =
    let x : Exported e s t c g s₁ t₁ = subst (λ (d : Edition). Exported d s t c g s₁ t₁) (serves s (told-edition s o long) c.request) y in
    let m = moved e s t s₁ t₁ c g x in
    let (rs, steps, all, last, offers) = run o (stays-sized e s t s₁ t₁ c long m) calls in
    ((call e s t c).reply ∷ rs, then (tt, is-step e s t s₁ t₁ c long m) steps, (answers e s t s₁ t₁ c long g x, all), last, offers)
run {s = s} {t} o long (over t₂ m calls) =
    let (rs, steps, all, last, offers) = run (inr refl) (new-sized m) calls in
    (unbuffered (migrates s t t₂).reply.answer ∷ rs, then (over-event m) steps, (migrate-answer m (over-long m).0 (over-long m).1, all), last, offers)
run {s = s} {t} o long (not-over t₂ there h m calls) =
    let (rs, steps, all, last, offers) = run o long calls in
    let (n, refusal_is) = code-refused m long there h in
    (unbuffered (migrates s t t₂).reply.answer ∷ rs, then (not-over-goes (code-migrated m long there) n refusal_is) steps, (migrate-answer m long there, all), last, offers)
run {e} {d} {s' = s'} {t'} {vs} o long (other k h x calls) =
    let (code, store, table) = other-edition h x in
    let (rs, steps, all, last, offers) = run o (subst (λ (z : List ℕ). is_of e z ≡ true) (sym store) long) calls in
    (rs, subst (λ (z : State). Run Goes z vs rs (state_in d s' t')) (ap₂ (λ (a b : List ℕ). state_in e a b) store table) steps, all, last, offers)
run {e} {d} {t = t} {s'} {t'} {vs} o long (other-start k h x calls) =
    let (code, store) = other-fresh h x in
    let (rs, steps, all, last, offers) = run o (subst (λ (z : List ℕ). is_of e z ≡ true) (sym store) long) calls in
    (rs, subst (λ (z : State). Run Goes z vs rs (state_in d s' t')) (ap (λ (a : List ℕ). state_in e a t) store) steps, all, last, offers)
run o long (other_step h x calls) = run o long calls

-- every input is bytes: the contracts say so
inputs : {e d : Edition} {s t s' t' : List ℕ} {vs : List Event} {gs : List Given} → Calls e s t vs gs d s' t' → AllBytes vs
unfolding AllBytes
inputs no_call = tt
inputs {e} {s = s} {t} (next {s₁ = s₁} {t₁ = t₁} {c = c} {g = g} x calls) = ((moved (edition_for e c.request s) s t s₁ t₁ c g x).bytes, inputs calls)
inputs (over t₂ m calls) = (tt, inputs calls)
inputs (not-over t₂ there h m calls) = (tt, inputs calls)
inputs (other k h x calls) = inputs calls
inputs (other-start k h x calls) = inputs calls
inputs (other_step h x calls) = inputs calls

-- `sulgheti_fresh` answers 0 only where it has written a fresh store
done-fresh : {e : Edition} {s₀ s : List ℕ} → FreshCode e s₀ (pos 0) s → Freshened e s
done-fresh {e} {s₀} f =
    let long = length-there 0 (pos 0) (is_of e s₀) f.code in
    record { is = rw long at f.store; reads = f.reads long }

module _ {e d : Edition} {s₀ s t s' t' : List ℕ} {vs : List Event} {gs : List Given} (o : Offered e) (f : FreshCode e s₀ (pos 0) s) (calls : Calls e s t vs gs d s' t') where
  pub calls-history : (rs : List Reply) × History e (sites_in e.litres t) vs rs (state_in d s' t') × AllAnswer gs rs × (is_of d s' ≡ true) × Offered d
  calls-history =
      let g = done-fresh f in
      let (rs, steps, all, last, offers) = run o (fresh-sized g) calls in
      (rs, subst (λ (z : State). Run Goes z vs rs (state_in d s' t')) (ap (λ (x : Store). on e x (sites_in e.litres t)) g.reads) steps, all, last, offers)

  -- Demand 3 of these calls: what they give is what the model replies, in numbers.
  pub calls-exact : (rs : List Reply) × Exact e (sites_in e.litres t) vs rs (state_in d s' t') × AllAnswer gs rs
  calls-exact = let (rs, h, all, last, offers) = calls-history in (rs, exact (marked o) h (inputs calls), all)

  -- the store's edition is still told by its length
  still : edition_in s' ≡ d
  still = let (rs, h, all, last, offers) = calls-history in told-edition s' offers last

-- ---- two stores that hold the same list

-- what has the code 0 is what no row refuses
module _ (e : Edition) (s t : List ℕ) (c : Call) where
  abbrev answer : Told
  answer = answer_of e s t c

  abbrev granted : Told
  granted = (effect_of (state_in e s t) c c.request).reply.answer

  not-refused : (o : Option ℕ) → answer ≡ (settle o (state_in e s t) c (effect_of (state_in e s t) c c.request)).reply.answer → pos 0 ≡ done_code answer → answer ≡ granted
  not-refused none h k = h
  not-refused (some n) h k = absurd (row-not-length 0 n (k ∙ ap done_code h))

  module _ {s' t' : List ℕ} (m : Moved e s t c s' t') (code : pos 0 ≡ cond (is_of e s) (done_code answer) no_store_code) where
    long : is_of e s ≡ true
    long = length-there 0 (done_code answer) (is_of e s) code

    steps : Steps (state_in e s t) c (call e s t c).reply (state_in e s' t')
    steps = is-step e s t s' t' c long m

    answered : answer ≡ granted
    answered = not-refused (refusal (state_in e s t) c) (ap (λ (d : Done). d.reply.answer) steps) (rw long at code)

    -- a figure that is asked for is that of the answer
    given : {A : Type 0} (of : Told → A) {r : A} (y : A) → r ≡ cond (is_of e s) (of answer) y → r ≡ of granted
    given of y h = (rw long at h) ∙ ap of answered

-- the figures of the same questions
module _ (s₁ t₁ s₂ t₂ : List ℕ) (h : SameFigures (state_in (edition_in s₁) s₁ t₁) (state_in (edition_in s₂) s₂ t₂)) where
  abbrev e₁ : Edition
  e₁ = edition_in s₁

  abbrev e₂ : Edition
  e₂ = edition_in s₂

  same-given : SameGiven s₁ t₁ s₂ t₂
  same-given =
      record {
        site = λ i x₁ y₁ x₁' y₁' x₂ y₂ x₂' y₂' f g.
            let q = question (Share i) in
            let same = h.site q q i _ _ _ _ _ _ _ _ refl refl (steps e₁ s₁ t₁ q f.kept f.code) (steps e₂ s₂ t₂ q g.kept g.code)
            (answered e₁ s₁ t₁ q f.kept f.code) (answered e₂ s₂ t₂ q g.kept g.code) in
            given e₁ s₁ t₁ q f.kept f.code (λ (a : Told). second_of a y₁) y₁ f.second
            ∙ same
            ∙ sym (given e₂ s₂ t₂ q g.kept g.code (λ (a : Told). second_of a y₂) y₂ g.second);
        depot = λ d x₁ y₁ x₁' y₁' x₂ y₂ x₂' y₂' f g.
            let q = question (Depot d) in
            let same = h.depot q q d _ _ _ _ _ _ _ _ refl refl (steps e₁ s₁ t₁ q f.kept f.code) (steps e₂ s₂ t₂ q g.kept g.code)
            (answered e₁ s₁ t₁ q f.kept f.code) (answered e₂ s₂ t₂ q g.kept g.code) in (
              given e₁ s₁ t₁ q f.kept f.code (λ (a : Told). first_of a x₁) x₁ f.first
                  ∙ same.0
                  ∙ sym (given e₂ s₂ t₂ q g.kept g.code (λ (a : Told). first_of a x₂) x₂ g.first),
              given e₁ s₁ t₁ q f.kept f.code (λ (a : Told). second_of a y₁) y₁ f.second
                  ∙ same.1
                  ∙ sym (given e₂ s₂ t₂ q g.kept g.code (λ (a : Told). second_of a y₂) y₂ g.second),
            );
        differences = λ a b x₁ y₁ x₁' y₁' x₂ y₂ x₂' y₂' f g.
            let q = question (Difference a b) in
            let same = h.differences q q a b _ _ _ _ _ _ _ _ refl refl (steps e₁ s₁ t₁ q f.kept f.code) (steps e₂ s₂ t₂ q g.kept g.code)
            (answered e₁ s₁ t₁ q f.kept f.code) (answered e₂ s₂ t₂ q g.kept g.code) in (
              given e₁ s₁ t₁ q f.kept f.code (λ (a : Told). difference_of a x₁) x₁ f.difference
                  ∙ same.0
                  ∙ sym (given e₂ s₂ t₂ q g.kept g.code (λ (a : Told). difference_of a x₂) x₂ g.difference),
              given e₁ s₁ t₁ q f.kept f.code (λ (a : Told). second_of a y₁) y₁ f.divisor
                  ∙ same.1
                  ∙ sym (given e₂ s₂ t₂ q g.kept g.code (λ (a : Told). second_of a y₂) y₂ g.divisor),
            );
        at-least = λ m x₁ x₁' x₂ x₂' f g.
            let q = question (AtLeast m) in
            let same = h.at-least q q m _ _ _ _ _ _ refl refl (steps e₁ s₁ t₁ q f.kept f.code) (steps e₂ s₂ t₂ q g.kept g.code)
            (answered e₁ s₁ t₁ q f.kept f.code) (answered e₂ s₂ t₂ q g.kept g.code) in
            given e₁ s₁ t₁ q f.kept f.code (λ (a : Told). first_of a x₁) x₁ f.figure
            ∙ same
            ∙ sym (given e₂ s₂ t₂ q g.kept g.code (λ (a : Told). first_of a x₂) x₂ g.figure);
      }

-- Two stores that hold the same list after such calls, each of either edition: each W, q, w × q, difference and set of depots that both answer, and that the functions give
-- for both, is the same.
pub calls_same : {e d k l : Edition} {s₀ s t s' t' u₀ u v u' v' : List ℕ} {vs ws : List Event} {gs hs : List Given}
    → Offered e → FreshCode e s₀ (pos 0) s → Calls e s t vs gs k s' t' → Offered d → FreshCode d u₀ (pos 0) u → Calls d u v ws hs l u' v'
    → (model_of (state_in k s' t')).list ≡ (model_of (state_in l u' v')).list → SameFigures (state_in k s' t') (state_in l u' v') × SameGiven s' t' u' v'
calls_same {k = k} {l} {s' = s'} {t'} {u' = u'} {v'} o f x p g y same =
    let (rs, a, all) = calls-exact o f x in
    let (ts, b, each) = calls-exact p g y in
    let h = same-figures a b same in (
      h,
      same-given s' t' u' v'
          (subst (λ (e : Edition). SameFigures (state_in e s' t') (state_in (edition_in u') u' v')) (sym (still o f x))
          (subst (λ (e : Edition). SameFigures (state_in k s' t') (state_in e u' v')) (sym (still p g y)) h)),
    )

-- ---- the list written out

-- a length is answered where no row refuses
wrote_by : (s : State) (c : Call) (n : ℕ) (o : Option ℕ) → pos n ≡ length_code (settle o s c (effect_of s c ListWritten)).reply.answer
    → (settle o s c (effect_of s c ListWritten)).reply.answer ≡ wrote n
wrote_by s c n none h = cc
wrote_by s c n (some k) h = absurd (row-not-length n k h)

module _ {e : Edition} {s t buffer out : List ℕ} {n : ℕ} (w : WroteOut e s t (asked ListWritten [] buffer) (pos n) out) where
  abbrev list_call : Call
  list_call = asked ListWritten [] buffer

  list-long : is_of e s ≡ true
  list-long = length-there n (length_code (answer_of e s t list_call)) (is_of e s) w.code

  list_steps : Steps (state_in e s t) list_call (call e s t list_call).reply (state_in e s t)
  list_steps = is-step e s t s t list_call list-long w.kept

  list_wrote : (call e s t list_call).reply.answer ≡ wrote n
  list_wrote =
      let k = ap (λ (d : Done). d.reply.answer) list_steps in
      k ∙ wrote_by (state_in e s t) list_call n (refusal (state_in e s t) list_call) ((rw list-long at w.code) ∙ ap length_code k)

  list-out : out ≡ (call e s t list_call).reply.buffer
  list-out = rw list-long at w.buffer

module _ (s t : List ℕ) (trip : ListRoundTrip (state_in (edition_in s) s t)) where
  abbrev e : Edition
  e = edition_in s

  list-given : ListGiven s t
  list-given =
      record {
        reads = λ buffer out n places w room.
            subst (λ (z : List ℕ). read_list e places (take n z) ≡ passed (model_of (state_in e s t)).list) (sym (list-out w))
            (trip.reads (list_call w) _ _ n places refl (list_steps w) (list_wrote w) room);
        loads = λ buffer out u v u' v' n r w same long room did.
            let c = asked Load (take n out) [] in
            let sized : is_of e u ≡ true = subst (λ (k : Edition). is_of k u ≡ true) same long in
            let d : Did e u v c r u' v' = subst (λ (k : Edition). Did k u v c r u' v') same did in
            let k = trip.loads (list_call w) c _ (call e u v c).reply _ (state_in e u v) (state_in e u' v') n refl (list_steps w) (list_wrote w) refl (rw length-sites room) refl
            (ap (take n) (list-out w)) (is-step e u v u' v' c sized d.moved) in
            ((rw sized at d.code) ∙ ap done_code k.0, ap (λ (j : Edition). (model_of (state_in j u' v')).list) same ∙ k.1);
        again = λ list s' t' buffer out n d wrote.
            let c = asked Load list [] in
            let w : WroteOut e s' t' (asked ListWritten [] buffer) (pos n) out =
            subst (λ (k : Edition). WroteOut k s' t' (asked ListWritten [] buffer) (pos n) out) (same-edition s s' d.moved.long) wrote in
            let k = trip.again c (list_call w) _ _ (state_in e s' t') _ n refl d.moved.bytes (steps e s t c d.moved d.code) (answered e s t c d.moved d.code) refl
            (list_steps w) (list_wrote w) in
            (k.0, list-out w ∙ k.1);
      }

-- Document 02, b, at any store and any table of bytes.
pub exports-list : (s t : List ℕ) → Bytes t → ListGiven s t
exports-list s t b = list-given s t (bytes-list (edition_in s) (marked (offered s)) s t (rolls-sized s) b)

-- ---- what is given after the step to edition 2

module _ {s t s₂ s₂' t₂' : List ℕ} (t₂ : List ℕ) (m : MigrateCode s t s₂ t₂ (pos 0) s₂' t₂') where
  -- both are told by their lengths
  old-edition : edition_in s ≡ edition1
  old-edition = told-edition s (inl refl) (over-long m).0

  new-edition : edition_in s₂' ≡ edition2
  new-edition = told-edition s₂' (inr refl) (new-sized m)

  -- row 0 has not refused
  not-corrupt : corrupt (state_in edition1 s t) ≡ false
  not-corrupt = by (corrupt (state_in edition1 s t)) refl
    where
      by : (z : Bool) → corrupt (state_in edition1 s t) ≡ z → z ≡ false
      by false e = refl
      by true e =
          absurd
          (row-not-length 0 0 (migrate-answer m (over-long m).0 (over-long m).1 ∙ ap (λ (d : Done). done_code d.reply.answer) (migrate-zero (state_in edition1 s t) (sites_in edition2.litres t₂) e)))

  -- a question for a figure is answered as before
  as_before : (c : Call) → Figure c.request → answer_of edition1 s t c ≡ answer_of edition2 s₂' t₂' c
  as_before c f =
      ap (λ (r : Reply). r.answer)
      (laid-reply edition1 s t (step (state_in edition1 s t) c)
      ∙ sym (same-through (state_in edition1 s t) not-corrupt (each-of-512 (state_in edition1 s t) not-corrupt (store-places edition1.share edition1.roll s).1) (λ h. ap roll_in (unrolled edition1 s h)) (sites_in edition2.litres t₂)
      (unbuffered (migrates s t t₂).reply.answer) (state_in edition2 s₂' t₂') (over-event m) c f)
      ∙ sym (laid-reply edition2 s₂' t₂' (step (state_in edition2 s₂' t₂') c)))

  -- a code and a figure are those of the answer
  same-given-by : {A : Type 0} (c : Call) → Figure c.request → (of : Told → A) {x y : A} (z : A) → x ≡ cond (is_of (edition_in s) s) (of (answer_of (edition_in s) s t c)) z
      → y ≡ cond (is_of (edition_in s₂') s₂') (of (answer_of (edition_in s₂') s₂' t₂' c)) z → x ≡ y
  same-given-by c f of z h k =
      (rw (old-edition, (over-long m).0) at h) ∙ ap of (as_before c f) ∙ sym (rw (new-edition, new-sized m) at k)

  -- Document 02, e: "each question gets the figure it would have got before", at whatever content row 0 lets through.
  pub exports-as-before : MigratedGiven s t s₂' t₂'
  exports-as-before =
      record {
        site = λ i r r₂ x y x' y' x₂ y₂ f g. (
          same-given-by (question (Share i)) tt done_code no_store_code f.code g.code,
          same-given-by (question (Share i)) tt (λ (a : Told). first_of a x) x f.first g.first,
          same-given-by (question (Share i)) tt (λ (a : Told). second_of a y) y f.second g.second,
        );
        depot = λ d r r₂ x y x' y' x₂ y₂ f g. (
          same-given-by (question (Depot d)) tt done_code no_store_code f.code g.code,
          same-given-by (question (Depot d)) tt (λ (a : Told). first_of a x) x f.first g.first,
          same-given-by (question (Depot d)) tt (λ (a : Told). second_of a y) y f.second g.second,
        );
        differences = λ a b r r₂ x y x' y' x₂ y₂ f g. (
          same-given-by (question (Difference a b)) tt done_code no_store_code f.code g.code,
          same-given-by (question (Difference a b)) tt (λ (u : Told). difference_of u x) x f.difference g.difference,
          same-given-by (question (Difference a b)) tt (λ (u : Told). second_of u y) y f.divisor g.divisor,
        );
        at-least = λ n r r₂ x x' x₂ f g.
            (same-given-by (question (AtLeast n)) tt done_code no_store_code f.code g.code, same-given-by (question (AtLeast n)) tt (λ (a : Told). first_of a x) x f.figure g.figure);
      }

-- Document 02, e: what is written out after it is what the converter makes of what was written out before.
pub exports-converted : {e : Edition} {s₀ s t s' t' s₂ s₂' t₂' : List ℕ} {vs : List Event} {gs : List Given} → Offered e → FreshCode e s₀ (pos 0) s
    → Calls e s t vs gs edition1 s' t' → Bytes t' → (t₂ : List ℕ) → MigrateCode s' t' s₂ t₂ (pos 0) s₂' t₂' → Converted (state_in edition1 s' t') (state_in edition2 s₂' t₂')
exports-converted {t' = t'} o f calls b t₂ m =
    let (rs, h, all, last, offers) = calls-history o f calls in
    written_over (marked o) h (inputs calls) (λ i l. litres-fit edition1 t' b i) (sites_in edition2.litres t₂) (over-event m) (over_done m)

-- ---- the exported functions: edition 1 and edition 2

pub exports-exact : {d : Edition} {s₀ s t s' t' : List ℕ} {vs : List Event} {gs : List Given} → FreshCode edition1 s₀ (pos 0) s → Calls edition1 s t vs gs d s' t'
    → (rs : List Reply) × Exact edition1 (sites_in 2 t) vs rs (state_in d s' t') × AllAnswer gs rs
exports-exact f calls = calls-exact (inl refl) f calls

pub exports-exact2 : {d : Edition} {s₀ s t s' t' : List ℕ} {vs : List Event} {gs : List Given} → FreshCode edition2 s₀ (pos 0) s → Calls edition2 s t vs gs d s' t'
    → (rs : List Reply) × Exact edition2 (sites_in 4 t) vs rs (state_in d s' t') × AllAnswer gs rs
exports-exact2 f calls = calls-exact (inr refl) f calls
