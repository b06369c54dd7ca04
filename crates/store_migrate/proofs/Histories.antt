-- Calls of the typed entries of both editions with the step between them, from a fresh store of edition 1 and a table of any length and content: they are a history, so demand 3 runs
-- through the step. Nothing is asked of their inputs or of the litres that they name: the contracts say what these are. Assumes nothing.
use mathlib.Core.Path.{◌≡◌, refl, sym, ap, ap₂, subst}
use mathlib.Core.Bool.{Bool, true, false, cond}
use mathlib.Core.List.{List, map}
use mathlib.Core.Option.{Option, none, some}
use Prim.Native.Nat.{ℕ}
use native.Mathlib.Omega.{arith}
use lib.ListN.{length}
use Rattle.density.specs.declared.Site.{Site}
use Rattle.table.specs.declared.Site1.{Site1}
use Rattle.table.specs.Widths.{widened}
use Rattle.records.specs.declared.Edition.{Edition}
use Rattle.records.specs.Format.{edition1, edition2}
use Rattle.records.proofs.Samples.{marked1}
use Rattle.held_state.specs.declared.Store.{Store}
use Rattle.held_state.specs.Held.{State}
use Rattle.std.specs.declared.result.Result.{Result}
use Rattle.records.specs.declared.refusal.Refusal.{Refusal}
use Rattle.store.specs.declared.Answer.{Answer}
use Rattle.store.specs.Calls.{Event, migrate, Reply, Told, told, unbuffered, done}
use Rattle.store.specs.State.{model_of, migrate_row, migrate_step}
use Rattle.store.specs.Trace.{Run, start, then, Goes, History, AllBytes, Traced, traced_on, begun, ended, Exact, ListRoundTrip, SameFigures}
use Rattle.store.specs.Widths.{NamedIn, AllNamed}
use Rattle.store.proofs.History.{exact, one-history, same-figures}
use Rattle.store.proofs.ListRoundTrip.{history-fits, history-list}
use Rattle.edition1.specs.declared.Store1.{Store1}
use Rattle.edition1.specs.Edition1.{view1, fresh1}
use Rattle.entries1.specs.Entries1.{event1, replied1}
use Rattle.entries1.proofs.Contracts.{lawful1}
use Rattle.store_entries2.specs.Edition2.{view2}
use Rattle.store_entries2.specs.Entries2.{event2, replied2}
use Rattle.store_migrate.specs.Migrate.{MovedOver}
use Rattle.store_migrate.specs.Calls.{AnyStore, of1, of2, viewed, goes_on, Calls, none as no_call, next1, next2, over}
use Rattle.store_converted.specs.Converted.{Converted}
use Rattle.store_converted.proofs.Converted.{written_over}

-- ---- the step

module _ (s : Store1) (t : List Site1) (new : List Site) (store : Store) (last : List Site) where
  -- by the row that applies
  over_by : (o : Option ℕ) (a : Told) → a ≡ (migrate_step o (view1 s t) new).reply.answer → store ≡ (migrate_step o (view1 s t) new).after.store
      → last ≡ cond (ended a) (migrate_step o (view1 s t) new).after.table new
      → record { after = viewed (cond (ended a) (of2 store last) (of1 s t)); reply = unbuffered a } ≡ migrate_step o (view1 s t) new
  over_by none a e f g =
      let h = subst (λ (a : Told). last ≡ cond (ended a) (migrate_step none (view1 s t) new).after.table new) e g in
      subst (λ (a : Told). record { after = viewed (cond (ended a) (of2 store last) (of1 s t)); reply = unbuffered a } ≡ migrate_step none (view1 s t) new) (sym e)
      (ap₂ (λ (x : Store) (y : List Site). record { after = view2 x y; reply = unbuffered done }) f h)
  over_by (some n) a e f g =
      subst (λ (a : Told). record { after = viewed (cond (ended a) (of2 store last) (of1 s t)); reply = unbuffered a } ≡ migrate_step (some n) (view1 s t) new) (sym e) refl

  pub over-goes : (answer : Result Answer Refusal) → MovedOver (view1 s t) new answer store last
      → Goes (view1 s t) (migrate new) (unbuffered (told answer)) (viewed (goes_on s t answer store last))
  over-goes answer m = (refl, over_by (migrate_row (view1 s t) new) (told answer) m.answered m.stored m.table)

  -- the edition after it is told by the answer
  over-edition : (a : Told) (u : Traced) → u.edition ≡ edition1
      → (traced_on (migrate new) a u).edition ≡ (viewed (cond (ended a) (of2 store last) (of1 s t))).edition
  over-edition a u e = by (ended a)
    where
      by : (b : Bool) → (cond b (record { edition = edition2; places = length new; proposal = u.proposal; roll = none }) u).edition ≡ (viewed (cond b (of2 store last) (of1 s t))).edition
      by true = refl
      by false = e

-- ---- calls, one after another

calls-run : {c d : AnyStore} {vs : List Event} {rs : List Reply} → Calls c vs rs d → Run Goes (viewed c) vs rs (viewed d)
calls-run no_call = start
calls-run (next1 p r (typed, x) xs) = then (tt, x) (calls-run xs)
calls-run (next2 p r (typed, x) xs) = then (tt, x) (calls-run xs)
calls-run (over {s = s} {t = t} {new = new} {last = last} {store = store} a m xs) = then (over-goes s t new store last a m) (calls-run xs)

calls-bytes : {c d : AnyStore} {vs : List Event} {rs : List Reply} → Calls c vs rs d → AllBytes vs
unfolding AllBytes
calls-bytes no_call = tt
calls-bytes (next1 p r (typed, x) xs) = (typed.0, calls-bytes xs)
calls-bytes (next2 p r (typed, x) xs) = (typed.0, calls-bytes xs)
calls-bytes (over a m xs) = (tt, calls-bytes xs)

-- every litres have the width of the edition that the answers tell
calls-named : {c d : AnyStore} {vs : List Event} {rs : List Reply} → Calls c vs rs d → (u : Traced) → u.edition ≡ (viewed c).edition → AllNamed u vs rs
unfolding AllNamed
calls-named no_call u e = tt
calls-named (next1 p r (typed, x) xs) u e =
    (subst (λ (e : Edition). NamedIn e (event1 p)) (sym e) typed.1, calls-named xs (traced_on (event1 p) (replied1 r).answer u) e)
calls-named (next2 p r (typed, x) xs) u e =
    (subst (λ (e : Edition). NamedIn e (event2 p)) (sym e) typed.1, calls-named xs (traced_on (event2 p) (replied2 r).answer u) e)
calls-named (over {s = s} {t = t} {new = new} {last = last} {store = store} a m xs) u e =
    (tt, calls-named xs (traced_on (migrate new) (told a) u) (over-edition s t new store last (told a) u e))

module _ {d : AnyStore} {table : List Site1} {vs : List Event} {rs : List Reply} (calls : Calls (of1 fresh1 table) vs rs d) where
  -- Any calls, from what `fresh1` gives and a table of any length and content, are a history that begins in edition 1.
  pub calls-history : History edition1 (map widened table) vs rs (viewed d)
  calls-history = calls-run calls

  -- Demand 3 of these calls, through the step.
  pub calls-exact : Exact edition1 (map widened table) vs rs (viewed d)
  calls-exact = exact marked1 calls-history (calls-bytes calls)

  -- Document 02, b: the list written out after them.
  pub calls-list : ListRoundTrip (viewed d)
  calls-list = history-list marked1 calls-history (calls-bytes calls) (calls-named calls (begun edition1 (map widened table)) refl)

-- Document 02, e: what is written out after the step is what the converter makes of what was written out before.
pub calls-converted : {s : Store1} {table t : List Site1} {vs : List Event} {rs : List Reply} → Calls (of1 fresh1 table) vs rs (of1 s t)
    → (new last : List Site) (answer : Result Answer Refusal) (store : Store) → MovedOver (view1 s t) new answer store last → told answer ≡ done
    → Converted (view1 s t) (viewed (goes_on s t answer store last))
calls-converted {s} {table} {t} calls new last answer store m ok =
    written_over marked1 (calls-history calls) (calls-bytes calls)
    (history-fits (calls-history calls) (calls-bytes calls) (calls-named calls (begun edition1 (map widened table)) refl)).litres new (over-goes s t new store last answer m) ok

-- Two stores that hold the same list after such calls, gone over or not: each W, q, w × q, difference and set of depots that both answer is the same.
pub calls-same-figures : {c d : AnyStore} {t u : List Site1} {vs ws : List Event} {rs qs : List Reply} → Calls (of1 fresh1 t) vs rs c → Calls (of1 fresh1 u) ws qs d
    → (model_of (viewed c)).list ≡ (model_of (viewed d)).list → SameFigures (viewed c) (viewed d)
calls-same-figures x y = same-figures (calls-exact x) (calls-exact y)

-- The calls settle the replies, the store and the whole table.
same-stored : (c d : AnyStore) → viewed c ≡ viewed d → c ≡ d
same-stored (of1 s t) (of1 s' t') e =
    ap₂ of1 (lawful1.same_store s s' (ap (λ (z : State). z.store) e)) (lawful1.same-table t t' (ap (λ (z : State). z.table) e))
same-stored (of1 s t) (of2 s' t') e = absurd (let z : 2 ≡ 4 = ap (λ (z : State). z.edition.litres) e in omega arith)
same-stored (of2 s t) (of1 s' t') e = absurd (let z : 4 ≡ 2 = ap (λ (z : State). z.edition.litres) e in omega arith)
same-stored (of2 s t) (of2 s' t') e = ap₂ of2 (ap (λ (z : State). z.store) e) (ap (λ (z : State). z.table) e)

pub calls-one : {c d : AnyStore} {table : List Site1} {vs : List Event} {rs qs : List Reply} → Calls (of1 fresh1 table) vs rs c → Calls (of1 fresh1 table) vs qs d
    → (rs ≡ qs) × (c ≡ d)
calls-one {c} {d} x y = let (replies, views) = one-history (calls-history x) (calls-history y) in (replies, same-stored c d views)
