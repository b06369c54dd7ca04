-- Calls of the typed entries of both editions, and the step from edition 1 to edition 2, one after another.
use Rattle.std.specs.Prelude.{cond, List, [], ◌∷◌}
use Rattle.std.specs.declared.result.Result.{Result}
use Rattle.density.specs.declared.Site.{Site}
use Rattle.records.specs.declared.refusal.Refusal.{Refusal}
use Rattle.table.specs.declared.Site1.{Site1}
use Rattle.held_state.specs.declared.Store.{Store}
use Rattle.held_state.specs.Held.{State}
use Rattle.store.specs.declared.Answer.{Answer}
use Rattle.store.specs.Calls.{Event, migrate, Reply, told, unbuffered}
use Rattle.store.specs.Trace.{ended}
use Rattle.edition1.specs.declared.Store1.{Store1}
use Rattle.edition1.specs.Edition1.{view1}
use Rattle.entries1.specs.Entries1.{Passed1, event1, Result1, replied1, Called1}
use Rattle.store_entries2.specs.Edition2.{view2}
use Rattle.store_entries2.specs.Entries2.{Passed2, event2, Result2, replied2, Called2}
use Rattle.store_migrate.specs.Migrate.{MovedOver}

-- a store with its table, of either edition
pub data AnyStore : Type 0 where
  of1 : Store1 → List Site1 → AnyStore
  of2 : Store → List Site → AnyStore

abbrev pub viewed : AnyStore → State
viewed (of1 s table) = view1 s table
viewed (of2 s table) = view2 s table

-- what the next call gets after the step: where it is done the store given back and the new table, where it is refused the old ones
abbrev pub goes_on : Store1 → List Site1 → Result Answer Refusal → Store → List Site → AnyStore
goes_on s table answer store new = cond (ended (told answer)) (of2 store new) (of1 s table)

-- "Each call gets the desk and the table as the one before left them, and nobody else writes either meanwhile." The step takes a store of edition 1 and a new table of any length
-- and content.
pub data Calls : AnyStore → List Event → List Reply → AnyStore → Type 0 where
  none : {d : AnyStore} → Calls d [] [] d
  next1 : {s : Store1} {t : List Site1} {vs : List Event} {rs : List Reply} {d : AnyStore} (p : Passed1) (r : Result1) → Called1 s t p r
      → Calls (of1 r.store r.table) vs rs d → Calls (of1 s t) (event1 p ∷ vs) (replied1 r ∷ rs) d
  next2 : {s : Store} {t : List Site} {vs : List Event} {rs : List Reply} {d : AnyStore} (p : Passed2) (r : Result2) → Called2 s t p r
      → Calls (of2 r.store r.table) vs rs d → Calls (of2 s t) (event2 p ∷ vs) (replied2 r ∷ rs) d
  over : {s : Store1} {t : List Site1} {new last : List Site} {store : Store} {vs : List Event} {rs : List Reply} {d : AnyStore} (answer : Result Answer Refusal)
      → MovedOver (view1 s t) new answer store last → Calls (goes_on s t answer store last) vs rs d → Calls (of1 s t) (migrate new ∷ vs) (unbuffered (told answer) ∷ rs) d
