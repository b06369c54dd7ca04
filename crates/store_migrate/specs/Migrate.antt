-- Document 02, e: the step to edition 2 over lent tables of site structs.
use Rattle.std.specs.Prelude.{◌≡◌, cond, List, ℕ, ◌≤◌, length, take}
use Rattle.std.specs.declared.result.Result.{Result}
use Rattle.density.specs.declared.Site.{Site}
use Rattle.records.specs.declared.refusal.Refusal.{Refusal}
use Rattle.table.specs.declared.Site1.{Site1}
use Rattle.table.specs.Table.{overlay}
use Rattle.held_state.specs.declared.Store.{Store}
use Rattle.held_state.specs.Held.{State}
use Rattle.store.specs.declared.Answer.{Answer}
use Rattle.store.specs.declared.Decision.{Decision}
use Rattle.store.specs.Calls.{migrate, told}
use Rattle.store.specs.State.{step_on}
use Rattle.store.specs.Trace.{ended}
use Rattle.edition1.specs.declared.Store1.{Store1}
use Rattle.edition1.specs.Edition1.{view1}

-- What the step leaves: its answer; the store, which is that of edition 2 where it is done and the old one's figures where it is refused; and the new table, which a refusal
-- leaves as it was. The old table is only read.
pub record MovedOver (s : State) (new : List Site) (answer : Result Answer Refusal) (store : Store) (last : List Site) : Type 0 where
  pub answered : told answer ≡ (step_on s (migrate new)).reply.answer
  pub stored : store ≡ (step_on s (migrate new)).after.store
  pub table : last ≡ cond (ended (told answer)) (step_on s (migrate new)).after.table new

-- The decision is the step from every table of that many places whose first 512 places, or all where it has fewer, the sites begin with, to every table of so many places.
-- There is such a table for any 512 sites and any number of places (`a-table` of crate `serve`).
pub record Decided (store : Store1) (sites : List Site1) (places room : ℕ) (r : Decision) : Type 0 where
  pub steps : (table : List Site1) (new : List Site) → places ≡ length table → take places sites ≡ take 512 table → room ≡ length new
      → MovedOver (view1 store table) new r.answer r.store (overlay r.n r.sites new)
  pub few : r.n ≤ 512
  pub fits : r.n ≤ room
