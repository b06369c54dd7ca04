-- What covered functions are given in place of the lent table, its first 512 places by value and how many places it has, and what their decision
-- does to it.
use Rattle.std.specs.Prelude.{◌≡◌, List, ℕ, ◌≤◌, length, take}
use Rattle.density.specs.declared.Site.{Site}
use Rattle.records.specs.declared.Edition.{Edition}
use Rattle.table.specs.Table.{overlay}
use Rattle.held_state.specs.declared.Store.{Store}
use Rattle.held_state.specs.Held.{State, on}
use Rattle.store.specs.declared.Request.{Request}
use Rattle.store.specs.declared.Decision.{Decision}
use Rattle.store.specs.Calls.{told}
use Rattle.store.specs.State.{Done, step}

-- the first n sites of a decision go to the table
abbrev pub decided : State → Decision → List ℕ → Done
decided s r buffer =
    record {
      after = on s.edition r.store (overlay r.n r.sites s.table);
      reply = record { answer = told r.answer; buffer = buffer };
    }

-- The decision is the step on every table of that many places whose first 512 places, or all where it has fewer, the sites begin with.
-- There is such a table for any 512 sites and any number of places (`a-table`).
pub record Served (e : Edition) (store : Store) (sites : List Site) (places : ℕ) (request : Request) (input buffer : List ℕ) (r : Decision) (last : List ℕ) : Type 0 where
  pub steps : (table : List Site) → places ≡ length table → take places sites ≡ take 512 table
      → decided (on e store table) r last ≡ step (on e store table) (record { request = request; input = input; buffer = buffer })
  pub few : r.n ≤ 512
  pub room : r.n ≤ places
