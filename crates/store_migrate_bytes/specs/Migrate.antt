-- Document 02, e: what the step to edition 2 does to the lent bytes of the new store and table.
use Rattle.std.specs.Prelude.{◌≡◌, List, ℕ, length}
use Rattle.records.specs.Format.{edition1, edition2}
use Rattle.store.specs.Calls.{Event, migrate, Told, unbuffered, done}
use Rattle.store.specs.State.{Done, step_on}
use Rattle.layout.specs.Layout.{sites_in}
use Rattle.lent.specs.Lent.{state_in, lent, laid}

-- the step over a new table in bytes
abbrev pub into : List ℕ → Event
into t₂ = migrate (sites_in edition2.litres t₂)

abbrev pub migrates : List ℕ → List ℕ → List ℕ → Done
migrates s t t₂ = step_on (state_in edition1 s t) (into t₂)

-- What is promised of it at bytes that have the lengths of a store of edition 1 and of one of edition 2, of which the first and their table are only read: the bytes of the new
-- store and table, which a refusal leaves as they were, and the answer; where it is done, they stand for the state after the step.
pub record Migrated (s t s₂ t₂ : List ℕ) (answer : Told) (s₂' t₂' : List ℕ) : Type 0 where
  pub is : lent s₂' t₂' (unbuffered answer) ≡ laid edition2 s₂ t₂ (migrates s t t₂)
  pub long : length s₂' ≡ length s₂
  pub reads : answer ≡ done → state_in edition2 s₂' t₂' ≡ (migrates s t t₂).after
