-- The list and the plan of a state, by the values that are read from it. Assumes nothing.
use mathlib.Core.Path.{◌≡◌}
use mathlib.Core.Bool.{true, false}
use mathlib.Core.List.{List}
use Prim.Native.Nat.{ℕ, ◌≤◌}
use native.Mathlib.Omega.{arith}
use Rattle.sets.proofs.Test.{passes}
use Rattle.records.specs.declared.ListArray.{ListArray}
use Rattle.records.specs.Values.{listing, plan_in}
use Rattle.tables.specs.Tables.{lent_plan}
use Rattle.held_state.specs.declared.Summary.{Summary}
use Rattle.held_state.specs.Held.{State, list_of, plan_held, corrupt}
use Rattle.held_state.specs.Values.{Stands}
use Rattle.held_state.proofs.Intact.{intact→}
use Rattle.held_state.proofs.Zero.{list-is, plan-is}

module _ {s : State} {list : ListArray} {k : Summary} {gs ss : List ℕ} (t : Stands s list k gs ss) (e : corrupt s ≡ false) where
  pub stands-few : list.count ≤ 512
  stands-few = omega (arith, (intact→ s e).few, t.count)

  pub stands-room : list.count ≤ k.places
  stands-room = omega (arith, (intact→ s e).room, t.count, t.places)

  -- the list and the plan of a state that is not corrupt
  pub stands-list : listing list ≡ list_of s
  stands-list = list-is s list k gs ss t stands-few stands-room

  pub stands-grouped : s.store.held ≡ true → k.grouped ≤ 64
  stands-grouped h = omega (arith, (intact→ s e).groups (passes s.store.held h), t.grouped)

  pub stands-plan : s.store.held ≡ true → plan_in (lent_plan k.grouped gs ss) list.count ≡ plan_held s
  stands-plan h = plan-is s list k gs ss t stands-few (stands-grouped h)
