-- A list that is read becomes the one held, and a plan that passes: what the reader's answer says of the step. Assumes nothing.
use mathlib.Core.Path.{◌≡◌, refl, ap, ap₂, sym, ◌∙◌}
use mathlib.Core.Bool.{false, true}
use mathlib.Core.List.{List, ◌++◌}
use Prim.Native.Nat.{ℕ, ◌-◌, ◌≤◌}
use native.Mathlib.Omega.{arith}
use lib.ListN.{length, drop, replicate, length-append, length-replicate}
use lib.Seq.{take_at}
use Rattle.density.specs.declared.Site.{Site}
use Rattle.density.specs.Network.{Listing, no_site}
use Rattle.records.specs.declared.Edition.{Edition}
use Rattle.records.specs.declared.ListArray.{ListArray}
use Rattle.records.specs.declared.PlanArray.{PlanArray}
use Rattle.records.specs.declared.RollArray.{RollArray}
use Rattle.records.specs.Answer.{filled, list_array, list_read, plan_read}
use Rattle.records.specs.Format.{read_list}
use Rattle.records.specs.Outcome.{Outcome, refused, passed}
use Rattle.records.specs.Values.{Plan, roll_array}
use Rattle.records.proofs.Answers.{list-passed, list-refused, plan-passed, plan-refused}
use Rattle.table.specs.Table.{overlay}
use Rattle.judge.specs.Check.{judged_for}
use Rattle.held_state.specs.declared.Store.{Store}
use Rattle.held_state.specs.Held.{State, list_of, corrupt}
use Rattle.store.specs.declared.Request.TheVariants.{Load, Propose}
use Rattle.store.specs.Calls.{Call, same, done}
use Rattle.store.specs.State.{bare, next, step, RefusedBy}
use Rattle.store.proofs.Settled.{load-refused, load_read}
use Rattle.store_calls.proofs.Steps.{proposal-refused, proposal-passed, held-count}
use Rattle.layout.specs.Layout.{places_in, sites_in}
use Rattle.layout.proofs.Reading.{length-sites}
use Rattle.lent.specs.Lent.{state_in}

filled-length : {A : Type 0} (k : ℕ) (xs : List A) (z : A) → length xs ≤ k → length (filled k xs z) ≡ k
filled-length k xs z h = rw (length-append, length-replicate) (omega arith)

-- ---- a list

-- the first n of these sites become the ones held, and this roll or none
pub record Fills (e : Edition) (s t : List ℕ) (c : Call) (n : ℕ) (sites : List Site) (roll : RollArray) : Type 0 where
  pub steps : step (state_in e s t) c ≡ next (state_in e s t) (bare n roll) (overlay n sites (sites_in e.litres t)) (same c done)
  pub few : n ≤ 512
  pub room : n ≤ places_in e.litres t

module _ (e : Edition) (s t : List ℕ) (c : Call) (q : c.request ≡ Load) where
  abbrev state : State
  state = state_in e s t

  abbrev found : Outcome Listing
  found = read_list e (places_in e.litres t) c.input

  places-are : read_list e (length (sites_in e.litres t)) c.input ≡ found
  places-are = ap (λ (m : ℕ). read_list e m c.input) (length-sites e.litres t)

  filled-over : (l : Listing) (table : List Site)
      → l.sites ++ drop (length l.sites) table ≡ overlay (length l.sites) (filled 512 l.sites no_site) table
  unfolding overlay
  filled-over l table =
      ap (λ (x : List Site). x ++ drop (length l.sites) table)
      (sym (take_at l.sites (replicate (512 - length l.sites) no_site) (length l.sites) refl))

  pub load-fills : {y : ListArray} → passed y ≡ list_read found → Fills e s t c y.count y.sites y.roll
  load-fills {y} read =
      let (l, p, k) = list-passed found read in
      let g = load_read state c l q (places-are ∙ p) in
      let list : list_array l ≡ y = sym k in
      let count = ap (λ (x : ListArray). x.count) list in
      let table = sites_in e.litres t in
      record {
        steps =
            g.0 ∙ ap (λ (x : List Site). next state (bare (length l.sites) (roll_array l.roll)) x (same c done)) (filled-over l table)
            ∙ ap (λ (x : ListArray). next state (bare x.count x.roll) (overlay x.count x.sites table) (same c done)) list;
        few = omega (arith, count, g.1);
        room = omega (arith, count, g.2, length-sites e.litres t);
      }

  pub load-keeps : {n : ℕ} → refused n ≡ list_read found → RefusedBy state c n
  load-keeps {n} read = load-refused state c n q (places-are ∙ list-refused found read)

-- ---- a plan

-- a store of n sites and of a roll or none that holds a plan
abbrev pub written : ℕ → PlanArray → RollArray → Store
written n p roll = record { count = n; held = true; grouped = p.count; groups = p.groups; shares = p.shares; roll = roll }

-- the plan becomes the one held
pub record Holds (e : Edition) (s t : List ℕ) (c : Call) (n : ℕ) (plan : PlanArray) : Type 0 where
  pub steps : step (state_in e s t) c ≡ next (state_in e s t) (written n plan (state_in e s t).store.roll) (sites_in e.litres t) (same c done)
  pub many : length plan.groups ≡ 64
  pub each : length plan.shares ≡ 512

module _ (e : Edition) (s t : List ℕ) (c : Call) (q : c.request ≡ Propose) (z : corrupt (state_in e s t) ≡ false) {l : Listing} {o : Outcome PlanArray}
    (is : l ≡ list_of (state_in e s t)) (read : o ≡ plan_read (judged_for e l c.input)) where
  abbrev judged : Outcome Plan
  judged = judged_for e (list_of (state_in e s t)) c.input

  read_is : o ≡ plan_read judged
  read_is = read ∙ ap (λ (x : Listing). plan_read (judged_for e x c.input)) is

  pub proposal-holds : {n : ℕ} {r : PlanArray} → n ≡ (state_in e s t).store.count → passed r ≡ o → Holds e s t c n r
  proposal-holds {n} {r} m a =
      let (p, h, d) = plan-passed judged (a ∙ read_is) in
      let g = proposal-passed (state_in e s t) c z p q h in
      let few = (held-count (state_in e s t) z).0 in
      record {
        steps = g.0 ∙ ap₂ (λ (j : ℕ) (x : PlanArray). next (state_in e s t) (written j x (state_in e s t).store.roll) (sites_in e.litres t) (same c done)) (sym m) (sym d);
        many = ap (λ (x : PlanArray). length x.groups) d ∙ filled-length 64 p.groups 0 g.1;
        each = ap (λ (x : PlanArray). length x.shares) d ∙ filled-length 512 p.shares 0 (omega (arith, g.2, few));
      }

  pub proposal-keeps : {n : ℕ} → refused n ≡ o → RefusedBy (state_in e s t) c n
  proposal-keeps {n} a = proposal-refused (state_in e s t) c z n q (plan-refused judged (a ∙ read_is))
