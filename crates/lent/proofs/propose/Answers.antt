-- `lent::propose` meets its contract. Assumes nothing.
use mathlib.Core.Path.{◌≡◌, refl, sym, subst, ◌∙◌}
use mathlib.Core.Bool.{false}
use mathlib.Core.List.{List}
use Prim.Native.Nat.{ℕ}
use lib.Dec.{T}
use Rattle.std.proofs.lemmas.Result.{err_from_is_err_and}
use Rattle.density.specs.Network.{Listing, in_range}
use Rattle.held_state.specs.Held.{State, corrupt}
use Rattle.held_state.specs.Values.{Stands}
use Rattle.held_state.proofs.Intact.{good-range, intact→}
use Rattle.held_state.proofs.Standing.{stands-few, stands-list}
use Rattle.records.specs.Bytes.{Bytes}
use Rattle.store.specs.declared.Request.TheVariants as request
use Rattle.store.specs.Calls.{Call}
use Rattle.store.proofs.Settled.{zero-step}
use Rattle.store_calls.proofs.Steps.{held-count}
use Rattle.lent.specs.Lent.{state_in}
use Rattle.lent.proofs.Served.{stands, keeps, keeps-roll, puts-plan}
use Rattle.lent.proofs.Loaded.{written, Holds, proposal-holds, proposal-keeps}
use Rattle.lent.proofs.propose.Goals as goal
use Rattle.lent.proofs.propose.Goals.{After-summary-known, Else-is_corrupt, In_ok-plan}

abbrev state : After-summary-known → State
state c = let a = c.args in state_in a.e a.store.now a.table.now

-- what is read stands for the state
standing : (c : After-summary-known)
    → let p = c.store_in-h in
    Stands (state c) c.list_in-list.result c.summary-known.result p.new.groups p.new.shares
standing c =
    let a = c.args in
    let k = c.summary-known.ensures in
    stands a.e a.store.now a.table.now c.store_in-h.ensures c.list_in-list.ensures k.0 k.1 k.2

sound : (c : Else-is_corrupt) → corrupt (state (goal.at.Else-is_corrupt c).After-summary-known) ≡ false
sound c =
    let k = (goal.at.Else-is_corrupt c).After-summary-known in
    sym (c.is_corrupt.ensures (state k) (standing k)) ∙ c.if-is_corrupt.false

abbrev asked : After-summary-known → List ℕ → Call
asked c buffer = record { request = request.Propose; input = c.args.input.now; buffer = buffer }

pub returns-then-is_corrupt : goal.returns-then-is_corrupt
returns-then-is_corrupt c = λ buffer.
    let k = (goal.at.returns-then-is_corrupt c).After-summary-known in
    let a = c.args in
    keeps a.e a.store.now a.table.now (asked k buffer) (λ i. (c.type_inv.input i).fits) refl
    (zero-step (state k) (asked k buffer) refl (sym (c.is_corrupt.ensures (state k) (standing k)) ∙ c.if-is_corrupt.true))

pub plan_for-requires : goal.plan_for-requires
plan_for-requires c =
    let e = (goal.at.plan_for-requires c).Else-is_corrupt in
    let k = (goal.at.Else-is_corrupt e).After-summary-known in (
      c.requires.0.1,
      stands-few (standing k) (sound e),
      subst (λ (l : Listing). T (in_range l)) (sym (stands-list (standing k) (sound e))) (good-range _ (intact→ (state k) (sound e)).good),
    )

pub returns-in_err-plan : goal.returns-in_err-plan
returns-in_err-plan c = λ buffer.
    let e = (goal.at.returns-in_err-plan c).Else-is_corrupt in
    let k = (goal.at.Else-is_corrupt e).After-summary-known in
    let a = c.args in
    let p = err_from_is_err_and c.from_residual.result c.from_residual.ensures.1 in
    rw (p.1, p.2)
    (keeps a.e a.store.now a.table.now (asked k buffer) (λ i. (c.type_inv.input i).fits) refl
    (proposal-keeps a.e a.store.now a.table.now (asked k buffer) refl (sound e) (stands-list (standing k) (sound e)) c.in_err-plan.ensures refl))

-- the plan that is read becomes the one held
holds : (c : In_ok-plan) (buffer : List ℕ)
    → let a = c.args in
    Holds a.e a.store.now a.table.now (asked (goal.at.In_ok-plan c).After-summary-known buffer) c.store_in-h.result.count c.in_ok-plan.plan
holds c buffer =
    let e = (goal.at.In_ok-plan c).Else-is_corrupt in
    let k = (goal.at.Else-is_corrupt e).After-summary-known in
    let a = c.args in
    proposal-holds a.e a.store.now a.table.now (asked k buffer) refl (sound e) (stands-list (standing k) (sound e)) c.in_ok-plan.ensures
    c.store_in-h.ensures.count refl

pub returns : goal.returns
returns c = λ buffer.
    let t = (goal.at.returns c).In_ok-plan in
    let e = (goal.at.In_ok-plan t).Else-is_corrupt in
    let k = (goal.at.Else-is_corrupt e).After-summary-known in
    let a = c.args in
    let h = holds t buffer in
    let roll = (state k).store.roll in
    let known : Bytes a.store.now = λ i. (k.slice_known-1.given i).fits in
    let few = (held-count (state k) (sound e)).0 in
    let store = written c.store_in-h.result.count c.in_ok-plan.plan roll in
    let put = keeps-roll a.e a.store.now store c.requires.1 known few h.many h.each (c.put_plan.ensures.1 roll) refl (c.put_plan.ensures.0 roll) in
    puts-plan a.e a.store.now a.table.now (asked k buffer) (λ i. (c.type_inv.input i).fits)
    known (λ i. (c.type_inv.table i).fits) tt h.steps put c.put_plan.auto.out
