-- `store_calls::answer` meets its contract. Assumes nothing.
use mathlib.Core.Path.{◌≡◌, refl, sym, ◌∙◌}
use mathlib.Core.Bool.{true, false}
use Prim.Native.Nat.{ℕ}
use native.Mathlib.Omega.{arith}
use lib.ListN.{length, take}
use lib.Seq.{length-take-le}
use Rattle.std.proofs.lemmas.Result.{err_from_is_err_and}
use Rattle.tables.specs.Tables.{lent_plan, Kept}
use Rattle.held_state.specs.Held.{State, corrupt}
use Rattle.held_state.specs.Values.{Stands}
use Rattle.store.specs.declared.Request.{Request}
use Rattle.store.specs.declared.Request.TheVariants.{Load, Change, Add, Propose, Share, Depot, Difference, Written, AtLeast, ListWritten}
use Rattle.store.specs.Trace.{Question, ReadsOnly}
use Rattle.store_calls.proofs.Questions.{zero-told, wants-told, share-told, depot-told, difference-told, written-told, at-least-told, list-told}
use Rattle.store_calls.proofs.answer.Goals as goal
use Rattle.store_calls.proofs.answer.Goals.{In-Some, In_ok-held}

-- row 0 has been tried, and does not refuse
abbrev Standing : In_ok-held → State → Type 0
Standing told x = Stands x told.args.list told.args.known told.args.groups.now told.args.shares.now

intact : (told : In_ok-held) (x : State) → Standing told x → corrupt x ≡ false
intact told x st = sym (told.in_ok-held.ensures.zero x st)

-- a plan is held, and its tables
tabled : (p : In-Some) → (p.args.known.held ≡ true) × Kept p.args.list (lent_plan p.args.known.grouped p.args.groups.now p.args.shares.now) p.in-Some.form p.examine.new.wholes
tabled p = rw p.in-Some.is at (goal.at.In-Some p).In_ok-held.in_ok-held.ensures.kept

held : (p : In-Some) → p.args.known.held ≡ true
held p = (tabled p).0

kept : (p : In-Some) → Kept p.args.list (lent_plan p.args.known.grouped p.args.groups.now p.args.shares.now) p.in-Some.form p.examine.new.wholes
kept p = (tabled p).1

-- the groups and the shares of the plan that is written out
groups-length : (p : In-Some) → length (take p.args.known.grouped p.args.groups.now) ≡ p.args.known.grouped
groups-length p = length-take-le _ _ (omega (arith, p.requires.1, (kept p).ready.counted.groups))

shares-length : (p : In-Some) → length (take p.args.list.count p.args.shares.now) ≡ p.args.list.count
shares-length p = length-take-le _ _ (omega (arith, p.requires.2, (kept p).ready.counted.sites))

-- a call that only reads is a question, or the list is to be written out
asks-otherwise : (q : Request) → ReadsOnly q → (q ≡ ListWritten → ⊥) → Question q
asks-otherwise Load r h = r
asks-otherwise (Change i w) r h = r
asks-otherwise (Add f d w) r h = r
asks-otherwise Propose r h = r
asks-otherwise (Share i) r h = tt
asks-otherwise (Depot d) r h = tt
asks-otherwise (Difference a d) r h = tt
asks-otherwise Written r h = tt
asks-otherwise (AtLeast m) r h = tt
asks-otherwise ListWritten r h = absurd (h refl)

-- a question is one of five
no_other : (q : Request) → Question q → ((i : ℕ) → q ≡ Share i → ⊥) → ((d : ℕ) → q ≡ Depot d → ⊥) → ((a d : ℕ) → q ≡ Difference a d → ⊥) → (q ≡ Written → ⊥) → ((m : ℕ) → q ≡ AtLeast m → ⊥) → ⊥
no_other Load q h1 h2 h3 h4 h5 = q
no_other (Change i w) q h1 h2 h3 h4 h5 = q
no_other (Add f d w) q h1 h2 h3 h4 h5 = q
no_other Propose q h1 h2 h3 h4 h5 = q
no_other (Share i) q h1 h2 h3 h4 h5 = h1 i refl
no_other (Depot d) q h1 h2 h3 h4 h5 = h2 d refl
no_other (Difference a d) q h1 h2 h3 h4 h5 = h3 a d refl
no_other Written q h1 h2 h3 h4 h5 = h4 refl
no_other (AtLeast m) q h1 h2 h3 h4 h5 = h5 m refl
no_other ListWritten q h1 h2 h3 h4 h5 = q

pub returns-in_err-held : goal.returns-in_err-held
returns-in_err-held c = λ x input e st.
    let p = err_from_is_err_and c.from_residual.result c.from_residual.ensures.1 in
    rw (p.1, p.2, c.in_err-held.ensures.row)
    (zero-told x (record { request = c.args.request; input = input; buffer = c.args.buffer.now }) c.requires.4 (sym (c.in_err-held.ensures.zero x st)))

pub list-requires : goal.list-requires
list-requires c = (omega (arith, c.requires.0.0), (goal.at.list-requires c).In_ok-held.in_ok-held.ensures.few)

pub returns-in-ListWritten : goal.returns-in-ListWritten
returns-in-ListWritten c = λ x input e st.
    list-told st (intact (goal.at.returns-in-ListWritten c).In_ok-held x st) (record { request = c.args.request; input = input; buffer = c.args.buffer.now }) c.in-ListWritten.is _
    (rw (← e) at c.list.ensures) c.wrote_told.ensures

pub returns-in_default-held : goal.returns-in_default-held
returns-in_default-held c = λ x input e st.
    wants-told x (record { request = c.args.request; input = input; buffer = c.args.buffer.now }) (asks-otherwise c.args.request c.requires.4 c.in_default.not-ListWritten)
    (intact (goal.at.returns-in_default-held c).In_ok-held x st) (sym st.held ∙ (rw c.in_default-held.is at (goal.at.returns-in_default-held c).In_ok-held.in_ok-held.ensures.kept))

pub share_told-requires : goal.share_told-requires
share_told-requires c =
    let k = kept (goal.at.share_told-requires c).In-Some in
    (omega (arith, c.requires.2, k.ready.counted.sites), omega (arith, k.wholes.0, k.ready.counted.sites))

pub depot_told-requires : goal.depot_told-requires
depot_told-requires c = (_, _, _, kept (goal.at.depot_told-requires c).In-Some)

pub difference_told-requires : goal.difference_told-requires
difference_told-requires c = (_, _, _, kept (goal.at.difference_told-requires c).In-Some)

pub slice_bounds-plan_of-end : goal.slice_bounds-plan_of-end
slice_bounds-plan_of-end c = sym (groups-length (goal.at.slice_bounds-plan_of-end c).In-Some)

pub slice_bounds-plan_of-end-in-Written : goal.slice_bounds-plan_of-end-in-Written
slice_bounds-plan_of-end-in-Written c = sym (shares-length (goal.at.slice_bounds-plan_of-end-in-Written c).In-Some)

pub plan_of-requires : goal.plan_of-requires
plan_of-requires c =
    let p = (goal.at.plan_of-requires c).In-Some in
    let k = kept p in
    (p.requires.0.1, omega (arith, groups-length p, k.ready.counted.groups), omega (arith, shares-length p, k.ready.counted.sites))

pub slice_bounds-at_least-end : goal.slice_bounds-at_least-end
slice_bounds-at_least-end c = sym (groups-length (goal.at.slice_bounds-at_least-end c).In-Some)

pub at_least-requires : goal.at_least-requires
at_least-requires c = (_, _, _, kept (goal.at.at_least-requires c).In-Some, refl)

pub returns-in-Share : goal.returns-in-Share
returns-in-Share c = λ x input e st.
    let p = (goal.at.returns-in-Share c).In-Some in
    share-told st (intact (goal.at.returns-in-Share c).In_ok-held x st) (held p) (kept p) input _ _ _ _ c.in-Share.is c.share_told.ensures

pub returns-in-Depot : goal.returns-in-Depot
returns-in-Depot c = λ x input e st.
    let p = (goal.at.returns-in-Depot c).In-Some in
    depot-told st (intact (goal.at.returns-in-Depot c).In_ok-held x st) (held p) (kept p) input _ _ _ _ c.in-Depot.is (c.depot_told.ensures _ _ _ (kept p))

pub returns-in-Difference : goal.returns-in-Difference
returns-in-Difference c = λ x input e st.
    let p = (goal.at.returns-in-Difference c).In-Some in
    difference-told st (intact (goal.at.returns-in-Difference c).In_ok-held x st) (held p) (kept p) input _ _ _ _ _ c.in-Difference.is (c.difference_told.ensures _ _ _ (kept p))

pub returns-in-Written : goal.returns-in-Written
returns-in-Written c = λ x input e st.
    let p = (goal.at.returns-in-Written c).In-Some in
    written-told st (intact (goal.at.returns-in-Written c).In_ok-held x st) (held p) (kept p) input _ _ _ _ _ _ e c.in-Written.is c.plan_of.ensures c.wrote_told-in-Written.ensures

pub returns-in-AtLeast : goal.returns-in-AtLeast
returns-in-AtLeast c = λ x input e st.
    let p = (goal.at.returns-in-AtLeast c).In-Some in
    at-least-told st (intact (goal.at.returns-in-AtLeast c).In_ok-held x st) (held p) (kept p) input _ _ _ _ _ c.in-AtLeast.is refl (c.at_least.ensures _ _ _ (kept p) refl)

pub returns-in_default-request : goal.returns-in_default-request
returns-in_default-request c =
    let other = c.in_default-request in
    absurd (no_other c.args.request (asks-otherwise c.args.request c.requires.4 c.in_default.not-ListWritten) other.not-Share other.not-Depot other.not-Difference other.not-Written other.not-AtLeast)
