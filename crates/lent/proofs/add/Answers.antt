-- `lent::add` meets its contract. Assumes nothing.
use mathlib.Core.Path.{◌≡◌, refl, sym, ap, ◌∙◌}
use mathlib.Core.Bool.{false}
use mathlib.Core.List.{List, []}
use Prim.Native.Nat.{ℕ, ◌+◌, ◌<◌, ◌^◌}
use native.Mathlib.Omega.{arith}
use lib.ListN.{length, set}
use Rattle.std.proofs.lemmas.Result.{err_from_is_err_and}
use Rattle.records.specs.Values.{roll_in}
use Rattle.held_state.specs.Held.{State, list_of, corrupt}
use Rattle.records.specs.Bytes.{Bytes}
use Rattle.store.specs.declared.Request.TheVariants as request
use Rattle.store.specs.Calls.{Call, same, done}
use Rattle.store.specs.State.{model_of, bare, next, step}
use Rattle.store.proofs.Settled.{zero-step}
use Rattle.store_calls.proofs.Steps.{held-count, add-refused, add-passed}
use Rattle.layout.specs.Layout.{place_size, places_in}
use Rattle.layout.proofs.Reading.{length-sites}
use Rattle.layout.proofs.Places.{place-room}
use Rattle.lent.specs.Lent.{state_in}
use Rattle.lent.proofs.Served.{at_small, keeps, keeps-bare, puts-site}
use Rattle.lent.proofs.add.Goals as goal
use Rattle.lent.proofs.add.Goals.{After-row_zero, In_ok-held, In_ok-add_row}

abbrev state : After-row_zero → State
state c = let a = c.args in state_in a.e a.store.now a.table.now

sound : (c : In_ok-held) → corrupt (state (goal.at.In_ok-held c).After-row_zero) ≡ false
sound c = sym c.in_ok-held.ensures.zero

abbrev asked : After-row_zero → List ℕ → List ℕ → Call
asked c input buffer =
    let x = c.args.x in
    record { request = request.Add x.first x.second x.litres; input = input; buffer = buffer }

pub returns-in_err-held : goal.returns-in_err-held
returns-in_err-held c = λ input buffer b.
    let k = (goal.at.returns-in_err-held c).After-row_zero in
    let a = c.args in
    let q = asked k input buffer in
    let p = err_from_is_err_and c.from_residual.result c.from_residual.ensures.1 in
    rw (p.1, p.2, c.in_err-held.ensures.row)
    (keeps a.e a.store.now a.table.now q b refl (zero-step (state k) q refl (sym c.in_err-held.ensures.zero)))

-- the number of sites and of places are those that the row goes by
counted : (c : In_ok-held) → length (list_of (state (goal.at.In_ok-held c).After-row_zero)).sites ≡ c.in_ok-held.held.count
counted c = (held-count (state (goal.at.In_ok-held c).After-row_zero) (sound c)).2 ∙ sym c.in_ok-held.ensures.kept.0

placed : (c : In_ok-held) → length (state (goal.at.In_ok-held c).After-row_zero).table ≡ c.in_ok-held.held.places
placed c =
    let a = c.args in
    length-sites a.e.litres a.table.now ∙ sym c.in_ok-held.ensures.kept.2

-- and so is the roll or the lack of one
rolled : (c : In_ok-held) → roll_in (state (goal.at.In_ok-held c).After-row_zero).store.roll ≡ roll_in c.in_ok-held.held.roll
rolled c = ap roll_in (sym c.in_ok-held.ensures.kept.1)

pub returns-in_err-add_row : goal.returns-in_err-add_row
returns-in_err-add_row c = λ input buffer b.
    let d = (goal.at.returns-in_err-add_row c).In_ok-held in
    let k = (goal.at.In_ok-held d).After-row_zero in
    let a = c.args in
    let q = asked k input buffer in
    let p = err_from_is_err_and c.from_residual-in_err-add_row.result c.from_residual-in_err-add_row.ensures.1 in
    rw (p.1, p.2)
    (keeps a.e a.store.now a.table.now q b refl
    (add-refused (state k) q (sound d) a.x.first a.x.second a.x.litres _ refl
    (sym (c.in_err-add_row.ensures (model_of (state k)) q (counted d) (placed d) (rolled d)))))

-- the step, and that there is a place behind the last site
passed : (c : In_ok-add_row) (input buffer : List ℕ)
    → let k = (goal.at.In_ok-add_row c).After-row_zero in
    let q = asked k input buffer in
    (step (state k) q ≡ next (state k) (bare ((state k).store.count + 1) (state k).store.roll) (set (state k).table (state k).store.count k.args.x) (same q done))
    × ((state k).store.count < 512)
    × ((state k).store.count < length (state k).table)
passed c input buffer =
    let d = (goal.at.In_ok-add_row c).In_ok-held in
    let k = (goal.at.In_ok-held d).After-row_zero in
    let x = c.args.x in
    let q = asked k input buffer in
    add-passed (state k) q (sound d) x.first x.second x.litres refl
    (sym (c.in_ok-add_row.ensures (model_of (state k)) q (counted d) (placed d) (rolled d)))

behind : (c : In_ok-add_row)
    → let a = c.args in
    c.in_ok-held.held.count < places_in a.e.litres a.table.now
behind c =
    let a = c.args in
    omega (arith, (passed c [] []).2, c.in_ok-held.ensures.kept.0, length-sites a.e.litres a.table.now)

pub overflow_mul-e : goal.overflow_mul-e
overflow_mul-e c = record { fits = at_small c.requires.0.0 (omega (arith, (passed (goal.at.overflow_mul-e c).In_ok-add_row [] []).1, c.in_ok-held.ensures.kept.0)) }

pub put_site-requires : goal.put_site-requires
put_site-requires c = place-room (place_size c.args.e.litres) c.in_ok-held.held.count c.args.table.now (behind (goal.at.put_site-requires c).In_ok-add_row)

pub overflow_add-held : goal.overflow_add-held
overflow_add-held c = omega (arith, (passed (goal.at.overflow_add-held c).In_ok-add_row [] []).1, c.in_ok-held.ensures.kept.0)

pub returns : goal.returns
returns c = λ input buffer b.
    let t = (goal.at.returns c).In_ok-add_row in
    let k = (goal.at.In_ok-add_row t).After-row_zero in
    let a = c.args in
    let x = k.well_formed.1.1.1.0.1.1 in
    let q = asked k input buffer in
    let g = passed t input buffer in
    let roll = (state k).store.roll in
    let known : Bytes a.store.now = λ i. (k.slice_known-1.given i).fits in
    let small : c.in_ok-held.held.count + 1 < 256 ^ 8 = omega (arith, g.1, c.in_ok-held.ensures.kept.0) in
    let put = keeps-bare a.e a.store.now c.requires.1 known (omega (arith, g.1)) small roll refl (c.put_bare.ensures roll) in
    puts-site a.e a.store.now a.table.now q b known (λ i. (k.slice_known-2-1.given i).fits) c.requires.2
    (behind t) x.0.1 x.1.0.1 c.requires.2
    (g.0
    ∙ ap (λ (n : ℕ). next (state k) (bare (n + 1) roll) (set (state k).table n a.x) (same q done)) (sym c.in_ok-held.ensures.kept.0))
    put c.put_bare.auto.out c.put_site.ensures
