-- `lent::change` meets its contract. Assumes nothing.
use mathlib.Core.Path.{◌≡◌, refl, sym, ap, ap₂, subst, ◌∙◌}
use mathlib.Core.Bool.{false}
use mathlib.Core.List.{List, []}
use Prim.Native.Nat.{ℕ, ◌+◌, ◌*◌, ◌<◌, ◌≤◌}
use native.Mathlib.Omega.{arith}
use lib.ListN.{length, set}
use Rattle.std.proofs.lemmas.Result.{err_from_is_err_and}
use Rattle.density.specs.declared.Site.{Site}
use Rattle.density.specs.Network.{site_at}
use Rattle.held_state.specs.Held.{State, list_of, corrupt}
use Rattle.records.specs.Bytes.{Bytes}
use Rattle.store.specs.declared.Request.TheVariants as request
use Rattle.store.specs.Calls.{Call, same, done}
use Rattle.store.specs.Model.{with_litres}
use Rattle.store.specs.State.{model_of, bare, next, step}
use Rattle.store.proofs.Settled.{zero-step}
use Rattle.store_calls.proofs.Steps.{held-count, change-refused, change-passed}
use Rattle.layout.specs.Layout.{place_size, places_in}
use Rattle.layout.proofs.Reading.{length-sites}
use Rattle.layout.proofs.Places.{place-room}
use Rattle.lent.specs.Lent.{state_in}
use Rattle.lent.proofs.Served.{at_small, keeps, keeps-bare, puts-site, changed-is, changed-small}
use Rattle.lent.proofs.change.Goals as goal
use Rattle.lent.proofs.change.Goals.{After-row_zero, In_ok-held, In_ok-change_row}

abbrev state : After-row_zero → State
state c = let a = c.args in state_in a.e a.store.now a.table.now

sound : (c : In_ok-held) → corrupt (state (goal.at.In_ok-held c).After-row_zero) ≡ false
sound c = sym c.in_ok-held.ensures.zero

abbrev asked : After-row_zero → List ℕ → List ℕ → Call
asked c input buffer = record { request = request.Change c.args.i c.args.w; input = input; buffer = buffer }

pub returns-in_err-held : goal.returns-in_err-held
returns-in_err-held c = λ input buffer b.
    let k = (goal.at.returns-in_err-held c).After-row_zero in
    let a = c.args in
    let q = asked k input buffer in
    let p = err_from_is_err_and c.from_residual.result c.from_residual.ensures.1 in
    rw (p.1, p.2, c.in_err-held.ensures.row)
    (keeps a.e a.store.now a.table.now q b refl (zero-step (state k) q refl (sym c.in_err-held.ensures.zero)))

-- the number of sites is the one that the row goes by
counted : (c : In_ok-held) → length (list_of (state (goal.at.In_ok-held c).After-row_zero)).sites ≡ c.in_ok-held.held.count
counted c = (held-count (state (goal.at.In_ok-held c).After-row_zero) (sound c)).2 ∙ sym c.in_ok-held.ensures.kept.0

pub returns-in_err-change_row : goal.returns-in_err-change_row
returns-in_err-change_row c = λ input buffer b.
    let d = (goal.at.returns-in_err-change_row c).In_ok-held in
    let k = (goal.at.In_ok-held d).After-row_zero in
    let a = c.args in
    let q = asked k input buffer in
    let p = err_from_is_err_and c.from_residual-in_err-change_row.result c.from_residual-in_err-change_row.ensures.1 in
    rw (p.1, p.2)
    (keeps a.e a.store.now a.table.now q b refl
    (change-refused (state k) q (sound d) a.i a.w _ refl (sym (c.in_err-change_row.ensures (model_of (state k)) q (counted d)))))

-- the step, and that the site has a place
passed : (c : In_ok-change_row) (input buffer : List ℕ)
    → let k = (goal.at.In_ok-change_row c).After-row_zero in
    let a = k.args in
    let q = asked k input buffer in
    (step (state k) q ≡ next (state k) (bare (state k).store.count (state k).store.roll) (set (state k).table a.i (with_litres (site_at (list_of (state k)) a.i) a.w)) (same q done))
    × (a.i < (state k).store.count)
passed c input buffer =
    let d = (goal.at.In_ok-change_row c).In_ok-held in
    let k = (goal.at.In_ok-held d).After-row_zero in
    let a = c.args in
    let q = asked k input buffer in
    change-passed (state k) q (sound d) a.i a.w refl (sym (c.in_ok-change_row.ensures (model_of (state k)) q (counted d)))

placed : (c : In_ok-change_row)
    → let a = c.args in
    a.i < places_in a.e.litres a.table.now
placed c =
    let d = (goal.at.In_ok-change_row c).In_ok-held in
    let a = c.args in
    omega (arith, (passed c [] []).1, (held-count (state (goal.at.In_ok-held d).After-row_zero) (sound d)).1, length-sites a.e.litres a.table.now)

room : (c : In_ok-change_row)
    → let a = c.args in
    place_size a.e.litres * a.i + place_size a.e.litres ≤ length a.table.now
room c =
    let a = c.args in
    place-room (place_size a.e.litres) a.i a.table.now (placed c)

pub overflow_mul-at : goal.overflow_mul-at
overflow_mul-at c =
    let t = (goal.at.overflow_mul-at c).In_ok-change_row in
    let k = (goal.at.In_ok-change_row t).After-row_zero in
    record { fits = at_small c.requires.0.0 (omega (arith, (passed t [] []).1, (held-count (state k) (sound (goal.at.In_ok-change_row t).In_ok-held)).0)) }

pub site_in-x-requires : goal.site_in-x-requires
site_in-x-requires c = (c.requires.0.0, room (goal.at.site_in-x-requires c).In_ok-change_row)

pub put_site-requires : goal.put_site-requires
put_site-requires c = room (goal.at.put_site-requires c).In_ok-change_row

pub returns : goal.returns
returns c = λ input buffer b.
    let t = (goal.at.returns c).In_ok-change_row in
    let k = (goal.at.In_ok-change_row t).After-row_zero in
    let a = c.args in
    let q = asked k input buffer in
    let g = passed t input buffer in
    let small = changed-small a.e a.store.now a.table.now g.1 (placed t) (λ i. (k.slice_known-2-1.given i).fits) in
    let is = c.site_in-x.ensures in
    let roll = (state k).store.roll in
    let few = (held-count (state k) (sound (goal.at.In_ok-change_row t).In_ok-held)).0 in
    let known : Bytes a.store.now = λ i. (k.slice_known-1.given i).fits in
    let put = keeps-bare a.e a.store.now c.requires.1 known few (omega (arith, few, c.in_ok-held.ensures.kept.0)) roll refl (c.put_bare.ensures roll) in
    puts-site a.e a.store.now a.table.now q b known (λ i. (k.slice_known-2-1.given i).fits) c.requires.2
    (placed t) (subst (λ (y : Site). y.first < 256) (sym is) small.0) (subst (λ (y : Site). y.second < 256) (sym is) small.1) c.requires.2
    (g.0
    ∙ ap₂ (λ (n : ℕ) (y : Site). next (state k) (bare n roll) (set (state k).table a.i y) (same q done)) (sym c.in_ok-held.ensures.kept.0)
    (changed-is a.e a.store.now a.table.now g.1 (placed t) a.w ∙ ap (λ (y : Site). with_litres y a.w) (sym is)))
    put c.put_bare.auto.out c.put_site.ensures
