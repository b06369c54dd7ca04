-- `verify::plan_row` meets its contract. Assumes nothing.
use mathlib.Core.Path.{◌≡◌, refl, sym, ◌∙◌}
use mathlib.Core.List.{[], ◌∷◌}
use Prim.Native.Nat.{ℕ}
use native.Mathlib.Omega.{arith}
use lib.ListN.{length, take, get_or-replicate}
use borrow.Author.Rules.{rules}
use Rattle.density.specs.Rows.{first_row, plan_rows, loads_uneven, groups_rise}
use Rattle.density.proofs.Lists.{range-roll}
use Rattle.records.specs.Values.{listing}
use mathlib.Core.Option.{none}
use Rattle.std.proofs.lemmas.Result.{err_from_is_err_and}
use Rattle.tables.specs.Tables.{net, groups_in, shares_in}
use Rattle.tables.proofs.Locals.{value, memory, arrays}
use Rattle.tables.proofs.Groups.{crews-few}
use Rattle.tables.proofs.Verdicts.{form-refused, row-15, row-16, plan-passes, small, kept-parts, kept-levels}
use Rattle.tables.proofs.Shares.{groups-count}
use Rattle.tables.proofs.Totals.{listed-place}
use Rattle.verify.proofs.plan_row.Code as code
use Rattle.verify.proofs.plan_row.Goals as goal
use Rattle.verify.proofs.plan_row.Goals.{After-crews-crews, After-groups_rise, After-loads-loads, After-loads_uneven, After-q-1, After-try_form, After-w-2-1, Else-loads_uneven, In_ok-form, Start}

-- The arrays of its code, by `refl`: another one is refused. The list's sites and roll; the plan's groups and shares; in memory the groups, the shares and w × q of each site; places, q and W as `try_form` answers them, and as `?` takes them out; in memory each depot's place, q and W of
-- each group, and the loads, which row 15 reads there; the roll, taken out of the list; in memory each depot's crews; the loads from `loads`, and then the crews from `tables`; the zeros that `loads` adds to; places, q and W on the way through `?`.
arrays-are : arrays (code.function) ≡ value 512 8 ∷ value 64 1 ∷ value 64 8 ∷ value 512 8 ∷ memory 64 8 ∷ memory 512 8 ∷ memory 512 8 ∷ value 64 1 ∷ value 64 8 ∷ value 64 8 ∷ value 64 1 ∷ value 64 8 ∷ value 64 8 ∷ memory 64 1 ∷ memory 64 8 ∷ memory 64 8 ∷ memory 64 8 ∷ value 64 1 ∷ memory 64 8 ∷ value 64 1 ∷ value 64 8 ∷ value 64 8 ∷ value 64 1 ∷ value 64 8 ∷ value 64 8 ∷ value 64 1 ∷ value 64 8 ∷ value 64 8 ∷ value 64 8 ∷ value 64 8 ∷ []
arrays-are = refl

many : (s : Start) → length s.args.plan.shares ≡ 512
many s = search rules

-- places on the way: the beginning, where rows 12 to 14 were tried, where the loads and then the crews were known, and where rows 12 to 14 had passed before row 15 and before row 16 was asked
abbrev start : After-try_form → Start
start t = (goal.at.After-try_form t).Start

abbrev tried : In_ok-form → After-try_form
tried t = (goal.at.In_ok-form t).After-try_form

abbrev summed : After-crews-crews → After-loads-loads
summed m = (goal.at.After-crews-crews m).After-loads-loads

abbrev clear : After-crews-crews → In_ok-form
clear m = (goal.at.After-crews-crews m).In_ok-form

abbrev counted : After-loads_uneven → After-crews-crews
counted p = (goal.at.After-loads_uneven p).After-crews-crews

abbrev passed : After-loads_uneven → In_ok-form
passed p = (goal.at.After-loads_uneven p).In_ok-form

abbrev levelled : After-groups_rise → After-loads_uneven
levelled p = (goal.at.After-groups_rise p).After-loads_uneven

loads-wide : (w : After-loads-loads) → length w.loads-loads.result ≡ 64
loads-wide w = search rules

crews-wide : (m : After-crews-crews) → length m.crews-crews.result ≡ 64
crews-wide m = search rules

-- rows 12 to 14 do not refuse the plan
form : (t : In_ok-form) → let s = (goal.at.In_ok-form t).Start in first_row (take 3 (plan_rows (net s.args.list) (groups_in s.args.list s.args.plan) (shares_in s.args.list s.args.plan))) ≡ none
form t = sym t.in_ok-form.ensures.refusal

-- row 15 is asked
uneven : (p : After-loads_uneven) → let s = (goal.at.After-loads_uneven p).Start in p.loads_uneven.result ≡ loads_uneven (net s.args.list) (groups_in s.args.list s.args.plan) (shares_in s.args.list s.args.plan)
uneven p =
    let t = (goal.at.After-loads_uneven p).In_ok-form in
    let f = t.in_ok-form.ensures in
    let s = (goal.at.In_ok-form t).Start in
    let m = p.crews-crews in
    let w = p.loads-loads in
    p.loads_uneven.ensures s.args.list s.args.plan (kept-levels {plan = s.args.plan} f.passed (many s) m.result m.ensures w.result w.ensures)

-- row 16 is asked
rises : (p : After-groups_rise) → let s = (goal.at.After-groups_rise p).Start in p.groups_rise.result ≡ groups_rise (net s.args.list) (groups_in s.args.list s.args.plan)
rises p =
    let t = (goal.at.After-groups_rise p).In_ok-form in
    let f = t.in_ok-form.ensures in
    let s = (goal.at.In_ok-form t).Start in
    let k = f.passed in
    let gs = groups_in s.args.list s.args.plan in
    p.groups_rise.ensures (net s.args.list) gs (groups-count s.args.list s.args.plan k.ready) (λ i l. k.litres.1.is gs k.tables.place i (omega (arith, s.requires.groups))) k.tables.size

pub try_form-requires : goal.try_form-requires
try_form-requires c =
    let s = (goal.at.try_form-requires c).Start in
    let deep : length s.args.plan.groups ≡ 64 = search rules in
    (s.requires, deep, many s, refl)

pub returns-in_err-form : goal.returns-in_err-form
returns-in_err-form c =
    let p = err_from_is_err_and c.from_residual.result c.from_residual.ensures.1 in
    rw (p.1, p.2) (sym (form-refused _ _ _ _ (sym c.in_err-form.ensures.refusal)))

pub loads-loads-requires : goal.loads-loads-requires
loads-loads-requires c =
    let q = (goal.at.loads-loads-requires c).After-q-1 in
    let t = (goal.at.After-q-1 q).In_ok-form in
    let s = (goal.at.In_ok-form t).Start in
    let f = t.in_ok-form.ensures in
    let k = f.passed in
    (λ d l. omega (arith, get_or-replicate {A = ℕ} 64 d 0 0 l), kept-parts {plan = s.args.plan} k (many s))

pub loads_uneven-requires : goal.loads_uneven-requires
loads_uneven-requires c =
    let w2 = (goal.at.loads_uneven-requires c).After-w-2-1 in
    let m = (goal.at.After-w-2-1 w2).After-crews-crews in
    let t = (goal.at.After-crews-crews m).In_ok-form in
    let s = (goal.at.In_ok-form t).Start in
    let f = t.in_ok-form.ensures in
    let k = f.passed in record { places_len = (k.tables.length-places, k.litres.0, crews-wide m, loads-wide (goal.at.After-crews-crews m).After-loads-loads); by_index = λ d l h. listed-place s.args.list s.args.plan k.ready t.in_ok-form.form.places k.tables.place t.in_ok-form.form.listed d k.listed l h; by_index_2 = (k.litres.1.low, crews-few s.args.list.roll m.crews-crews.result m.crews-crews.ensures (range-roll (listing s.args.list) s.requires.range)) }

pub returns-then-loads_uneven : goal.returns-then-loads_uneven
returns-then-loads_uneven c =
    row-15 _ _ _ (form (goal.at.returns-then-loads_uneven c).In_ok-form) (sym (uneven (goal.at.returns-then-loads_uneven c).After-loads_uneven) ∙ c.if-loads_uneven.true)

pub slice_bounds-groups_rise-end : goal.slice_bounds-groups_rise-end
slice_bounds-groups_rise-end c =
    let t = (goal.at.slice_bounds-groups_rise-end c).In_ok-form in
    let f = t.in_ok-form.ensures in
    let k = f.passed in
    search (rules, k.litres.0)

pub slice_bounds-groups_rise-end-2 : goal.slice_bounds-groups_rise-end-2
slice_bounds-groups_rise-end-2 c =
    let t = (goal.at.slice_bounds-groups_rise-end-2 c).In_ok-form in
    let f = t.in_ok-form.ensures in
    let k = f.passed in
    search (rules, k.tables.length-sizes)

pub groups_rise-requires : goal.groups_rise-requires
groups_rise-requires c =
    let t = (goal.at.groups_rise-requires c).In_ok-form in
    let s = (goal.at.In_ok-form t).Start in
    let f = t.in_ok-form.ensures in
    let k = f.passed in
    small s.args.list s.args.plan k.ready _ _ _ k.tables k.litres.1 k.litres.0

pub returns-then-groups_rise : goal.returns-then-groups_rise
returns-then-groups_rise c =
    let rise = (goal.at.returns-then-groups_rise c).After-groups_rise in
    let even = (goal.at.After-groups_rise rise).Else-loads_uneven in
    let p = (goal.at.After-groups_rise rise).After-loads_uneven in
    row-16 _ _ _ (form (goal.at.After-loads_uneven p).In_ok-form) (sym (uneven p) ∙ even.if-loads_uneven.false) (sym (rises rise) ∙ c.if-groups_rise.true)

pub returns : goal.returns
returns c =
    let rise = (goal.at.returns c).After-groups_rise in
    let even = (goal.at.After-groups_rise rise).Else-loads_uneven in
    let p = (goal.at.After-groups_rise rise).After-loads_uneven in
    plan-passes _ _ _ (form (goal.at.After-loads_uneven p).In_ok-form) (sym (uneven p) ∙ even.if-loads_uneven.false) (sym (rises rise) ∙ c.if-groups_rise.false)
