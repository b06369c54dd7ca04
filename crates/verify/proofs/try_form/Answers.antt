-- `verify::try_form` meets its contract. Assumes nothing.
use mathlib.Core.Path.{◌≡◌, refl, sym}
use mathlib.Core.List.{[], ◌∷◌}
use mathlib.Core.Option.{Option, none}
use Prim.Native.Nat.{ℕ}
use Rattle.std.proofs.lemmas.Result.{err_from_is_err_and}
use Rattle.density.specs.Rows.{first_row, plan_rows}
use Rattle.records.specs.declared.PlanArray.{PlanArray}
use native.Mathlib.Omega.{arith}
use lib.ListN.{length, take}
use lib.Seq.{length-take-le}
use borrow.Author.Rules.{rules}
use Rattle.density.proofs.Lists.{range-roll}
use Rattle.records.specs.Values.{listing}
use Rattle.tables.specs.Tables.{net, groups_in, shares_in, lent_plan, form_rows, Kept}
use Rattle.tables.proofs.Locals.{value, memory, arrays}
use Rattle.tables.proofs.Verdicts.{tables-of, formed}
use Rattle.verify.proofs.try_form.Code as code
use Rattle.verify.proofs.try_form.Goals as goal
use Rattle.verify.proofs.try_form.Goals.{After-add_up-t, After-places-at, After-shared_slice_known-1, After-sizes-q, Start}

-- The arrays of its code, by `refl`: another one is refused. Places, q and W returned; the list's sites and roll; in memory each depot's place, and q of each group; W from `add_up`, and taken out of what it returns; places and q from `tables`; the roll, as it is passed on; places, q and W in what `Ok` holds.
arrays-are : arrays (code.function) ≡ value 64 1 ∷ value 64 8 ∷ value 64 8 ∷ value 512 8 ∷ value 64 1 ∷ memory 64 1 ∷ memory 64 8 ∷ value 64 8 ∷ value 64 8 ∷ value 64 1 ∷ value 64 8 ∷ value 64 1 ∷ value 64 1 ∷ value 64 8 ∷ value 64 8 ∷ []
arrays-are = refl

-- where q of each group is known: where the places were, and what the beginning said of what is lent
abbrev placed : After-sizes-q → After-places-at
placed z = (goal.at.After-sizes-q z).After-places-at

abbrev known : After-sizes-q → After-shared_slice_known-1
known z = (goal.at.After-sizes-q z).After-shared_slice_known-1

few : (s : Start) → length (take s.args.count s.args.sets.now) ≡ s.args.count
few s = length-take-le _ _ (omega (arith, s.requires.0.groups, s.requires.1))

places-wide : (p : After-places-at) → length p.places-at.result ≡ 64
places-wide p = search rules

sizes-wide : (p : After-sizes-q) → length p.sizes-q.result ≡ 64
sizes-wide p = search rules

litres : (p : After-add_up-t) → length p.add_up-t.result.litres ≡ 64
litres p = search rules

pub slice_bounds-groups-end : goal.slice_bounds-groups-end
slice_bounds-groups-end c =
    let s = (goal.at.slice_bounds-groups-end c).Start in
    sym (few s)

pub places-at-requires : goal.places-at-requires
places-at-requires c =
    let s = (goal.at.places-at-requires c).Start in
    omega (arith, few s, s.requires.0.groups)

pub sizes-q-requires : goal.sizes-q-requires
sizes-q-requires c =
    let at = (goal.at.sizes-q-requires c).After-places-at in
    let s = (goal.at.After-places-at at).Start in
    (range-roll (listing s.args.list) s.requires.0.range, omega (arith, few s, s.requires.0.groups))

pub add_up-t-requires : goal.add_up-t-requires
add_up-t-requires c =
    let size = (goal.at.add_up-t-requires c).After-sizes-q in
    let s = (goal.at.After-sizes-q size).Start in
    let at = (goal.at.After-sizes-q size).After-places-at in
    let plan = lent_plan s.args.count s.args.sets.now s.args.shares.now in
    (s.requires.0, tables-of s.args.list plan s.requires.0 s.requires.1 _ _ (places-wide at) (sizes-wide size) at.places-at.ensures size.sizes-q.ensures, s.requires.2, s.requires.3)

-- the plan that is lent in parts
abbrev plan : Start → PlanArray
plan s = lent_plan s.args.count s.args.sets.now s.args.shares.now

-- what rows 12 to 14 find, and what they leave where they pass
tried : (t : After-add_up-t) → let size = (goal.at.After-add_up-t t).After-sizes-q in let s = (goal.at.After-sizes-q size).Start in let at = (goal.at.After-sizes-q size).After-places-at in
    (v : Option ℕ) → v ≡ first_row (form_rows (groups_in s.args.list (plan s)) t.add_up-t.result.listed t.add_up-t.result.broken)
    → (v ≡ first_row (take 3 (plan_rows (net s.args.list) (groups_in s.args.list (plan s)) (shares_in s.args.list (plan s)))))
    × (v ≡ none → Kept s.args.list (plan s) (record { listed = t.add_up-t.result.listed; places = at.places-at.result; sizes = size.sizes-q.result; litres = t.add_up-t.result.litres }) t.add_up-t.new.wholes)
tried t v e =
    let size = (goal.at.After-add_up-t t).After-sizes-q in
    let start = (goal.at.After-sizes-q size).After-shared_slice_known-1 in
    let s = (goal.at.After-shared_slice_known-1 start).Start in
    let at = (goal.at.After-sizes-q size).After-places-at in
    let wide : length s.args.list.sites ≡ 512 = search rules in
    formed s.args.list (plan s) s.requires.0 wide s.requires.1 (λ i. (start.shared_slice_known-1.given i).fits) _ _ (tables-of s.args.list (plan s) s.requires.0 s.requires.1 _ _ (places-wide at) (sizes-wide size) at.places-at.ensures size.sizes-q.ensures)
    t.add_up-t.result _ (litres t) t.add_up-t.ensures v e

pub returns-in_err-form_of : goal.returns-in_err-form_of
returns-in_err-form_of c =
    let t = (goal.at.returns-in_err-form_of c).After-add_up-t in
    let p = err_from_is_err_and c.from_residual.result c.from_residual.ensures.1 in
    rw (p.1, p.2) (record { refusal = (tried t _ c.in_err-form_of.ensures).0; passed = tt })

pub returns : goal.returns
returns c =
    let t = (goal.at.returns c).After-add_up-t in
    let f = tried t _ c.in_ok-form_of.ensures in
    record { refusal = f.0; passed = f.1 refl }
