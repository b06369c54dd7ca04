-- `rows::loads_uneven` meets its contract. The invariant: no depot passed is listed and uneven. Assumes nothing.
use mathlib.Core.Path.{◌≡◌, refl, sym, ap, ◌∙◌}
use mathlib.Core.List.{[]}
use native.Mathlib.Omega.{arith}
use Rattle.sets.specs.Sum.{any}
use Rattle.sets.proofs.Set.{any-start, any-more, any_here}
use Rattle.tables.proofs.Locals.{arrays}
use Rattle.tables.proofs.Totals.{uneven-is, uneven-here, even-here, unlisted-here}
use Rattle.rows.proofs.loads_uneven.Code as code
use Rattle.rows.proofs.loads_uneven.Goals as goal
use Rattle.rows.proofs.loads_uneven.Goals.{then-contains+else-sum-crews, else-contains}

-- Its code has no array, by `refl`: the loads, W of each group, the crews and the places are read where they lie.
arrays-are : arrays (code.function) ≡ []
arrays-are = refl

pub loop-d-init : goal.loop-d-init
loop-d-init c = any-start _

pub returns-then-sum-crews : goal.returns-then-sum-crews
returns-then-sum-crews c = λ list plan v.
    let a = c.args in
    let d = c.loop-d.d in
    let is = uneven-is list plan v.ready a.places.now v.place a.litres.now v.litres a.all v.listed a.sums.now v.loads a.crews.now v.crews in
    sym (sym is ∙ any_here _ 64 d (omega arith) (uneven-here a.crews.now a.all a.sums.now a.places.now a.litres.now d (sym c.contains.ensures ∙ c.if-contains.true) _ refl c.if-sum-crews.true))

pub loop-d-preserved : goal.loop-d-preserved
loop-d-preserved c =
    let a = c.args in
    let d = c.loop-d.d in
    any-more _ d c.loop-d.invariant
    (elim c.if-contains.branch [
      | then-contains+else-sum-crews w ↦ even-here a.crews.now a.all a.sums.now a.places.now a.litres.now d _ refl w.if-sum-crews.false
      | else-contains w ↦ unlisted-here a.crews.now a.all a.sums.now a.places.now a.litres.now d (sym c.contains.ensures ∙ w.if-contains.false)
    ])

pub returns : goal.returns
returns c = λ list plan v.
    let a = c.args in
    let end : 64 ≡ c.loop-d.d = omega arith in
    let is = uneven-is list plan v.ready a.places.now v.place a.litres.now v.litres a.all v.listed a.sums.now v.loads a.crews.now v.crews in
    sym (sym is ∙ ap (any _) end ∙ c.loop-d.invariant)
