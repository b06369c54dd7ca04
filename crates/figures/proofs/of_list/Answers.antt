-- `figures::of_list` meets its contract: the tables are those of the plan made. Assumes nothing.
use mathlib.Core.List.{List}
use mathlib.Core.Path.{◌≡◌, refl, sym}
use Prim.Native.Nat.{ℕ, ◌≤◌}
use native.Mathlib.Omega.{arith}
use lib.ListN.{length, take}
use lib.Seq.{length-take-le}
use borrow.Author.Rules.{rules}
use Rattle.density.proofs.Lists.{range-roll}
use Rattle.records.specs.Values.{listing}
use Rattle.figures.proofs.Computed.{placed-here, computed}
use Rattle.figures.proofs.of_list.Goals as goal

-- the groups that are used, of the 64 places
room : {n : ℕ} (groups : List ℕ) → n ≤ 64 → length groups ≡ 64 → n ≤ length groups
room groups few deep = omega arith

used : {n : ℕ} (groups : List ℕ) → n ≤ 64 → length groups ≡ 64 → length (take n groups) ≤ 64
used groups few deep = omega (arith, length-take-le _ groups (room groups few deep))

pub slice_bounds-groups-end : goal.slice_bounds-groups-end
slice_bounds-groups-end c = sym (length-take-le _ _ (room c.make_plan-plan.result.groups c.make_plan-plan.ensures.few (search rules)))

pub places-places-requires : goal.places-places-requires
places-places-requires c = used c.make_plan-plan.result.groups c.make_plan-plan.ensures.few (search rules)

pub sizes-sizes-requires : goal.sizes-sizes-requires
sizes-sizes-requires c = (range-roll (listing c.args.list) c.requires.1, used c.make_plan-plan.result.groups c.make_plan-plan.ensures.few (search rules))

pub litres-litres-requires : goal.litres-litres-requires
litres-litres-requires c =
    let p = c.make_plan-plan in
    let x = c.places-places in
    let q = c.sizes-sizes in
    placed-here c.args.list p.result c.requires.0 c.requires.1 p.ensures (search rules) (search rules) x.result q.result (search rules) (search rules) x.ensures q.ensures

pub returns : goal.returns
returns c =
    let p = c.make_plan-plan in
    let x = c.places-places in
    let q = c.sizes-sizes in (
      refl,
      computed c.args.list p.result c.requires.0 c.requires.1 p.ensures (search rules) (search rules) x.result q.result (search rules) (search rules) x.ensures q.ensures c.litres-litres.result
          (search rules) c.litres-litres.ensures,
    )
