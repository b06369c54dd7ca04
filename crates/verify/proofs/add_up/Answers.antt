-- `verify::add_up` meets its contract. The invariants: the set has the depots with crews in the roll and those that the sites passed name; in the first loop `Pass` holds of them. Where it ends before the list does, a share breaks a rule if the groups are the listed depots. Assumes nothing.
use mathlib.Core.Path.{◌≡◌, refl, ap, ◌∙◌, subst}
use mathlib.Core.Bool.{true}
use mathlib.Core.List.{[], ◌∷◌}
use Prim.Native.Nat.{ℕ, ◌+◌, ◌-◌, ◌<◌, ◌≤◌}
use native.Mathlib.Omega.{arith}
use lib.ListN.{length, get_or, take, drop}
use lib.Seq.{get_or-take, length-take-le}
use Rattle.std.proofs.lemmas.List.{get_or-drop}
use Rattle.sets.specs.Set.{◌∪◌, set_of}
use Rattle.density.specs.Network.{no_site, enrolled}
use Rattle.density.specs.Rows.{shares_broken}
use Rattle.records.specs.declared.ListArray.{ListArray}
use Rattle.records.specs.Values.{roll_in}
use Rattle.tables.specs.Tables.{net, groups_in, shares_in, Ready, lent_plan}
use Rattle.tables.proofs.Locals.{value, memory, arrays}
use Rattle.tables.proofs.Sites.{site-small, named, named_start, named_more, named_end}
use Rattle.tables.proofs.Pass.{pass-start, table_fits, no-group, broken-here, pass-more, pass-done}
use borrow.Author.Rules.{rules}
use Rattle.verify.proofs.add_up.Code as code
use Rattle.verify.proofs.add_up.Goals as goal
use Rattle.verify.proofs.add_up.Goals.{After-row_known-1, else-loop-i-test, then-loop-i-test+then-count-k, then-loop-i-test+else-count-k+then-is_broken}

-- The arrays of its code, by `refl`: another one is refused. W returned; the list's sites and roll; in memory the sites and the roll, and W of each group; the roll as it is passed on; W as it is put into what is returned.
arrays-are : arrays (code.function) ≡ value 64 8 ∷ value 512 8 ∷ value 64 1 ∷ memory 512 8 ∷ memory 64 1 ∷ memory 64 8 ∷ value 64 1 ∷ value 64 8 ∷ []
arrays-are = refl

-- a site that the first loop takes, and one that the second takes
taken : (list : ListArray) (i : ℕ) → i < list.count → get_or (take list.count list.sites) i no_site ≡ get_or list.sites i no_site
taken list i l = get_or-take list.count list.sites i no_site l

behind : (list : ListArray) (end j : ℕ) → length list.sites ≡ 512 → list.count ≤ 512 → end + j < list.count
    → get_or (take (length (take list.count list.sites) - end) (drop end (take list.count list.sites))) j no_site ≡ get_or list.sites (end + j) no_site
behind list end j wide few l =
    let all : length (take list.count list.sites) ≡ list.count = length-take-le list.count list.sites (omega arith) in
    get_or-take (length (take list.count list.sites) - end) (drop end (take list.count list.sites)) j no_site (omega arith)
    ∙ get_or-drop end (take list.count list.sites) j no_site
    ∙ taken list (end + j) l

-- where the first loop ended: at the end of the list, or where a share breaks a rule if the groups are the listed depots
ended : (c : After-row_known-1) → c.loop-i-test.end ≡ c.loop-i.i
ended c =
    elim c.loop-i-test.branch [
      | else-loop-i-test w ↦ omega (arith, w.end-is, w.loop-i-test.false, c.loop-i.auto.i-end, c.loop-i.invariant.2, c.requires.0.sites)
      | then-loop-i-test+then-count-k w ↦ w.end-is
      | then-loop-i-test+else-count-k+then-is_broken w ↦ w.end-is
    ]

low : (c : After-row_known-1) → c.loop-i-test.end ≤ c.args.list.count
low c = omega (arith, ended c, c.loop-i.auto.i-end, c.requires.0.sites)

stopped : (c : After-row_known-1) → let list = c.args.list in let plan = lent_plan c.args.count c.args.sets.now c.args.shares.now in
    c.loop-i.i < list.count → Ready list plan → true ≡ shares_broken (net list) (groups_in list plan) (shares_in list plan)
stopped c n =
    let list = c.args.list in
    let is = taken list c.loop-i.i n in
    elim c.loop-i-test.branch [
      | else-loop-i-test w ↦ absurd (omega (arith, n, w.loop-i-test.false, c.requires.0.sites))
      | then-loop-i-test+then-count-k w ↦ λ r. absurd (no-group _ _ _ _ c.requires.1 c.loop-i.i n _ (rw is at w.later-k.ensures) w.if-count-k.true r)
      | then-loop-i-test+else-count-k+then-is_broken w ↦
          broken-here _ _ _ _ c.requires.1 c.loop-i.i n w.later-k.result (rw is at w.later-k.ensures) w.litres_of-w.result (rw is at w.litres_of-w.ensures) _ (rw is at w.is_broken.ensures) w.if-is_broken.true
    ]

pub loop-i-init : goal.loop-i-init
loop-i-init c =
    (named_start (enrolled (roll_in c.args.list.roll)) c.args.list.sites _ c.enrolled-set.ensures, pass-start _ _ _ _ c.requires.3, omega (arith, c.requires.0.sites))

pub bounds-places-s : goal.bounds-places-s
bounds-places-s c =
    let list = c.args.list in
    let few : c.loop-i.i < list.count = omega (arith, c.loop-i-test.true, c.requires.0.sites) in
    rw (taken list c.loop-i.i few) (omega (arith, (site-small list (search rules) c.requires.0.sites c.requires.0.range c.loop-i.i few).0, c.requires.1.length-places))

pub bounds-places-s-in-loop-i : goal.bounds-places-s-in-loop-i
bounds-places-s-in-loop-i c =
    let list = c.args.list in
    let few : c.loop-i.i < list.count = omega (arith, c.loop-i-test.true, c.requires.0.sites) in
    rw (taken list c.loop-i.i few) (omega (arith, (site-small list (search rules) c.requires.0.sites c.requires.0.range c.loop-i.i few).1, c.requires.1.length-places))

pub overflow_mul-all : goal.overflow_mul-all
overflow_mul-all c = omega (arith, table_fits _ _ c.requires.0.range _ _ c.requires.1 c.later-k.result c.litres_of-w.result c.if-count-k.false c.litres_of-w.ensures.1)

pub name-set-requires : goal.name-set-requires
name-set-requires c =
    let list = c.args.list in
    let few : c.loop-i.i < list.count = omega (arith, c.loop-i-test.true, c.requires.0.sites) in
    rw (taken list c.loop-i.i few) (site-small list (search rules) c.requires.0.sites c.requires.0.range c.loop-i.i few)

pub loop-i-preserved : goal.loop-i-preserved
loop-i-preserved c =
    let list = c.args.list in
    let l = c.loop-i in
    let few : l.i < list.count = omega (arith, c.loop-i-test.true, c.requires.0.sites) in
    let is = taken list l.i few in (
      (rw is at c.name-set.ensures) ∙ named_more (enrolled (roll_in list.roll)) list.sites l.i _ l.invariant.0,
      pass-more list (lent_plan c.args.count c.args.sets.now c.args.shares.now) c.args.places.now c.args.sizes.now c.requires.1 l.i few c.later-k.result (rw is at c.later-k.ensures) c.litres_of-w.result (rw is at c.litres_of-w.ensures) _ (rw is at c.is_broken.ensures)
          _ _ _ _ l.invariant.1 c.if-is_broken.false (omega (arith, c.if-count-k.false, c.requires.0.groups)) c.requires.0.sites refl refl,
      l.invariant.2,
    )

pub offset_bounds-sites-end : goal.offset_bounds-sites-end
offset_bounds-sites-end c = omega (arith, low c, c.requires.0.sites)

pub slice_bounds-s-items-count : goal.slice_bounds-s-items-count
slice_bounds-s-items-count c = omega (arith, low c, c.requires.0.sites)

pub slice_bounds-s-items-start : goal.slice_bounds-s-items-start
slice_bounds-s-items-start c = omega (arith, low c, c.requires.0.sites)

pub loop-s-init : goal.loop-s-init
loop-s-init c =
    let r = (goal.at.loop-s-init c).After-row_known-1 in
    let list = r.args.list in
    let e : r.loop-i.i ≡ r.loop-i-test.end + 0 = omega (arith, ended r) in
    subst (λ (n : ℕ). r.loop-i.set ≡ set_of (enrolled (roll_in list.roll) ∪ named list.sites n) 64) e r.loop-i.invariant.0

pub name-set-requires-in-loop-s : goal.name-set-requires-in-loop-s
name-set-requires-in-loop-s c =
    let list = c.args.list in
    let n = c.loop-i-test.end + c.loop-s.s-index in
    let few : n < list.count = omega (arith, c.loop-s-test.true, c.requires.0.sites) in
    rw (behind list c.loop-i-test.end c.loop-s.s-index (search rules) c.requires.0.sites few) (site-small list (search rules) c.requires.0.sites c.requires.0.range n few)

pub loop-s-preserved : goal.loop-s-preserved
loop-s-preserved c =
    let list = c.args.list in
    let n = c.loop-i-test.end + c.loop-s.s-index in
    let few : n < list.count = omega (arith, c.loop-s-test.true, c.requires.0.sites) in
    let e : n + 1 ≡ c.loop-i-test.end + (c.loop-s.s-index + 1) = omega arith in
    (rw (behind list c.loop-i-test.end c.loop-s.s-index (search rules) c.requires.0.sites few) at c.name-set-in-loop-s.ensures)
    ∙ named_more (enrolled (roll_in list.roll)) list.sites n _ c.loop-s.invariant
    ∙ ap (λ (m : ℕ). set_of (enrolled (roll_in list.roll) ∪ named list.sites m) 64) e

pub returns : goal.returns
returns c =
    let r = (goal.at.returns c).After-row_known-1 in
    let list = r.args.list in
    let all : length (take list.count list.sites) ≡ list.count = length-take-le list.count list.sites (omega (arith, r.requires.0.sites)) in (
      c.loop-s.invariant ∙ named_end list (search rules) r.requires.0.sites (c.loop-i-test.end + c.loop-s.s-index) (omega (arith, low r, c.loop-s.auto.s-index-end, c.loop-s-test.false, all)),
      pass-done list (lent_plan r.args.count r.args.sets.now r.args.shares.now) r.args.places.now r.args.sizes.now r.requires.1 _ _ r.loop-i.i (omega (arith, low r, ended r)) r.loop-i.invariant.1
          (stopped r) _ (rw (ended r, all) refl) refl,
    )
