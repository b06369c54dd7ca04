-- `loads::loads` meets its contract. The invariant: each depot has its parts of the sites passed, added to what it had at first. Assumes nothing.
use mathlib.Core.Path.{◌≡◌, refl}
use mathlib.Core.List.{[], ◌∷◌}
use Prim.Native.Nat.{ℕ, ◌-◌, ◌≤◌, ◌<◌, ◌^◌}
use native.Mathlib.Omega.{arith}
use lib.Dec.{eqb}
use lib.ListN.{get_or, length-set, take}
use lib.Seq.{get_or-take}
use Rattle.sets.proofs.Test.{when-≤}
use Rattle.density.specs.Network.{no_site}
use Rattle.tables.specs.Tables.{part_of}
use Rattle.tables.proofs.Locals.{value, memory, arrays}
use Rattle.tables.proofs.Arrays.{added, added-two}
use Rattle.tables.proofs.Totals.{summed-start, summed-more, part-≤}
use borrow.Author.Rules.{rules}
use Rattle.loads.proofs.loads.Code as code
use Rattle.loads.proofs.loads.Goals as goal

-- The arrays of its code, by `refl`: another one is refused. The loads returned, and passed; the list's sites and roll; in memory the running loads, and the sites and the roll.
arrays-are : arrays (code.function) ≡ value 64 8 ∷ value 64 8 ∷ value 512 8 ∷ value 64 1 ∷ memory 64 8 ∷ memory 512 8 ∷ memory 64 1 ∷ []
arrays-are = refl

pub loop-i-init : goal.loop-i-init
loop-i-init c = summed-start _ _ _ _ (search rules) (λ k l. refl)

pub overflow_add-from : goal.overflow_add-from
overflow_add-from c =
    let list = c.args.list in
    let i = c.loop-i.i in
    let few : i < list.count = omega (arith, c.loop-i-test.true, c.requires.1.sites) in
    let taken : (get_or (take list.count list.sites) i no_site).litres < 2 ^ 32 = search rules in
    let w = rw (get_or-take list.count list.sites i no_site few) at taken in
    let d = (c.requires.1.depots i few).0 in
    let f = c.requires.1.fit i few in
    rw (get_or-take list.count list.sites i no_site few) (omega (arith, w, f.0, f.1, c.loop-i.invariant.low _ d, c.requires.0 _ d, c.requires.1.sites, few))

pub overflow_add-from-in-loop-i : goal.overflow_add-from-in-loop-i
overflow_add-from-in-loop-i c =
    let list = c.args.list in
    let i = c.loop-i.i in
    let h = c.loop-i.invariant in
    let few : i < list.count = omega (arith, c.loop-i-test.true, c.requires.1.sites) in
    let site = get_or list.sites i no_site in
    let x = get_or c.args.shares.now i 0 in
    let taken : (get_or (take list.count list.sites) i no_site).litres < 2 ^ 32 = search rules in
    let w = rw (get_or-take list.count list.sites i no_site few) at taken in
    let d = c.requires.1.depots i few in
    let f = c.requires.1.fit i few in
    rw (get_or-take list.count list.sites i no_site few)
    (omega (arith, w, f.0, f.1, h.low _ d.1, c.requires.0 _ d.1, c.requires.1.sites, few, added c.loop-i.from site.first x (omega (arith, h.wide, d.0)) site.second, when-≤ (eqb site.first site.second) x))

pub loop-i-preserved : goal.loop-i-preserved
loop-i-preserved c =
    let a = c.args in
    let list = a.list in
    let i = c.loop-i.i in
    let h = c.loop-i.invariant in
    let few : i < list.count = omega (arith, c.loop-i-test.true, c.requires.1.sites) in
    let site = get_or list.sites i no_site in
    let taken : (get_or (take list.count list.sites) i no_site).litres < 2 ^ 32 = search rules in
    let w = rw (get_or-take list.count list.sites i no_site few) at taken in
    let d = c.requires.1.depots i few in
    let f = c.requires.1.fit i few in
    let small : (k : ℕ) → part_of list a.shares.now a.wholes.now k i ≤ 2 ^ 42 = part-≤ _ _ _ c.requires.1 i few (omega (arith, w, f.1)) in
    let two = added-two c.loop-i.from site.first (get_or a.shares.now i 0) site.second (get_or a.wholes.now i 0 - get_or a.shares.now i 0) (omega (arith, h.wide, d.0)) (omega (arith, h.wide, d.1)) in
    rw (get_or-take list.count list.sites i no_site few) (summed-more _ _ (2 ^ 42) _ _ i h (simp length-set h.wide) (λ k m. two k) (λ k m. small k))
