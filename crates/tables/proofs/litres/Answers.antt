-- `tables::litres` meets its contract. The invariant: each place has the litres of the sites passed that it carries. Assumes nothing.
use mathlib.Core.Path.{refl}
use Prim.Native.Nat.{◌<◌, ◌^◌}
use native.Mathlib.Omega.{arith}
use native.Mathlib.Nat.{le_of_suc-le}
use lib.Seq.{get_or-take}
use Rattle.density.specs.Network.{no_site}
use Rattle.tables.proofs.Totals.{summed-zero, summed-one, carried, litres-end}
use Rattle.tables.proofs.litres.Goals as goal

pub loop-s-init : goal.loop-s-init
loop-s-init c = summed-zero _ _

pub loop-s-preserved : goal.loop-s-preserved
loop-s-preserved c =
    let list = c.args.list in
    let i = c.loop-s.s-index in
    let few : i < list.count = omega (arith, c.loop-s-test.true, c.requires.sites.0) in
    let p = c.requires.low i few in
    let later = rw (get_or-take list.count list.sites i no_site few) at c.later-k.ensures in
    let k : c.later-k.result < 64 = omega (arith, later, p.0, p.1) in
    summed-one _ (carried list.sites c.args.places.now) (2 ^ 32) _ _ i c.later-k.result c.litres_of.result c.loop-s.invariant k
    (le_of_suc-le c.litres_of.ensures.1) refl (λ k. rw (later, c.litres_of.ensures.0, get_or-take list.count list.sites i no_site few))

pub returns : goal.returns
returns c = litres-end c.args.list c.args.places.now _ c.requires c.loop-s.s-index (omega (arith, c.loop-s-test.false, c.requires.sites)) c.loop-s.invariant
