-- `held_state::is_any_bad` meets its contract. The invariant: no site passed is bad. Assumes nothing.
use mathlib.Core.Path.{◌≡◌, sym, ap, ◌∙◌}
use Prim.Native.Nat.{◌<◌}
use native.Mathlib.Omega.{arith}
use lib.ListN.{length, take}
use lib.Seq.{get_or-take, length-take-le}
use Rattle.sets.specs.Sum.{any}
use Rattle.sets.proofs.Set.{any-start, any-more, any_here}
use Rattle.density.specs.Network.{no_site}
use borrow.Author.Rules.{rules}
use Rattle.held_state.proofs.is_any_bad.Goals as goal

pub loop-x-init : goal.loop-x-init
loop-x-init c = any-start _

pub returns-then-is_bad : goal.returns-then-is_bad
returns-then-is_bad c =
    let i = c.loop-x.x-index in
    let wide : length c.args.sites ≡ 512 = search rules in
    let all : length (take c.args.n c.args.sites) ≡ c.args.n = length-take-le c.args.n c.args.sites (omega (arith, wide, c.requires)) in
    let few : i < c.args.n = omega (arith, c.loop-x-test.true, all) in
    sym (any_here _ _ i few (sym (rw (get_or-take c.args.n c.args.sites i no_site few) at c.is_bad.ensures) ∙ c.if-is_bad.true))

pub loop-x-preserved : goal.loop-x-preserved
loop-x-preserved c =
    let i = c.loop-x.x-index in
    let wide : length c.args.sites ≡ 512 = search rules in
    let all : length (take c.args.n c.args.sites) ≡ c.args.n = length-take-le c.args.n c.args.sites (omega (arith, wide, c.requires)) in
    let few : i < c.args.n = omega (arith, c.loop-x-test.true, all) in
    any-more _ i c.loop-x.invariant (sym (rw (get_or-take c.args.n c.args.sites i no_site few) at c.is_bad.ensures) ∙ c.if-is_bad.false)

pub returns : goal.returns
returns c =
    let wide : length c.args.sites ≡ 512 = search rules in
    let all : length (take c.args.n c.args.sites) ≡ c.args.n = length-take-le c.args.n c.args.sites (omega (arith, wide, c.requires)) in
    let e : c.args.n ≡ c.loop-x.x-index = omega (arith, c.loop-x-test.false, all) in
    sym (ap (any _) e ∙ c.loop-x.invariant)
