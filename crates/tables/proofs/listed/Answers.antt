-- `tables::listed` meets its contract. The invariant: the set has the depots with crews in the roll and those that the sites passed name. Assumes nothing.
use mathlib.Core.Path.{◌∙◌}
use Prim.Native.Nat.{◌<◌}
use native.Mathlib.Omega.{arith}
use lib.Seq.{get_or-take}
use Rattle.density.specs.Network.{no_site, enrolled}
use Rattle.records.specs.Values.{roll_in}
use Rattle.tables.proofs.Sites.{site-small, named_start, named_more, named_end}
use borrow.Author.Rules.{rules}
use Rattle.tables.proofs.listed.Goals as goal

pub loop-s-init : goal.loop-s-init
loop-s-init c = named_start (enrolled (roll_in c.args.list.roll)) c.args.list.sites _ c.enrolled-set.ensures

pub name-set-requires : goal.name-set-requires
name-set-requires c =
    let list = c.args.list in
    let i = c.loop-s.s-index in
    let few : i < list.count = omega (arith, c.loop-s-test.true, c.requires.0) in
    rw (get_or-take list.count list.sites i no_site few) (site-small list (search rules) c.requires.0 c.requires.1 i few)

pub loop-s-preserved : goal.loop-s-preserved
loop-s-preserved c =
    let list = c.args.list in
    let i = c.loop-s.s-index in
    let few : i < list.count = omega (arith, c.loop-s-test.true, c.requires.0) in
    c.name-set.ensures ∙ rw (get_or-take list.count list.sites i no_site few) (named_more (enrolled (roll_in list.roll)) list.sites i _ c.loop-s.invariant)

pub returns : goal.returns
returns c = c.loop-s.invariant ∙ named_end c.args.list (search rules) c.requires.0 c.loop-s.s-index (omega (arith, c.loop-s-test.false, c.requires.0))
