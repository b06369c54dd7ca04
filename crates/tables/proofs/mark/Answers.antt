-- `tables::mark` meets its contract. The invariant: once the depots left are marked too, all are. Assumes nothing.
use mathlib.Core.Path.{refl, sym, ap, ◌∙◌}
use mathlib.Core.Bool.{not}
use native.Mathlib.Omega.{arith}
use lib.ListN.{length-set}
use Rattle.tables.proofs.Marks.{mark-more, mark-end}
use Rattle.tables.proofs.mark.Goals as goal

pub loop-d-init : goal.loop-d-init
loop-d-init c = (c.requires, λ d l. rw (c.into_iter-d-iterator.ensures.into_iter_gives, c.depots-d-items.ensures) refl)

pub bounds-places-d : goal.bounds-places-d
bounds-places-d c = omega (arith, c.in-Some.ensures.steps.2, c.loop-d.invariant.0)

pub loop-d-preserved : goal.loop-d-preserved
loop-d-preserved c =
    let left = c.loop-d.d-iterator.left in
    let s = c.in-Some.ensures.steps in (
      length-set c.loop-d.places _ _ ∙ c.loop-d.invariant.0,
      λ d l. rw s.4 (mark-more left s.0 (ap not s.1) _ s.3 c.loop-d.places c.args.k d c.loop-d.invariant.0) ∙ c.loop-d.invariant.1 d l,
    )

pub shape_of-places : goal.shape_of-places
shape_of-places c = c.loop-d.invariant.0 ∙ sym c.requires

pub returns : goal.returns
returns c = λ d l.
    sym (mark-end c.loop-d.d-iterator.left c.in-None.ensures.steps.0 d c.args.k _ l) ∙ c.loop-d.invariant.1 d l
