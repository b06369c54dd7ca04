-- `converter::any_outside` meets its contract. The invariant: no site passed is outside. Assumes nothing.
use mathlib.Core.Path.{◌≡◌, sym, ap, ◌∙◌}
use native.Mathlib.Omega.{arith}
use lib.ListN.{length}
use Rattle.sets.specs.Sum.{any}
use Rattle.sets.proofs.Set.{any-start, any-more, any_here}
use Rattle.records.specs.Values.{listing}
use Rattle.converter.specs.Convert.{outside}
use Rattle.converter.proofs.any_outside.Goals as goal

pub loop-x-init : goal.loop-x-init
loop-x-init c = any-start _

pub returns-then-is_outside : goal.returns-then-is_outside
unfolding outside
returns-then-is_outside c = sym (any_here _ _ c.loop-x.x-index c.loop-x-test.true (sym c.is_outside.ensures ∙ c.if-is_outside.true))

pub loop-x-preserved : goal.loop-x-preserved
loop-x-preserved c = any-more _ c.loop-x.x-index c.loop-x.invariant (sym c.is_outside.ensures ∙ c.if-is_outside.false)

pub returns : goal.returns
unfolding outside
returns c =
    let e : length (listing c.args.list).sites ≡ c.loop-x.x-index = omega arith in
    sym (ap (any _) e ∙ c.loop-x.invariant)
