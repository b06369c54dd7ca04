-- `records::roll::is_above` meets its contract. The invariant: no byte passed is above 9. Assumes nothing.
use mathlib.Core.Path.{◌≡◌, sym, ap, ◌∙◌}
use native.Mathlib.Omega.{arith}
use borrow.Author.Tests.{lt-ltb, le-ltb, not-true}
use lib.Dec.{ltb}
use Rattle.sets.specs.Sum.{any}
use Rattle.sets.proofs.Set.{any-start, any-more, any_here}
use Rattle.density.specs.Network.{crews_above}
use Rattle.records.proofs.Rolls.{none_above}
use borrow.Author.Rules.{rules}
use Rattle.records.proofs.roll.is_above.Goals as goal

pub returns-then-not-roll : goal.returns-then-not-roll
returns-then-not-roll c = sym (none_above c.args.roll (not-true _ c.if-not-roll.true))

pub loop-d-init : goal.loop-d-init
loop-d-init c = (search rules, any-start _)

pub returns-then-crews_at-gt9 : goal.returns-then-crews_at-gt9
unfolding crews_above
returns-then-crews_at-gt9 c = sym (any_here _ 64 c.loop-d.d c.loop-d-test.true (sym (ap (ltb 9) c.crews_at.ensures) ∙ lt-ltb _ _ c.if-crews_at-gt9.true))

pub loop-d-preserved : goal.loop-d-preserved
loop-d-preserved c = (search rules, any-more _ c.loop-d.d c.loop-d.invariant.1 (sym (ap (ltb 9) c.crews_at.ensures) ∙ le-ltb _ _ c.if-crews_at-gt9.false))

pub returns : goal.returns
unfolding crews_above
returns c = let e : c.loop-d.d ≡ 64 = omega arith in sym (sym (ap (any _) e) ∙ c.loop-d.invariant.1)
