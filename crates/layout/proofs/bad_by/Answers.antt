-- `layout::bad_by` meets its contract. The invariant: whether a site passed is bad. Assumes nothing.
use Rattle.std.proofs.Common.{◌||◌, Bool, sym, ap, ap₂, ◌∙◌}
use Rattle.sets.proofs.Set.{any-start}
use Rattle.records.proofs.Records.{any_step}
use Rattle.held_state.specs.Held.{bad_site}
use Rattle.layout.proofs.bad_by.Goals as goal

pub loop-i-init : goal.loop-i-init
loop-i-init c = sym (any-start _)

pub loop-i-preserved : goal.loop-i-preserved
loop-i-preserved c =
    let l = c.loop-i in
    ap₂ (λ (x y : Bool). x || y) l.invariant (c.is_bad-bad.ensures ∙ ap bad_site c.site_at.ensures) ∙ sym (any_step _ l.i)
