-- `store_entries2::call_on2` meets its contract: the front of the array was lent to the call, and what stands behind it keeps its content. Assumes nothing.
use Rattle.std.proofs.Common.{◌≡◌, List, length, arith, ap, ◌∙◌}
use lib.Seq.{length-take-le}
use Rattle.store.specs.State.{step}
use Rattle.density.specs.declared.Site.{Site}
use Rattle.table.proofs.LentFirst.{lent-first}
use Rattle.store_entries2.specs.Edition2.{view2, call_of2, turned2}
use Rattle.store_entries2.proofs.call_on2.Goals as goal

pub returns : goal.returns
returns c =
    let few = c.places_on-few.result in
    let long : length c.args.table ≡ 600 = omega arith in
    let kept : length c.call2-out.new.table ≡ few = omega (arith, c.places_on-few.ensures, c.call2-out.auto.table, length-take-le few c.args.table (omega (arith, c.places_on-few.ensures))) in
    let laid = lent-first c.args.places few c.args.table c.call2-out.new.table c.places_on-few.ensures long kept in (
      c.call2-out.ensures.0,
      ap (λ (l : List Site). turned2 c.call2-out.result l c.call2-out.new.buffer) laid.1 ∙ c.call2-out.ensures.1
          ∙ ap (λ (l : List Site). step (view2 c.args.store l) (call_of2 c.args.request c.args.input.now c.args.buffer.now)) laid.0,
      laid.2,
    )
