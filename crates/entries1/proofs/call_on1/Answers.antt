-- `entries1::call_on1` meets its contract: the front of the array was lent to the call, and what stands behind it keeps its content. Assumes nothing.
use Rattle.std.proofs.Common.{◌≡◌, List, length, arith, ap, ◌∙◌}
use lib.Seq.{length-take-le}
use Rattle.store.specs.State.{step}
use Rattle.table.specs.declared.Site1.{Site1}
use Rattle.table.proofs.LentFirst.{lent-first}
use Rattle.edition1.specs.Edition1.{view1, call_of1, turned1}
use Rattle.entries1.proofs.call_on1.Goals as goal

pub returns : goal.returns
returns c =
    let few = c.places_on-few.result in
    let long : length c.args.table ≡ 600 = omega arith in
    let kept : length c.call1-out.new.table ≡ few = omega (arith, c.places_on-few.ensures, c.call1-out.auto.table, length-take-le few c.args.table (omega (arith, c.places_on-few.ensures))) in
    let laid = lent-first c.args.places few c.args.table c.call1-out.new.table c.places_on-few.ensures long kept in (
      c.call1-out.ensures.0,
      ap (λ (l : List Site1). turned1 c.call1-out.result l c.call1-out.new.buffer) laid.1 ∙ c.call1-out.ensures.1
          ∙ ap (λ (l : List Site1). step (view1 c.args.store l) (call_of1 c.args.request c.args.input.now c.args.buffer.now)) laid.0,
      laid.2,
    )
