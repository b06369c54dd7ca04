-- `layout_put::put_numbers` meets its contract. The invariant: the numbers passed stand at the front. Assumes nothing.
use Rattle.std.proofs.Common.{◌≡◌, length, refl, ◌∙◌, arith, add-one}
use mathlib.Core.List.{flat_map}
use native.Mathlib.Nat.{mul-suc}
use lib.Seq.{take-length}
use Rattle.records.specs.Bytes.{le}
use Rattle.records.proofs.Bytes.{length-le}
use Rattle.records.proofs.Records.{mul-room}
use Rattle.records.proofs.Buffers.{run_step}
use Rattle.layout_put.proofs.put_numbers.Goals as goal

pub loop-x-init : goal.loop-x-init
unfolding flat_map
loop-x-init c = (omega arith, refl, refl)

pub number_at-requires : goal.number_at-requires
number_at-requires c = omega (arith, mul-room c.args.w c.loop-x-test.true)

pub overflow_add-at : goal.overflow_add-at
overflow_add-at c = omega (arith, mul-room c.args.w c.loop-x-test.true)

pub loop-x-preserved : goal.loop-x-preserved
loop-x-preserved c =
    let l = c.loop-x in
    let a = c.args in (
      rw (add-one, mul-suc) (omega (arith, l.invariant.0)),
      c.number_at.auto.out ∙ l.invariant.1,
      c.number_at.ensures ∙ rw (l.invariant.0, l.invariant.2) (run_step (le a.w) a.w (length-le a.w) a.xs.now a.out.now l.x-index 0 c.loop-x-test.true),
    )

pub returns : goal.returns
returns c =
    let l = c.loop-x in
    let e : l.x-index ≡ length c.args.xs.now = omega arith in
    rw (e, take-length) at l.invariant.2
