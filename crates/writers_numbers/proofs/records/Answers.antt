-- `writers_numbers::records` meets its contract. Assumes nothing.
use Prim.Native.Nat.{◌≤◌, ◌<◌, ◌+◌}
use mathlib.Core.Path.{◌≡◌, refl, ◌∙◌}
use mathlib.Core.List.{flat_map}
use native.Mathlib.Omega.{arith}
use lib.ListN.{length}
use lib.Seq.{take-length}
use native.Mathlib.Nat.{mul-suc}
use native.Mathlib.Numerals.{add-one}
use Rattle.records.proofs.Records.{mul-room}
use Rattle.records.specs.Write.{mark_bytes}
use Rattle.records.proofs.Buffers.{run_step, length-mark}
use Rattle.writers_numbers.proofs.records.Goals as goal
use Rattle.writers_numbers.proofs.records.Goals.{In-loop-x}

room : (c : In-loop-x) → c.loop-x.at + (2 + c.args.w) ≤ length c.loop-x.out
room c = omega (arith, mul-room (2 + c.args.w) c.loop-x-test.true)

pub loop-x-init : goal.loop-x-init
unfolding flat_map
loop-x-init c = (omega arith, refl, refl)

pub record_at-requires : goal.record_at-requires
record_at-requires c = room (goal.at.record_at-requires c).In-loop-x

pub overflow_add-at : goal.overflow_add-at
overflow_add-at c = omega (arith, room (goal.at.overflow_add-at c).In-loop-x)

pub overflow_add-at-in-loop-x : goal.overflow_add-at-in-loop-x
overflow_add-at-in-loop-x c = omega (arith, room (goal.at.overflow_add-at-in-loop-x c).In-loop-x)

pub loop-x-preserved : goal.loop-x-preserved
loop-x-preserved c =
    let l = c.loop-x in
    let a = c.args in
    let h : l.x-index < length a.xs.now = omega arith in (
      rw (add-one, mul-suc) (omega arith),
      c.record_at.auto.out ∙ l.invariant.1,
      c.record_at.ensures ∙ rw (l.invariant.0, l.invariant.2) (run_step (mark_bytes a.mark a.w) (2 + a.w) (length-mark a.mark a.w) a.xs.now a.out.now l.x-index 0 h),
    )

pub shape_of-out : goal.shape_of-out
shape_of-out c = c.loop-x.invariant.1

pub returns : goal.returns
returns c =
    let l = c.loop-x in
    let e : l.x-index ≡ length c.args.xs.now = omega arith in
    rw (e, take-length) at l.invariant.2
