-- `layout::numbers_by` meets its contract. The invariant: the numbers read stand over the places passed. Assumes nothing.
use Rattle.std.proofs.Common.{◌≡◌, ◌+◌, ◌*◌, ◌<◌, ℕ, List, length, take, drop, sym, refl, ap₂, ◌∙◌, arith, add-one}
use native.Mathlib.Nat.{mul-suc}
use lib.ListN.{set, length-set}
use Rattle.records.specs.Bytes.{Value}
use Rattle.table.proofs.Overlay.{overlay-none, overlay-next, overlay-all}
use Rattle.layout.specs.Layout.{numbers}
use Rattle.layout.proofs.Reading.{length-numbers}
use Rattle.layout.proofs.Places.{number-here}
use Rattle.layout.proofs.numbers_by.Goals as goal

pub loop-x-init : goal.loop-x-init
loop-x-init c = (omega arith, refl, sym (overlay-none _ _))

pub loop-x-preserved : goal.loop-x-preserved
loop-x-preserved c =
    let l = c.loop-x in
    let i = l.x-index in
    let a = c.args in
    let d = a.out.now in
    let xs = numbers a.w (length d) a.from a.s.now in
    let many = length-numbers a.w (length d) a.from a.s.now in
    let h : i < length d = omega (arith, c.loop-x-test.true, l.invariant.1) in
    let v : Value (take a.w (drop (a.from + a.w * i) a.s.now)) c.field.result = rw l.invariant.0 at c.field.ensures in (
      rw (add-one, mul-suc) (omega (arith, l.invariant.0)),
      simp length-set l.invariant.1,
      ap₂ (λ (o : List ℕ) (x : ℕ). set o i x) l.invariant.2 (number-here a.w a.from a.s.now h v) ∙ overlay-next xs d i 0 (omega (arith, h, many)) h,
    )

pub returns : goal.returns
returns c =
    let l = c.loop-x in
    let a = c.args in
    let d = a.out.now in
    let n : l.x-index ≡ length d = omega (arith, l.invariant.1) in
    l.invariant.2
    ∙ overlay-all (numbers a.w (length d) a.from a.s.now) d l.x-index (omega (arith, n, length-numbers a.w (length d) a.from a.s.now)) (omega (arith, n))
