-- `lent::put_new` meets its contract. Assumes nothing.
use Prim.Native.Nat.{ℕ, ◌<◌, ◌^◌}
use mathlib.Core.Bool.{Bool}
use mathlib.Core.Path.{◌≡◌, sym, ap, ◌∙◌}
use native.Mathlib.Omega.{arith}
use borrow.Author.Rules.{rules}
use borrow.Author.Tests.{not-true, not-false}
use lib.ListN.{length, get_or}
use Rattle.records.specs.Write.{place}
use Rattle.store.specs.State.{bare}
use Rattle.layout.specs.Layout.{front_size, roll_part, StoreFits}
use Rattle.layout_put.proofs.RoundTrip.{put_both, put_front}
use Rattle.layout_put.proofs.Places.{length-zeros, bare-fits}
use Rattle.lent.proofs.Served.{sized-is}
use Rattle.lent.proofs.put_new.Goals as goal
use Rattle.lent.proofs.put_new.Goals.{Start}

wide : (s : Start) → length s.args.roll.crews ≡ 64
wide s = search rules

fits : (s : Start) → let a = s.args in ((i : ℕ) → get_or (bare a.n a.roll).shares i 0 < 256 ^ a.e.share) → StoreFits a.e.share (bare a.n a.roll)
fits s = let a = s.args in bare-fits a.e.share a.n a.roll (omega arith)

pub returns-then-not-e : goal.returns-then-not-e
returns-then-not-e c =
    let a = c.args in
    put_front a.e.share a.e.roll (bare a.n a.roll) (length-zeros 64) (length-zeros 512) (fits (goal.at.returns-then-not-e c).Start) a.store.now
    (sized-is a.e a.store.now c.requires) (not-true a.e.roll c.if-not-e.true) (c.put_bare.ensures a.roll)

pub returns : goal.returns
returns c =
    let s = (goal.at.returns c).Start in
    let a = c.args in
    put_both a.e.share a.e.roll (bare a.n a.roll) (length-zeros 64) (length-zeros 512) (fits s) a.store.now (sized-is a.e a.store.now c.requires)
    (wide s) (c.put_bare.ensures a.roll)
    (c.put_roll.ensures ∙ sym (ap (λ (b : Bool). place (front_size a.e.share) (roll_part b a.roll) c.put_bare.new.out) (not-false a.e.roll c.if-not-e.false)))
