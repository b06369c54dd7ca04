-- `records::roll::bytes_at` meets its contract. The invariant: the places passed hold the bytes from the place on. Assumes nothing.
use Prim.Native.Nat.{ℕ, ◌+◌, ◌-◌, ◌≤◌, ◌<◌}
use mathlib.Core.Path.{◌≡◌, refl, ap, ◌∙◌}
use mathlib.Core.List.{List, ◌++◌, append-nil}
use native.Mathlib.Omega.{arith}
use lib.ListN.{length, take, drop, get_or, set, replicate, length-drop}
use lib.Seq.{get_or-drop}
use Rattle.records.proofs.Records.{fill_step}
use borrow.Author.Rules.{rules}
use Rattle.records.proofs.roll.bytes_at.Invariants.{Copied}
use Rattle.records.proofs.roll.bytes_at.Goals as goal
use Rattle.records.proofs.roll.bytes_at.Goals.{At-loop-d}

-- one more of them, and all
more : (s : List ℕ) (at d : ℕ) {crews : List ℕ} → at + 64 ≤ length s → d < 64 → Copied s at d crews → Copied s at (d + 1) (set crews d (get_or s (at + d) 0))
more s at d h l e = rw (e, ← (get_or-drop at s d 0)) (fill_step (drop at s) d 64 0 0 (rw length-drop (omega arith)) l)

whole : (s : List ℕ) (at d : ℕ) {crews : List ℕ} → d ≡ 64 → Copied s at d crews → crews ≡ take 64 (drop at s)
whole s at d z e = e ∙ ap (λ n. take n (drop at s) ++ replicate (64 - n) 0) z ∙ append-nil _

pub loop-d-init : goal.loop-d-init
loop-d-init c = (search rules, refl)

pub loop-d-preserved : goal.loop-d-preserved
loop-d-preserved c =
    let turn = (goal.at.loop-d-preserved c).At-loop-d in
    (search rules, more turn.args.s.now turn.args.at turn.loop-d.d turn.requires c.loop-d-test.true turn.loop-d.invariant.1)

pub returns : goal.returns
returns c =
    let turn = (goal.at.returns c).At-loop-d in
    whole turn.args.s.now turn.args.at turn.loop-d.d (omega (arith, turn.loop-d.invariant.0, c.loop-d-test.false)) turn.loop-d.invariant.1
