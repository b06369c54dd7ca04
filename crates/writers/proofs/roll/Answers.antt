-- `writers::roll` meets its contract: the mark and then the bytes, or nothing. Assumes nothing.
use Prim.Native.Nat.{ℕ, ◌+◌, ◌≤◌}
use mathlib.Core.List.{List}
use mathlib.Core.Path.{◌≡◌, sym, ap, ◌∙◌}
use native.Mathlib.Omega.{arith}
use borrow.Author.Tests.{not-true, not-false}
use lib.ListN.{length}
use Rattle.records.specs.Bytes.{le}
use Rattle.records.specs.Write.{place}
use Rattle.records.proofs.Bytes.{length-le}
use Rattle.records.proofs.Buffers.{place-place}
use Rattle.records.proofs.Rolls.{bare-bytes, full-bytes, roll-bytes}
use Rattle.writers_numbers.proofs.Copies.{place_none}
use borrow.Author.Rules.{rules}
use Rattle.writers.proofs.roll.Goals as goal
use Rattle.writers.proofs.roll.Goals.{After-crews, After-number_at, After-slice_known-2-1, Else-not-k, Start}

-- where there is a roll
abbrev start : Else-not-k → Start
start c = (goal.at.Else-not-k c).Start

wide : (s : Start) → length s.args.k.crews ≡ 64
wide s = search rules

long : (c : Else-not-k) → (start c).args.at + 66 ≤ length (start c).args.out.now
long c =
    let s = start c in
    omega (arith, s.requires, roll-bytes s.args.e s.args.k (not-false _ c.if-not-k.false) (wide s))

pub returns-then-not-k : goal.returns-then-not-k
returns-then-not-k c =
    let s = (goal.at.returns-then-not-k c).Start in
    sym (ap (λ (p : List ℕ). place s.args.at p s.args.out.now) (bare-bytes s.args.e s.args.k (not-true _ c.if-not-k.true)) ∙ place_none s.args.at s.args.out.now)

pub number_at-requires : goal.number_at-requires
number_at-requires c = omega (arith, long (goal.at.number_at-requires c).Else-not-k)

pub crews-requires : goal.crews-requires
crews-requires c =
    let marked = (goal.at.crews-requires c).After-number_at in
    omega (arith, long (goal.at.After-number_at marked).Else-not-k, marked.number_at.auto.out)

pub returns : goal.returns
returns c =
    let done = (goal.at.returns c).After-crews in
    let marked = (goal.at.After-crews done).After-number_at in
    let there = (goal.at.After-number_at marked).Else-not-k in
    let s = start there in
    let mark = le 2 s.args.e.mark.roll in
    done.crews.ensures
    ∙ ap (place (s.args.at + 2) s.args.k.crews) marked.number_at.ensures
    ∙ place-place s.args.at 2 mark s.args.k.crews s.args.out.now (omega (arith, long there)) (length-le 2 s.args.e.mark.roll)
    ∙ sym (ap (λ (p : List ℕ). place s.args.at p s.args.out.now) (full-bytes s.args.e s.args.k (not-false _ there.if-not-k.false)))
