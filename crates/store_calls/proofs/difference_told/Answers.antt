-- `store_calls::difference_told` meets its contract. Assumes nothing.
use mathlib.Core.Path.{sym, ap₂, ◌∙◌}
use Prim.Native.Nat.{ℕ}
use borrow.Author.Rules.{rules}
use borrow.Author.Tests.{not-true, not-false}
use lib.IntN.{ℤ}
use mir.Syntax.{w64}
use mir.Val.{SFits}
use mir.ValLaws.{to_z-of_z}
use Rattle.sets.proofs.Test.{passes}
use Rattle.std.specs.declared.result.Result.{Result}
use Rattle.std.specs.declared.result.Result.TheVariants.{Ok}
use Rattle.records.specs.declared.refusal.Refusal.{Refusal}
use Rattle.store.specs.declared.Answer.{Answer}
use Rattle.store.specs.declared.Answer.TheVariants as of
use Rattle.store_calls.proofs.Questions.{kept-has}
use Rattle.store_calls.proofs.difference_told.Goals as goal
use Rattle.store_calls.proofs.difference_told.Goals.{Else-not-contains, Else-not-contains-2, Start}

-- a difference, answered
abbrev told-of : ℤ → ℕ → Result Answer Refusal
told-of z n = Ok (of.Difference z n)

pub returns-then-not-contains : goal.returns-then-not-contains
returns-then-not-contains c = λ list plan ws k.
    let s = (goal.at.returns-then-not-contains c).Start in
    sym (rw (sym (kept-has k s.args.a) ∙ sym c.contains.ensures ∙ not-true _ c.if-not-contains.true-raw))

pub returns-then-not-contains-2 : goal.returns-then-not-contains-2
returns-then-not-contains-2 c = λ list plan ws k.
    let first = (goal.at.returns-then-not-contains-2 c).Else-not-contains in
    let s = (goal.at.Else-not-contains first).Start in
    sym
    (rw (
      sym (kept-has k s.args.a) ∙ sym first.contains.ensures ∙ not-false _ first.if-not-contains.false-raw,
      sym (kept-has k s.args.b) ∙ sym c.contains-2.ensures ∙ not-true _ c.if-not-contains-2.true-raw,
    ))

pub difference_of-x-requires : goal.difference_of-x-requires
difference_of-x-requires c =
    let first = (goal.at.difference_of-x-requires c).Else-not-contains in
    let s = (goal.at.Else-not-contains first).Start in (
      s.requires,
      passes _ (sym first.contains.ensures ∙ not-false _ first.if-not-contains.false-raw),
      passes _ (sym c.contains-2.ensures ∙ not-false _ c.if-not-contains-2.false-raw),
    )

pub returns : goal.returns
returns c = λ list plan ws k.
    let second = (goal.at.returns c).Else-not-contains-2 in
    let first = (goal.at.Else-not-contains-2 second).Else-not-contains in
    let s = (goal.at.Else-not-contains first).Start in
    let x = c.difference_of-x.ensures list plan ws k in
    let fits : SFits w64 c.difference_of-x.result.value = search rules in
    ap₂ (λ (z : ℤ) (n : ℕ). told-of z n) (to_z-of_z w64 _ fits ∙ x.0) x.1
    ∙ sym
    (rw (
      sym (kept-has k s.args.a) ∙ sym first.contains.ensures ∙ not-false _ first.if-not-contains.false-raw,
      sym (kept-has k s.args.b) ∙ sym second.contains-2.ensures ∙ not-false _ second.if-not-contains-2.false-raw,
    ))
