-- `records::roll::crews_at` meets its contract. Assumes nothing.
use mathlib.Core.Path.{◌≡◌, sym, ◌∙◌}
use native.Mathlib.Omega.{arith}
use borrow.Author.Tests.{not-true, not-false}
use lib.ListN.{length, get_or-eq_default}
use Rattle.records.proofs.Rolls.{of-roll}
use borrow.Author.Rules.{rules}
use Rattle.records.proofs.roll.crews_at.Goals as goal

pub returns-then-not-roll : goal.returns-then-not-roll
returns-then-not-roll c = sym (of-roll c.args.roll (not-true _ c.if-not-roll.true-raw) _)

pub returns-then-d-gt63 : goal.returns-then-d-gt63
returns-then-d-gt63 c = sym (of-roll c.args.roll (not-false _ c.if-not-roll.false-raw) _ ∙ get_or-eq_default c.args.roll.crews 0 (let w : length c.args.roll.crews ≡ 64 = search rules in omega arith))

pub returns : goal.returns
returns c = sym (of-roll c.args.roll (not-false _ c.if-not-roll.false-raw) _)
