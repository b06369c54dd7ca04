-- `writers::roll_size` meets its contract. Assumes nothing.
use mathlib.Core.Path.{sym}
use native.Mathlib.Omega.{arith}
use Rattle.records.proofs.Rolls.{roll-bytes}
use borrow.Author.Rules.{rules}
use Rattle.writers.proofs.roll_size.Goals as goal

pub returns-then-k : goal.returns-then-k
returns-then-k c = (λ e. sym (roll-bytes e c.args.k c.if-k.true (search rules)), omega arith)
