-- `commands::next` meets its contract. Assumes nothing.
use Rattle.std.proofs.Common.{sym, ◌∙◌, arith}
use borrow.Author.Tests.{eqb-true}
use Rattle.script.proofs.Words.{words-none, words-some}
use Rattle.commands.proofs.next.Goals as goal

pub returns-then-is_empty : goal.returns-then-is_empty
returns-then-is_empty c =
    words-none c.args.text.now _ c.word-word.ensures (eqb-true _ _ (sym c.is_empty.ensures ∙ c.if-is_empty.true))

pub returns : goal.returns
returns c =
    words-some c.args.text.now _ c.word-word.ensures _ c.rest.ensures (grind arith)
