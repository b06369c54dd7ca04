-- `store_calls::change_row` meets its contract. Assumes nothing.
use Rattle.store_calls.proofs.Rows.{change-litres, change-beyond, change-passes}
use Rattle.store_calls.proofs.change_row.Goals as goal
use Rattle.store_calls.proofs.change_row.Goals.{Start}

pub returns-then-w-eq0 : goal.returns-then-w-eq0
returns-then-w-eq0 c = λ b call n. let s = (goal.at.returns-then-w-eq0 c).Start in change-litres b call _ n s.args.i s.args.w c.if-w-eq0.true

pub returns-then-count-i : goal.returns-then-count-i
returns-then-count-i c = λ b call n. let s = (goal.at.returns-then-count-i c).Start in change-beyond b call _ n s.args.i s.args.w c.if-w-eq0.false c.if-count-i.true

pub returns : goal.returns
returns c = λ b call n. let s = (goal.at.returns c).Start in change-passes b call _ n s.args.i s.args.w c.if-w-eq0.false c.if-count-i.false
