-- `store_calls::share_told` meets its contract. Assumes nothing.
use mathlib.Core.Path.{sym}
use borrow.Author.Tests.{le-leb, lt-leb}
use Rattle.store_calls.proofs.share_told.Goals as goal
use Rattle.store_calls.proofs.share_told.Goals.{Else-count-i, Start}

pub returns-then-count-i : goal.returns-then-count-i
returns-then-count-i c = let s = (goal.at.returns-then-count-i c).Start in sym (rw (le-leb s.args.count s.args.i c.if-count-i.true))

pub returns : goal.returns
returns c =
    let left = (goal.at.returns c).Else-count-i in
    let s = (goal.at.Else-count-i left).Start in
    sym (rw (lt-leb s.args.count s.args.i left.if-count-i.false))
