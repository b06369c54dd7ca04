-- `residual::reverse` meets its contract. Assumes nothing.
use mathlib.Core.Path.{sym}
use native.Mathlib.Omega.{arith}
use Rattle.residual.proofs.Laws.{reverse-first, reverse-second}
use Rattle.residual.proofs.reverse.Goals as goal

pub returns-then-j-lt512 : goal.returns-then-j-lt512
returns-then-j-lt512 c = (sym (reverse-first _ c.if-j-lt512.true), omega arith)

pub returns : goal.returns
returns c = (sym (reverse-second _ c.if-j-lt512.false), omega arith)
