-- `lines::group_line` meets its contract. Assumes nothing.
use Rattle.lines.proofs.Lines.{group-line-is}
use Rattle.lines.proofs.group_line.Goals as goal

pub returns : goal.returns
returns c = group-line-is c.args.x c.requires.1 c.args.k c.requires.0
