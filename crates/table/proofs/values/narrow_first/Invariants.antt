use mathlib.Core.List.{map}
use lib.ListN.{take, replicate}
use Rattle.table.specs.Widths.{no_site1, narrowed, LitresFit}
use Rattle.table.proofs.Copies.{Copied}
use Rattle.table.proofs.values.narrow_first.Given as goal

abbrev pub invariant-loop-i : goal.invariant-loop-i
invariant-loop-i l = Copied (LitresFit (take l.n l.fn.sites)) l.n (map narrowed l.fn.sites) (replicate 512 no_site1) l.a l.i
