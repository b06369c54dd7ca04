-- `lay_on::lay_on` meets its contract. Assumes nothing.
use mathlib.Core.Path.{◌∙◌, ap}
use native.Mathlib.Omega.{arith}
use lib.ListN.{length-set}
use Rattle.residual.specs.Array.{total_load}
use Rattle.lay_on.proofs.Laws.{part-most, raise-total}
use Rattle.lay_on.proofs.lay_on.Goals as goal

pub add_to-requires-2 : goal.add_to-requires-2
add_to-requires-2 c = (
  c.requires.i_bound.2,
  rw c.add_to.ensures (simp length-set c.requires.share_len.1),
  omega (
    arith,
    part-most c.args.inside c.args.t c.part-first.ensures,
    ap total_load c.add_to.ensures ∙ raise-total c.args.load.now c.args.x c.part-first.result c.requires.share_len.1 c.requires.i_bound.1,
    c.requires.share_len.2,
  ),
)
