-- `tables::sizes` meets its contract. The invariant: the places passed hold q of their groups, in any network whose crews the weights are. Assumes nothing.
use native.Mathlib.Omega.{arith}
use Rattle.density.specs.Network.{network}
use Rattle.tables.proofs.Groups.{crews-net, crews-few, sizes-more}
use borrow.Author.Rules.{rules}
use Rattle.tables.proofs.sizes.Goals as goal

pub weight-requires-clause-weights_len : goal.weight-requires-clause-weights_len
weight-requires-clause-weights_len c = (search rules, crews-few c.args.roll c.crews-weights.result c.crews-weights.ensures c.requires.0)

pub loop-k-preserved : goal.loop-k-preserved
loop-k-preserved c = (search rules, sizes-more c.crews-weights.result c.args.groups.now c.loop-k.r c.loop-k.k _ c.loop-k.invariant.1 (omega arith) c.weight.ensures)

pub returns : goal.returns
returns c = λ g e k n. c.loop-k.invariant.1 (network g) (crews-net g _ c.crews-weights.result e c.crews-weights.ensures) k (omega arith)
