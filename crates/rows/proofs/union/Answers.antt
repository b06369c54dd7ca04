-- `rows::union` meets its contract. The invariant: what was seen are the depots of the groups passed. Assumes nothing.
use mathlib.Core.Path.{◌∙◌}
use Rattle.tables.proofs.Groups.{before-start, before_more}
use Rattle.rows.proofs.union.Goals as goal

pub loop-group-init : goal.loop-group-init
loop-group-init c = before-start c.args.groups.now

pub loop-group-preserved : goal.loop-group-preserved
loop-group-preserved c = c.union-seen.ensures ∙ before_more c.args.groups.now c.loop-group.group-index _ c.loop-group-test.true c.loop-group.invariant
