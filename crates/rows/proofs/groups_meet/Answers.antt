-- `rows::groups_meet` meets its contract. The invariant: no group passed is empty or meets an earlier one, and what was seen are their depots. Assumes nothing.
use mathlib.Core.Path.{sym, ◌∙◌}
use native.Mathlib.Omega.{arith}
use Rattle.sets.proofs.Set.{any-start, any-more}
use Rattle.tables.proofs.Groups.{before-start, before_more, meets_at, meets-is, meet-here, meet-none}
use Rattle.rows.proofs.groups_meet.Goals as goal

pub loop-group-init : goal.loop-group-init
loop-group-init c = (any-start _, before-start c.args.groups.now)

pub returns-then-meets : goal.returns-then-meets
returns-then-meets c =
    let gs = c.args.groups.now in
    let l = c.loop-group in
    let k = l.group-index in
    sym (meet-here gs k c.loop-group-test.true (sym (meets-is gs k l.seen l.invariant.1) ∙ sym c.meets.ensures ∙ c.if-meets.true))

pub loop-group-preserved : goal.loop-group-preserved
loop-group-preserved c =
    let gs = c.args.groups.now in
    let l = c.loop-group in
    let k = l.group-index in (
      any-more (meets_at gs) k l.invariant.0 (sym (meets-is gs k l.seen l.invariant.1) ∙ sym c.meets.ensures ∙ c.if-meets.false),
      c.union-seen.ensures ∙ before_more gs k l.seen c.loop-group-test.true l.invariant.1,
    )

pub returns : goal.returns
returns c = sym (meet-none c.args.groups.now c.loop-group.group-index (omega arith) c.loop-group.invariant.0)
