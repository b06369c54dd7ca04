-- `readers::list::roll_of` meets its contract. Assumes nothing.
use mathlib.Core.Bool.{false}
use mathlib.Core.Path.{sym, ap, ◌∙◌}
use lib.Dec.{eqb→eq}
use Rattle.sets.proofs.Test.{and_r, passes}
use Rattle.records.specs.declared.RollArray.{RollArray}
use Rattle.readers.proofs.Heads.{roll-some, roll-none}
use Rattle.readers.proofs.list.roll_of.Goals as goal
use Rattle.readers.proofs.list.roll_of.Goals.{After-is_rolled, Start, Then-is_rolled}

pub roll_at-requires : goal.roll_at-requires
roll_at-requires c =
    let asked = (goal.at.roll_at-requires c).After-is_rolled in
    eqb→eq _ _ (and_r asked.args.e.roll _ (passes _ (sym asked.is_rolled.ensures ∙ c.if-is_rolled.true)))

pub returns-then-is_rolled : goal.returns-then-is_rolled
returns-then-is_rolled c =
    let branch = (goal.at.returns-then-is_rolled c).Then-is_rolled in
    let asked = (goal.at.Then-is_rolled branch).After-is_rolled in
    let s = (goal.at.After-is_rolled asked).Start in
    c.roll_at.ensures ∙ roll-some s.args.e s.args.s.now _ s.requires.2 (sym asked.is_rolled.ensures ∙ branch.if-is_rolled.true)

pub returns : goal.returns
returns c =
    let asked = (goal.at.returns c).After-is_rolled in
    let s = (goal.at.After-is_rolled asked).Start in
    ap (λ (k : RollArray). record { mark = false; roll = k }) c.no_roll-roll.ensures
    ∙ roll-none s.args.e s.args.s.now _ s.requires.2 (sym asked.is_rolled.ensures ∙ c.if-is_rolled.false)
