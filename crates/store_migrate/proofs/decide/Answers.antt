-- `store_migrate::decide` meets its contract. Assumes nothing.
use mathlib.Core.Path.{◌≡◌, subst}
use mathlib.Core.Bool.{false}
use mathlib.Core.List.{List}
use lib.ListN.{length}
use Rattle.density.specs.declared.Site.{Site}
use Rattle.held_state.specs.declared.Store.{Store}
use Rattle.store.specs.declared.Decision.{Decision}
use Rattle.serve.proofs.ServeRules.{Zero}
use Rattle.store_migrate.specs.Migrate.{Decided}
use Rattle.store_migrate.proofs.Moving.{Moves, moves-zero, moves-refused, carry-asks, moves-done, decides}
use borrow.Author.Rules.{rules}
use Rattle.store_migrate.proofs.decide.Goals as goal
use Rattle.store_migrate.proofs.decide.Goals.{After-migrate_row, After-row_zero, Else-row_zero, In-Err, In_default, Start}

-- the start, and what the store and the sites are widened to, from where row 0 has been tried
abbrev start : After-row_zero → Start
start c = (goal.at.After-row_zero c).Start

abbrev wide : After-row_zero → Store
wide c = c.from-wide.result

abbrev all : After-row_zero → List Site
all c = c.widen_all-all.result

-- a decision on these is one on what they were widened from
of-widened : (c : After-row_zero) {d : Decision} → let a = c.args in Moves (wide c) (all c) a.places a.room d
    → Decided a.store a.sites a.places a.room d
of-widened c = let a = c.args in decides a.store a.sites a.places a.room c.from-wide.ensures.0 c.widen_all-all.ensures.0

-- where row 0 does not apply
sound : (c : Else-row_zero) → let k = (goal.at.Else-row_zero c).After-row_zero in Zero (wide k) (all k) k.args.places false
sound c = let k = (goal.at.Else-row_zero c).After-row_zero in subst (Zero (wide k) (all k) k.args.places) c.if-row_zero.false k.row_zero.ensures

sized : (c : Else-row_zero) → length (all (goal.at.Else-row_zero c).After-row_zero) ≡ 512
sized c = search rules

pub returns-then-row_zero : goal.returns-then-row_zero
returns-then-row_zero c =
    let k = (goal.at.returns-then-row_zero c).After-row_zero in
    let a = k.args in
    of-widened k
    (moves-zero (wide k) (all k) a.places a.room (subst (Zero (wide k) (all k) a.places) c.if-row_zero.true k.row_zero.ensures) _ c.refuse.ensures)

pub returns-in-Err : goal.returns-in-Err
returns-in-Err c =
    let v = (goal.at.returns-in-Err c).In-Err in
    let r = v in
    let k = r in
    let a = k.args in
    let row = c.in-Err.ensures in
    of-widened (goal.at.In-Err k).After-row_zero (moves-refused (wide (goal.at.In-Err k).After-row_zero) (all (goal.at.In-Err k).After-row_zero) a.places a.room (sized (goal.at.In-Err r).Else-row_zero) (sound (goal.at.In-Err r).Else-row_zero) _ row _ c.refuse-in-Err.ensures)

pub carry-requires : goal.carry-requires
carry-requires c =
    let z = (goal.at.carry-requires c).Else-row_zero in
    let k = (goal.at.Else-row_zero z).After-row_zero in
    let a = k.args in
    carry-asks (wide k) (all k) a.places a.room (sized z) (sound z)

pub returns : goal.returns
returns c =
    let v = (goal.at.returns c).In_default in
    let r = (goal.at.In_default v).After-migrate_row in
    let k = (goal.at.After-migrate_row r).After-row_zero in
    let a = k.args in
    let row = v.in_default.ensures in
    of-widened k (moves-done (wide k) (all k) a.places a.room (sized (goal.at.After-migrate_row r).Else-row_zero) (sound (goal.at.After-migrate_row r).Else-row_zero) row c.carry.ensures)
