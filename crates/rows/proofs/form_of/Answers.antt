-- `rows::form_of` meets its contract. Assumes nothing.
use mathlib.Core.Path.{◌≡◌, sym, ◌∙◌}
use mathlib.Core.Bool.{true, false}
use Rattle.density.specs.Rows.{first_row, groups_meet}
use borrow.Author.Tests.{ne_eqb, eq-eqb}
use Rattle.rows.proofs.form_of.Goals as goal

pub returns-then-groups_meet : goal.returns-then-groups_meet
unfolding first_row
returns-then-groups_meet c =
    let m : groups_meet c.args.groups.now ≡ true = sym c.groups_meet.ensures ∙ c.if-groups_meet.true in
    rw m

pub returns-then-union-listed : goal.returns-then-union-listed
unfolding first_row
returns-then-union-listed c =
    let m : groups_meet c.args.groups.now ≡ false = sym c.groups_meet.ensures ∙ c.if-groups_meet.false in
    rw (m, ← c.union.ensures, ne_eqb _ _ c.if-union-listed.true)

pub returns-then-broken : goal.returns-then-broken
unfolding first_row
returns-then-broken c =
    let m : groups_meet c.args.groups.now ≡ false = sym c.groups_meet.ensures ∙ c.if-groups_meet.false in
    rw (m, ← c.union.ensures, eq-eqb _ _ c.if-union-listed.false, c.if-broken.true)

pub returns : goal.returns
unfolding first_row
returns c =
    let m : groups_meet c.args.groups.now ≡ false = sym c.groups_meet.ensures ∙ c.if-groups_meet.false in
    rw (m, ← c.union.ensures, eq-eqb _ _ c.if-union-listed.false, c.if-broken.false)
