-- `held_state::examine` meets its contract. Assumes nothing.
use mathlib.Core.Path.{◌≡◌, sym, ◌∙◌}
use mathlib.Core.Bool.{false}
use lib.ListN.{length}
use borrow.Author.Tests.{not-true, not-false}
use borrow.Author.Rules.{rules}
use Rattle.tables.specs.Tables.{lent_plan}
use Rattle.held_state.proofs.Zero.{far, near, above, Sound, counted, examined-far, examined-bad, examined-above, examined-lacking, examined-none, examined-many, examined-refused, examined-plan}
use Rattle.held_state.proofs.examine.Goals as goal
use Rattle.held_state.proofs.examine.Goals.{After-is_above, After-is_any_uncrewed, After-try_form, Else-lacks_room, Else-is_above, Else-is_any_uncrewed, Else-known, Else-known-gt-MOST_GROUPS, Else-not-known, Start}

-- the start, from where there is room for the sites
abbrev start : Else-lacks_room → Start
start p = (goal.at.Else-lacks_room p).Start

roomy : (p : Else-lacks_room) → let s = (goal.at.Else-lacks_room p).Start in far s.args.list s.args.known ≡ false
roomy p = sym p.lacks_room.ensures ∙ p.if-lacks_room.false

-- where row 22 does not refuse the roll: back to where rows 5 and 6 refuse no site
abbrev good : Else-is_above → Else-known
good p = (goal.at.Else-is_above p).Else-known

rolled : (p : Else-is_above) → above p.args.list ≡ false
rolled p = sym p.is_above.ensures ∙ p.if-is_above.false

-- where row 23 refuses no site: back to where row 22 does not refuse the roll, and to where there is room for the sites
abbrev few : Else-is_any_uncrewed → Else-is_above
few p = (goal.at.Else-is_any_uncrewed p).Else-is_above

abbrev room : Else-is_any_uncrewed → Else-lacks_room
room p = (goal.at.Else-is_any_uncrewed p).Else-lacks_room

sound : (p : Else-is_any_uncrewed) → let s = (goal.at.Else-is_any_uncrewed p).Start in Sound s.args.list s.args.known
sound p = (p.if-known.false, rolled (goal.at.Else-is_any_uncrewed p).Else-is_above, sym p.is_any_uncrewed.ensures ∙ p.if-is_any_uncrewed.false)

pub returns-then-lacks_room : goal.returns-then-lacks_room
returns-then-lacks_room c =
    let s = (goal.at.returns-then-lacks_room c).Start in
    examined-far s.args.list s.args.known _ _ _ (sym c.lacks_room.ensures ∙ c.if-lacks_room.true)

pub returns-then-known : goal.returns-then-known
returns-then-known c =
    let p = (goal.at.returns-then-known c).Else-lacks_room in
    let s = (goal.at.Else-lacks_room p).Start in
    examined-bad s.args.list s.args.known _ _ _ s.requires.3 (roomy p) c.if-known.true

pub returns-then-is_above : goal.returns-then-is_above
returns-then-is_above c =
    let tried = (goal.at.returns-then-is_above c).After-is_above in
    let sites = (goal.at.After-is_above tried).Else-known in
    let p = (goal.at.Else-known sites).Else-lacks_room in
    let s = (goal.at.Else-lacks_room p).Start in
    examined-above s.args.list s.args.known _ _ _ s.requires.3 (roomy p) sites.if-known.false (sym tried.is_above.ensures ∙ c.if-is_above.true)

pub is_any_uncrewed-requires : goal.is_any_uncrewed-requires
is_any_uncrewed-requires c =
    let p = (goal.at.is_any_uncrewed-requires c).Else-lacks_room in
    let s = (goal.at.Else-lacks_room p).Start in
    (near s.args.list s.args.known (roomy p)).0

pub returns-then-is_any_uncrewed : goal.returns-then-is_any_uncrewed
returns-then-is_any_uncrewed c =
    let tried = (goal.at.returns-then-is_any_uncrewed c).After-is_any_uncrewed in
    let roll = (goal.at.After-is_any_uncrewed tried).Else-is_above in
    let p = (goal.at.Else-is_above roll).Else-lacks_room in
    let s = (goal.at.Else-lacks_room p).Start in
    examined-lacking s.args.list s.args.known _ _ _ s.requires.3 (roomy p) roll.if-known.false (rolled roll) (sym tried.is_any_uncrewed.ensures ∙ c.if-is_any_uncrewed.true)

pub returns-then-not-known : goal.returns-then-not-known
returns-then-not-known c =
    let q = (goal.at.returns-then-not-known c).Else-is_any_uncrewed in
    let p = (goal.at.Else-is_any_uncrewed q).Else-lacks_room in
    let s = (goal.at.Else-lacks_room p).Start in
    examined-none s.args.list s.args.known _ _ _ s.requires.3 (roomy p) (sound q) (not-true _ c.if-not-known.true)

pub returns-then-known-gt-MOST_GROUPS : goal.returns-then-known-gt-MOST_GROUPS
returns-then-known-gt-MOST_GROUPS c =
    let held = (goal.at.returns-then-known-gt-MOST_GROUPS c).Else-not-known in
    let q = (goal.at.Else-not-known held).Else-is_any_uncrewed in
    let p = (goal.at.Else-is_any_uncrewed q).Else-lacks_room in
    let s = (goal.at.Else-lacks_room p).Start in
    examined-many s.args.list s.args.known _ _ _ s.requires.3 (roomy p) (sound q) (not-false _ held.if-not-known.false) c.if-known-gt-MOST_GROUPS.true

pub try_form-requires : goal.try_form-requires
try_form-requires c =
    let groups = (goal.at.try_form-requires c).Else-known-gt-MOST_GROUPS in
    let held = (goal.at.Else-known-gt-MOST_GROUPS groups).Else-not-known in
    let q = (goal.at.Else-not-known held).Else-is_any_uncrewed in
    let p = (goal.at.Else-is_any_uncrewed q).Else-lacks_room in
    let s = (goal.at.Else-lacks_room p).Start in
    let wide : length s.args.list.sites ≡ 512 = search rules in
    (counted s.args.list s.args.known wide s.requires.3 (roomy p) (sound q) (lent_plan s.args.known.grouped _ _) groups.if-known-gt-MOST_GROUPS.false, s.requires.0, s.requires.1, s.requires.2)

pub returns-in_default : goal.returns-in_default
returns-in_default c =
    let tried = (goal.at.returns-in_default c).After-try_form in
    let groups = (goal.at.After-try_form tried).Else-known-gt-MOST_GROUPS in
    let held = (goal.at.Else-known-gt-MOST_GROUPS groups).Else-not-known in
    let q = (goal.at.Else-not-known held).Else-is_any_uncrewed in
    let p = (goal.at.Else-is_any_uncrewed q).Else-lacks_room in
    let s = (goal.at.Else-lacks_room p).Start in
    examined-refused s.args.list s.args.known _ _ _ s.requires.3 (roomy p) (sound q) (not-false _ held.if-not-known.false) groups.if-known-gt-MOST_GROUPS.false c.in_default.ensures

pub returns : goal.returns
returns c =
    let tried = (goal.at.returns c).After-try_form in
    let groups = (goal.at.After-try_form tried).Else-known-gt-MOST_GROUPS in
    let held = (goal.at.Else-known-gt-MOST_GROUPS groups).Else-not-known in
    let q = (goal.at.Else-not-known held).Else-is_any_uncrewed in
    let p = (goal.at.Else-is_any_uncrewed q).Else-lacks_room in
    let s = (goal.at.Else-lacks_room p).Start in
    examined-plan s.args.list s.args.known _ _ _ s.requires.3 (roomy p) (sound q) (not-false _ held.if-not-known.false) groups.if-known-gt-MOST_GROUPS.false c.in-Ok.ensures
