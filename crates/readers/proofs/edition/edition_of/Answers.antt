-- `readers::edition::edition_of` meets its contract. Assumes nothing.
use mathlib.Core.Path.{sym, ◌∙◌}
use Rattle.readers.proofs.Editions.{no-mark, second-mark, other-mark}
use Rattle.readers.proofs.edition.edition_of.Goals as goal
use Rattle.readers.proofs.edition.edition_of.Goals.{After-field, Start, Then-s-lt2}

pub returns-then-s-lt2 : goal.returns-then-s-lt2
returns-then-s-lt2 c =
    let tested = (goal.at.returns-then-s-lt2 c).Then-s-lt2 in
    let start = (goal.at.Then-s-lt2 tested).Start in
    c.edition1.ensures ∙ no-mark start.args.s.now (λ i. (tested.shared_slice_known-1.given i).fits) tested.if-s-lt2.true

pub returns-then-field-eq12876 : goal.returns-then-field-eq12876
returns-then-field-eq12876 c =
    let read = (goal.at.returns-then-field-eq12876 c).After-field in
    let start = (goal.at.After-field read).Start in
    c.edition2.ensures ∙ second-mark start.args.s.now (sym read.field.ensures.is) c.if-field-eq12876.true

pub returns : goal.returns
returns c =
    let read = (goal.at.returns c).After-field in
    let start = (goal.at.After-field read).Start in
    c.edition1-2.ensures ∙ other-mark start.args.s.now (sym read.field.ensures.is) c.if-field-eq12876.false
