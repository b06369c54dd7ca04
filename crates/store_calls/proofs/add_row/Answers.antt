-- `store_calls::add_row` meets its contract. Assumes nothing.
use mathlib.Core.Path.{◌≡◌, sym, ◌∙◌}
use mathlib.Core.Bool.{true, false, ◌||◌}
use mathlib.Core.Logic.{⊎_elim}
use borrow.Author.Tests.{lt-ltb, le-ltb, le-leb, lt-leb}
use lib.Dec.{leb, ltb}
use Rattle.store_calls.proofs.Rows.{add-full, add-depots, add-litres, add-uncrewed, add-passes}
use Rattle.store_calls.proofs.add_row.Goals as goal
use Rattle.store_calls.proofs.add_row.Goals.{Else-places-count, Else-x-eq0, Else-x-gt63-2}

-- a place is left, and both depots are at most 63
room : (c : Else-places-count) → (leb 512 c.args.count || leb c.args.places c.args.count) ≡ false
room c = rw (lt-leb 512 c.args.count c.if-count-ge512.false, c.if-places-count.false-raw)

low : (c : Else-x-gt63-2) → (ltb 63 c.args.x.first || ltb 63 c.args.x.second) ≡ false
low c = rw (le-ltb 63 c.args.x.first c.if-x-gt63.false, le-ltb 63 c.args.x.second c.if-x-gt63-2.false)

pub returns-then-count-ge512 : goal.returns-then-count-ge512
returns-then-count-ge512 c = λ b call n m o.
    let a = c.args in
    let t : (leb 512 a.count || leb a.places a.count) ≡ true =
    ⊎_elim (λ w. rw (le-leb 512 a.count w)) (λ w. rw (lt-leb 512 a.count w.0, le-leb a.places a.count w.1)) c.then-count-ge512.either in
    add-full b call _ n _ m a.x t

pub returns-then-x-gt63 : goal.returns-then-x-gt63
returns-then-x-gt63 c = λ b call n m o.
    let a = c.args in
    let left = (goal.at.returns-then-x-gt63 c).Else-places-count in
    let t : (ltb 63 a.x.first || ltb 63 a.x.second) ≡ true =
    ⊎_elim (λ w. rw (lt-ltb 63 a.x.first w)) (λ w. rw (le-ltb 63 a.x.first w.0, lt-ltb 63 a.x.second w.1)) c.then-x-gt63.either in
    add-depots b call _ n _ m a.x (room left) t

pub returns-then-x-eq0 : goal.returns-then-x-eq0
returns-then-x-eq0 c = λ b call n m o.
    let next = (goal.at.returns-then-x-eq0 c).Else-x-gt63-2 in
    let left = (goal.at.Else-x-gt63-2 next).Else-places-count in
    add-litres b call _ n _ m c.args.x (room left) (low next) c.if-x-eq0.true

pub returns-then-is_uncrewed : goal.returns-then-is_uncrewed
returns-then-is_uncrewed c = λ b call n m o.
    let some-litres = (goal.at.returns-then-is_uncrewed c).Else-x-eq0 in
    let next = (goal.at.Else-x-eq0 some-litres).Else-x-gt63-2 in
    let left = (goal.at.Else-x-gt63-2 next).Else-places-count in
    add-uncrewed b call _ n _ m c.args.x (room left) (low next) some-litres.if-x-eq0.false c.args.roll o (sym c.is_uncrewed.ensures ∙ c.if-is_uncrewed.true)

pub returns : goal.returns
returns c = λ b call n m o.
    let some-litres = (goal.at.returns c).Else-x-eq0 in
    let next = (goal.at.Else-x-eq0 some-litres).Else-x-gt63-2 in
    let left = (goal.at.Else-x-gt63-2 next).Else-places-count in
    add-passes b call _ n _ m c.args.x (room left) (low next) some-litres.if-x-eq0.false c.args.roll o (sym c.is_uncrewed.ensures ∙ c.if-is_uncrewed.false)
