-- `readers::list::read` meets its contract. Where the first k rows have been tried and do not apply, what `read_list` says is what is left of its rows; at each return the next row applies.
-- Assumes nothing.
use Prim.Native.Nat.{ℕ}
use mathlib.Core.Bool.{Bool, ◌||◌}
use mathlib.Core.Path.{◌∙◌, ap, ap₂, sym}
use Rattle.std.proofs.lemmas.Result.{err_from_is_err_and}
use Rattle.records.specs.Answer.{list_read}
use Rattle.readers.proofs.Heads.{ListHeaded, list-headed, list-head-refused}
use Rattle.readers.proofs.Lists.{RowsLeft, Found, past-4, row-4, past-5, row-5, past-6, row-6, past-22, row-22, past-23, row-23, all_read}
use Rattle.readers.proofs.list.read.Goals as goal
use Rattle.readers.proofs.list.read.Goals.{After-roll_of-k, Else-is_above, Else-is_any_uncrewed, Else-k, Else-r-2, Else-r-3, In_ok-count, Then-is_above, Then-is_any_uncrewed, Then-r-2, Then-r-3, then-r-via-then-r, then-r-via-else-r+then-k}

headed : (c : In_ok-count) → ListHeaded c.args.e c.args.places c.args.s.now c.in_ok-count.count
headed c = list-headed _ _ _ c.in_ok-count.ensures

-- what was read, and that the first k rows do not apply
found : (c : After-roll_of-k)
    → Found c.args.e c.args.places c.args.s.now c.in_ok-count.count c.sites-r.result c.roll_of-k.result
found c = record { headed = headed (goal.at.After-roll_of-k c).In_ok-count; sites = c.sites-r.ensures; roll = c.roll_of-k.ensures }

abbrev Left : ℕ → After-roll_of-k → Type 0
Left k c = RowsLeft c.args.e c.args.places c.args.s.now k

left-4 : (c : Else-k) → Left 4 (goal.at.Else-k c).After-roll_of-k
left-4 c = past-4 (found (goal.at.Else-k c).After-roll_of-k) (ap₂ ◌||◌ c.if-r.false c.if-k.false)

left-5 : (c : Else-r-2) → Left 5 (goal.at.Else-r-2 c).After-roll_of-k
left-5 c = past-5 (found (goal.at.Else-r-2 c).After-roll_of-k) (left-4 (goal.at.Else-r-2 c).Else-k) c.if-r-2.false

left-6 : (c : Else-r-3) → Left 6 (goal.at.Else-r-3 c).After-roll_of-k
left-6 c = past-6 (found (goal.at.Else-r-3 c).After-roll_of-k) (left-5 (goal.at.Else-r-3 c).Else-r-2) c.if-r-3.false

left-22 : (c : Else-is_above) → Left 7 (goal.at.Else-is_above c).After-roll_of-k
left-22 c = past-22 (found (goal.at.Else-is_above c).After-roll_of-k) (left-6 (goal.at.Else-is_above c).Else-r-3) (sym c.is_above.ensures ∙ c.if-is_above.false)

left-23 : (c : Else-is_any_uncrewed) → Left 8 (goal.at.Else-is_any_uncrewed c).After-roll_of-k
left-23 c = past-23 (found (goal.at.Else-is_any_uncrewed c).After-roll_of-k) (left-22 (goal.at.Else-is_any_uncrewed c).Else-is_above) (sym c.is_any_uncrewed.ensures ∙ c.if-is_any_uncrewed.false)

pub returns-in_err-count : goal.returns-in_err-count
returns-in_err-count c =
    let p = err_from_is_err_and c.from_residual.result c.from_residual.ensures.1 in
    rw (p.1, p.2) (sym (ap list_read (list-head-refused _ _ _ c.in_err-count.ensures)))

pub sites-r-requires : goal.sites-r-requires
sites-r-requires c = (c.requires, (headed c).few, (headed c).size)

pub roll_of-k-requires : goal.roll_of-k-requires
roll_of-k-requires c = (c.requires, (headed (goal.at.roll_of-k-requires c).In_ok-count).few, (headed (goal.at.roll_of-k-requires c).In_ok-count).count)

pub returns-then-r : goal.returns-then-r
returns-then-r c =
    let before = found (goal.at.returns-then-r c).After-roll_of-k in
    sym (ap list_read (row-4 before (elim c.then-r.branch [ then-r-via-then-r w ↦ ap (λ (b : Bool). b || c.roll_of-k.result.mark) w.if-r.true | then-r-via-else-r+then-k w ↦ ap₂ ◌||◌ w.if-r.false w.if-k.true ])))

pub returns-then-r-2 : goal.returns-then-r-2
returns-then-r-2 c =
    let row = (goal.at.returns-then-r-2 c).Then-r-2 in
    sym (ap list_read (row-5 (found (goal.at.Then-r-2 row).After-roll_of-k) (left-4 (goal.at.Then-r-2 row).Else-k) row.if-r-2.true))

pub returns-then-r-3 : goal.returns-then-r-3
returns-then-r-3 c =
    let row = (goal.at.returns-then-r-3 c).Then-r-3 in
    sym (ap list_read (row-6 (found (goal.at.Then-r-3 row).After-roll_of-k) (left-5 (goal.at.Then-r-3 row).Else-r-2) row.if-r-3.true))

pub returns-then-is_above : goal.returns-then-is_above
returns-then-is_above c =
    let row = (goal.at.returns-then-is_above c).Then-is_above in
    let before = (goal.at.Then-is_above row).Else-r-3 in
    sym (ap list_read (row-22 (found (goal.at.Else-r-3 before).After-roll_of-k) (left-6 before) (sym row.is_above.ensures ∙ row.if-is_above.true)))

pub is_any_uncrewed-requires : goal.is_any_uncrewed-requires
is_any_uncrewed-requires c = (headed (goal.at.is_any_uncrewed-requires c).In_ok-count).few

pub returns-then-is_any_uncrewed : goal.returns-then-is_any_uncrewed
returns-then-is_any_uncrewed c =
    let row = (goal.at.returns-then-is_any_uncrewed c).Then-is_any_uncrewed in
    let before = (goal.at.Then-is_any_uncrewed row).Else-is_above in
    sym (ap list_read (row-23 (found (goal.at.Else-is_above before).After-roll_of-k) (left-22 before) (sym row.is_any_uncrewed.ensures ∙ row.if-is_any_uncrewed.true)))

pub returns : goal.returns
returns c = all_read (found (goal.at.returns c).After-roll_of-k) (left-23 (goal.at.returns c).Else-is_any_uncrewed)
