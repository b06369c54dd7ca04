-- `converter::downgrade_list` meets its contract. Assumes nothing.
use lib.Dec.{lit≤}
use Rattle.converter.proofs.downgrade_list.Goals as goal
use Rattle.converter.proofs.downgrade_list.Goals.{After-downgrade, After-list_by}

pub list_by-requires : goal.list_by-requires
list_by-requires c = rw c.downgrade.ensures (lit≤ tt, lit≤ tt)

pub returns : goal.returns
returns c =
    let wrote = (goal.at.returns c).After-list_by in
    let way = (goal.at.After-list_by wrote).After-downgrade in
    rw way.downgrade.ensures at wrote.list_by.ensures
