-- `converter::upgrade_list` meets its contract. Assumes nothing.
use lib.Dec.{lit≤}
use Rattle.converter.proofs.upgrade_list.Goals as goal
use Rattle.converter.proofs.upgrade_list.Goals.{After-list_by, After-upgrade}

pub list_by-requires : goal.list_by-requires
list_by-requires c = rw c.upgrade.ensures (lit≤ tt, lit≤ tt)

pub returns : goal.returns
returns c =
    let wrote = (goal.at.returns c).After-list_by in
    let way = (goal.at.After-list_by wrote).After-upgrade in
    rw way.upgrade.ensures at wrote.list_by.ensures
