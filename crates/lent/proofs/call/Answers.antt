-- `lent::call` meets its contract. Assumes nothing.
use Rattle.lent.proofs.Served.{called-as}
use Rattle.lent.proofs.call.Goals as goal

pub returns-in-Load : goal.returns-in-Load
returns-in-Load c = called-as c.in-Load.is (c.load.ensures c.args.buffer.now)

pub returns-in-Propose : goal.returns-in-Propose
returns-in-Propose c = called-as c.in-Propose.is (c.propose.ensures c.args.buffer.now)
