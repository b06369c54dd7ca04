-- `serve::serve` meets its contract. Assumes nothing.
use Rattle.serve.proofs.serve.Goals as goal

pub returns-in-Load : goal.returns-in-Load
returns-in-Load c = ((λ i. (c.shared_slice_known-1.given i).fits), rw c.in-Load.is (c.load.ensures c.args.buffer.now))

pub returns-in-Change : goal.returns-in-Change
returns-in-Change c = ((λ i. (c.shared_slice_known-1.given i).fits), rw c.in-Change.is (c.change.ensures c.args.e c.args.input.now c.args.buffer.now))

pub returns-in-Add : goal.returns-in-Add
returns-in-Add c = ((λ i. (c.shared_slice_known-1.given i).fits), rw c.in-Add.is (c.add.ensures c.args.e c.args.input.now c.args.buffer.now))

pub returns-in-Propose : goal.returns-in-Propose
returns-in-Propose c = ((λ i. (c.shared_slice_known-1.given i).fits), rw c.in-Propose.is (c.propose.ensures c.args.buffer.now))

pub returns-in_default : goal.returns-in_default
returns-in_default c = ((λ i. (c.shared_slice_known-1.given i).fits), c.ask.ensures c.args.input.now)
