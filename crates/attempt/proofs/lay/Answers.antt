-- `attempt::lay` meets its contract. Assumes nothing.
use Rattle.attempt.proofs.Laying.{lay-fits, lay-goes, lay-total}
use Rattle.attempt.proofs.lay.Goals as goal

pub lay_site-total-requires-clause-i_bound : goal.lay_site-total-requires-clause-i_bound
lay_site-total-requires-clause-i_bound c =
    let l = c.loop-i.invariant in
    (c.loop-i-test.true, l.shares, l.sizes, lay-fits c.requires.ready l c.loop-i-test.true)

pub overflow_add-total : goal.overflow_add-total
overflow_add-total c = record { fits = lay-total c.requires.ready c.loop-i.invariant c.loop-i-test.true c.lay_site-total.ensures }

pub loop-i-preserved : goal.loop-i-preserved
loop-i-preserved c = lay-goes c.requires.ready c.loop-i.invariant c.loop-i-test.true c.lay_site-total.ensures
