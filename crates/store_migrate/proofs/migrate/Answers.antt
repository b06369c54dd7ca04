-- `store_migrate::migrate` meets its contract. Assumes nothing.
use lib.Dec.{lit<}
use Rattle.std.proofs.Common.{arith}
use Rattle.store_migrate.proofs.Moving.{moves-over}
use Rattle.store_migrate.proofs.migrate.Goals as goal

pub store-requires : goal.store-requires
store-requires c = (lit< tt, (omega arith, c.decide-d.ensures.few, c.decide-d.ensures.fits))

pub returns : goal.returns
returns c =
    moves-over c.args.store c.args.table.now c.held-sites.result c.args.new.now c.store.new.table c.decide-d.result c.decide-d.ensures c.held-sites.ensures c.store.ensures
