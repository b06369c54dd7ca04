-- `store_migrate::carry` meets its contract. Assumes nothing.
use lib.Dec.{lit<}
use borrow.Author.Tests.{not-true, not-false}
use Rattle.store_migrate.proofs.Moving.{carries-none, carries-plan}
use Rattle.store_migrate.proofs.carry.Goals as goal

pub returns-then-not-store : goal.returns-then-not-store
returns-then-not-store c = λ e table.
    let s = c.args.store in
    carries-none s c.no_roll.ensures (not-true s.held c.if-not-store.true) e table

pub first-groups-requires : goal.first-groups-requires
first-groups-requires c = (lit< tt, c.requires.1 (not-false c.args.store.held c.if-not-store.false))

pub first-shares-requires : goal.first-shares-requires
first-shares-requires c = (lit< tt, c.requires.0)

pub returns : goal.returns
returns c = λ e table.
    let s = c.args.store in
    let t = not-false s.held c.if-not-store.false in
    carries-plan s c.no_roll-2.ensures t c.requires.0 (c.requires.1 t) c.first-groups.ensures c.first-shares.ensures e table
