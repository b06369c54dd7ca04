-- `store_calls::migrate_row` meets its contract. Assumes nothing.
use Rattle.store_calls.proofs.Rows.{migrate-full, migrate-passes}
use Rattle.store_calls.proofs.migrate_row.Goals as goal

pub returns-then-places-count : goal.returns-then-places-count
returns-then-places-count c = λ b n. migrate-full b _ n c.args.places c.if-places-count.true

pub returns : goal.returns
returns c = λ b n. migrate-passes b _ n c.args.places c.if-places-count.false
