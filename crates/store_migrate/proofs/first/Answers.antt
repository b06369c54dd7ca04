-- `store_migrate::first` meets its contract. Assumes nothing.
use Rattle.std.proofs.Common.{rules, ap, List, ℕ, ◌++◌, replicate}
use lib.ListN.{drop}
use Rattle.table.specs.Table.{overlay}
use Rattle.store_migrate.proofs.first.Goals as goal

pub returns : goal.returns
unfolding overlay
returns g c = (ap (λ (l : List ℕ). l ++ drop c.args.n (replicate g.row.N 0)) c.copy_from_slice.ensures.after, search rules)
