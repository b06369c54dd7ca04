-- `lent::fresh` meets its contract. Assumes nothing.
use mathlib.Core.Path.{subst}
use Rattle.records.specs.declared.RollArray.{RollArray}
use Rattle.store.specs.State.{bare}
use Rattle.layout_put.specs.Put.{PutStore}
use Rattle.lent.proofs.Served.{fresh-put}
use Rattle.lent.proofs.fresh.Goals as goal

pub returns : goal.returns
returns c =
    let e = c.args.e in
    fresh-put e (subst (λ (roll : RollArray). PutStore e.share e.roll (bare 0 roll) c.put_new.new.store) c.no_roll.ensures c.put_new.ensures)
