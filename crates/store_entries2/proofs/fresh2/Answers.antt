-- `store_entries2::fresh2` meets its contract. Assumes nothing.
use mathlib.Core.Path.{ap}
use Rattle.records.specs.declared.RollArray.{RollArray}
use Rattle.store.specs.State.{bare}
use Rattle.store_entries2.proofs.fresh2.Goals as goal

pub returns : goal.returns
returns c = ap (λ (r : RollArray). bare 0 r) c.no_roll.ensures
