-- `lent::row_zero` meets its contract. Assumes nothing.
use mathlib.Core.Path.{sym, ◌∙◌}
use Rattle.held_state.specs.Held.{State}
use Rattle.held_state.specs.Values.{Stands}
use Rattle.lent.specs.Lent.{state_in}
use Rattle.lent.proofs.Served.{stands}
use Rattle.lent.proofs.row_zero.Goals as goal
use Rattle.lent.proofs.row_zero.Goals.{After-summary-known}

abbrev state : After-summary-known → State
state c = let a = c.args in state_in a.e a.store.now a.table.now

-- what is read stands for the state
standing : (c : After-summary-known)
    → let p = c.store_in-h in
    Stands (state c) c.list_in-list.result c.summary-known.result p.new.groups p.new.shares
standing c =
    let a = c.args in
    let k = c.summary-known.ensures in
    stands a.e a.store.now a.table.now c.store_in-h.ensures c.list_in-list.ensures k.0 k.1 k.2

pub returns-then-is_corrupt-clause-zero : goal.returns-then-is_corrupt-clause-zero
returns-then-is_corrupt-clause-zero c =
    let k = (goal.at.returns-then-is_corrupt-clause-zero c).After-summary-known in
    sym c.if-is_corrupt.true ∙ c.is_corrupt.ensures (state k) (standing k)

pub returns-else-is_corrupt-clause-zero : goal.returns-else-is_corrupt-clause-zero
returns-else-is_corrupt-clause-zero c =
    let k = (goal.at.returns-else-is_corrupt-clause-zero c).After-summary-known in
    sym c.if-is_corrupt.false ∙ c.is_corrupt.ensures (state k) (standing k)
