-- `lent::look` meets its contract. Assumes nothing.
use mathlib.Core.Path.{refl}
use Rattle.held_state.specs.Held.{State}
use Rattle.held_state.specs.Values.{Stands}
use Rattle.lent.specs.Lent.{state_in}
use Rattle.lent.proofs.Served.{stands, asks}
use Rattle.lent.proofs.look.Goals as goal
use Rattle.lent.proofs.look.Goals.{After-summary-known}

abbrev state : After-summary-known → State
state c = let a = c.args in state_in a.e a.store.now a.table.now

-- what is read stands for the state
standing : (c : After-summary-known)
    → let p = c.store_in-h in
    Stands (state c) c.list_in-list.result c.summary-known.result p.new.groups p.new.shares
standing c =
    let a = c.args in
    let k = c.summary-known.ensures in
    stands a.e a.store.now a.table.now c.store_in-h.ensures c.list_in-list.ensures k.0 k.1 k.2

pub returns : goal.returns
returns c = λ input b.
    let k = (goal.at.returns c).After-summary-known in
    let a = c.args in
    asks a.e a.store.now a.table.now (record { request = a.request; input = input; buffer = a.buffer.now }) b c.requires.2
    (c.answer.ensures (state k) input refl (standing k))
