-- `lent::summary` meets its contract. Assumes nothing.
use mathlib.Core.Path.{refl}
use Prim.Native.Nat.{◌+◌, ◌/◌}
use lib.ListN.{length}
use Rattle.held_state.specs.declared.Summary.{Summary}
use Rattle.lent.proofs.Served.{marks}
use Rattle.lent.proofs.summary.Goals as goal

pub returns : goal.returns
returns c =
    let a = c.args in
    let r : Summary =
    record { places = length a.table.now / (2 + a.e.litres); held = a.h.held; grouped = a.h.grouped; bad = c.is_any_bad.result } in
    (refl, refl, refl, marks a.e a.table.now r refl c.is_any_bad.ensures)
