-- `held_state::at_least` meets its contract. Assumes nothing.
use mathlib.Core.Path.{sym, ap, ap₂, ◌∙◌}
use mathlib.Core.List.{List}
use Prim.Native.Nat.{ℕ}
use lib.ListN.{length}
use lib.Seq.{length-take-le}
use Rattle.sets.specs.Set.{set_of}
use Rattle.density.specs.Plan.{before}
use Rattle.tables.proofs.Shares.{groups-count}
use Rattle.held_state.proofs.at_least.Goals as goal
use Rattle.held_state.proofs.at_least.Goals.{After-shared_slice_known-1}

pub groups_read-k-requires : goal.groups_read-k-requires
groups_read-k-requires c = let h = c.requires in (h.0, h.1, h.2, h.3, ap length h.4 ∙ groups-count h.0 h.1 h.3.ready)

pub slice_bounds-union-end : goal.slice_bounds-union-end
slice_bounds-union-end c = sym (length-take-le _ _ c.groups_read-k.ensures.0)

pub returns : goal.returns
returns c = λ list plan ws k e.
    let read = (goal.at.returns c).After-shared_slice_known-1 in
    c.union.ensures
    ∙ ap₂ (λ (gs : List ℕ) (n : ℕ). set_of (before gs n) 64) e (c.groups_read-k.ensures.1 list plan ws k (ap length e ∙ groups-count list plan k.ready))
