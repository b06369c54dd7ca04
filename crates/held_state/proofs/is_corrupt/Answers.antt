-- `held_state::is_corrupt` meets its contract. Assumes nothing.
use mathlib.Core.Path.{refl}
use Rattle.held_state.proofs.is_corrupt.Goals as goal

pub examine-requires : goal.examine-requires
examine-requires c = (c.requires.0, c.requires.1, refl, c.requires.2)
