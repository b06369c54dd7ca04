-- `held_state::less` meets its contract. Assumes nothing.
use mathlib.Core.Path.{ap₂, ◌∙◌}
use lib.IntN.{◌-ℤ◌}
use mir.Syntax.{w64}
use mir.ValLaws.{to_z-of_z}
use Rattle.held_state.proofs.Figures.{less-fits, as-signed}
use Rattle.held_state.proofs.less.Goals as goal

pub overflow_sub-result : goal.overflow_sub-result
overflow_sub-result c = rw (as-signed c.args.x c.requires.0, as-signed c.args.y c.requires.1) (less-fits c.args.x c.args.y c.requires.0 c.requires.1)

pub returns : goal.returns
returns c = to_z-of_z w64 _ (overflow_sub-result c) ∙ ap₂ ◌-ℤ◌ (as-signed c.args.x c.requires.0) (as-signed c.args.y c.requires.1)
