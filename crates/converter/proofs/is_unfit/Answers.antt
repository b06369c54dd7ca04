-- `converter::is_unfit` meets its contract. Assumes nothing.
use mathlib.Core.Path.{refl, sym, ◌∙◌}
use Rattle.converter.proofs.Found.{unfit-is}
use Rattle.converter.proofs.is_unfit.Goals as goal

pub returns-then-any_outside : goal.returns-then-any_outside
returns-then-any_outside c = c.if-any_outside.true ∙ unfit-is c.args.list (sym c.if-any_outside.true ∙ c.any_outside.ensures) refl

pub returns-else-any_outside : goal.returns-else-any_outside
returns-else-any_outside c = unfit-is c.args.list (sym c.if-any_outside.false ∙ c.any_outside.ensures) refl
