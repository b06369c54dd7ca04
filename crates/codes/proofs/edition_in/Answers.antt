-- `codes::edition_in` meets its contract. Assumes nothing.
use mathlib.Core.Path.{◌∙◌}
use Rattle.codes.proofs.DeskCodes.{second-in, first-in, fitting1, fitting2}
use Rattle.codes.proofs.edition_in.Goals as goal

pub returns-then-store-eq4704 : goal.returns-then-store-eq4704
returns-then-store-eq4704 c = (c.edition2.ensures ∙ second-in c.args.store.now c.if-store-eq4704.true, fitting2 c.edition2.ensures)

pub returns : goal.returns
returns c = (c.edition1.ensures ∙ first-in c.args.store.now c.if-store-eq4704.false, fitting1 c.edition1.ensures)
