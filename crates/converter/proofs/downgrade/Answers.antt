-- `converter::downgrade` meets its contract. Assumes nothing.
use mathlib.Core.Path.{refl}
use Rattle.converter.proofs.downgrade.Goals as goal

pub returns : goal.returns
returns c = rw (c.edition2.ensures, c.edition1.ensures) refl
