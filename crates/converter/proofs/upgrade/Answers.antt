-- `converter::upgrade` meets its contract. Assumes nothing.
use mathlib.Core.Path.{refl}
use Rattle.converter.proofs.upgrade.Goals as goal

pub returns : goal.returns
returns c = rw (c.edition1.ensures, c.edition2.ensures) refl
