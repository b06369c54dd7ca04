-- `lines::mixed` meets its contract. Assumes nothing.
use mathlib.Core.Path.{refl, sym}
use native.Mathlib.Nat.{div-add-mod', mod-lt}
use Rattle.lines.proofs.mixed.Goals as goal

pub returns : goal.returns
returns c = (sym (div-add-mod' c.args.x c.args.q), mod-lt c.args.x c.requires, refl)
