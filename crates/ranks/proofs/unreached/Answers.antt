-- `ranks::unreached` meets its contract. Assumes nothing.
use mathlib.Core.Path.{sym}
use native.Mathlib.Omega.{arith}
use Rattle.sets.proofs.Set.{set_of-start}
use Rattle.ranks.proofs.Gathering.{gather-takes, gather-skips}
use Rattle.ranks.proofs.unreached.Goals as goal

pub loop-d-init : goal.loop-d-init
loop-d-init c = sym (set_of-start _)

pub loop-d-preserved : goal.loop-d-preserved
loop-d-preserved c = grind (arith, gather-takes, gather-skips)
