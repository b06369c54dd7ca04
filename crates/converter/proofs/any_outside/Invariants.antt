use mathlib.Core.Path.{◌≡◌}
use mathlib.Core.Bool.{false}
use lib.ListN.{get_or}
use Rattle.sets.specs.Sum.{any}
use Rattle.density.specs.Network.{no_site}
use Rattle.converter.specs.Convert.{is_outside}
use Rattle.converter.proofs.any_outside.Given as goal

abbrev pub invariant-loop-x : goal.invariant-loop-x
invariant-loop-x l = any (λ j. is_outside (get_or l.x-items j no_site)) l.x-index ≡ false
