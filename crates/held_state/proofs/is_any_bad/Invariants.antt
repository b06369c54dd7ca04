use mathlib.Core.Path.{◌≡◌}
use mathlib.Core.Bool.{false}
use lib.ListN.{get_or}
use Rattle.sets.specs.Sum.{any}
use Rattle.density.specs.Network.{no_site}
use Rattle.held_state.specs.Held.{bad_site}
use Rattle.held_state.proofs.is_any_bad.Given as goal

abbrev pub invariant-loop-x : goal.invariant-loop-x
invariant-loop-x l = any (λ j. bad_site (get_or l.fn.sites j no_site)) l.x-index ≡ false
