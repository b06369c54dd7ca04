use Rattle.std.proofs.Common.{◌≡◌, ◌-◌, get_or}
use Rattle.sets.specs.Sum.{any}
use Rattle.density.specs.Network.{no_site}
use Rattle.held_state.specs.Held.{bad_site}
use Rattle.layout.specs.Layout.{sites_in}
use Rattle.layout.proofs.bad_by.Given as goal

abbrev pub invariant-loop-i : goal.invariant-loop-i
invariant-loop-i l = l.bad ≡ any (λ j. bad_site (get_or (sites_in (l.size - 2) l.t) j no_site)) l.i
