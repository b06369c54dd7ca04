use Prim.Native.Nat.{ℕ, ◌-◌}
use mathlib.Core.Path.{◌≡◌}
use mathlib.Core.List.{List, ◌++◌, map}
use lib.ListN.{take, get_or, replicate}
use Rattle.sets.specs.Sum.{any}
use Rattle.density.specs.Network.{no_site}
use Rattle.density.specs.declared.Site.{Site}
use Rattle.readers.specs.Body.{site_body}
use Rattle.readers.proofs.list.sites_of.Given as goal

-- the sites
abbrev pub all : List ℕ → List Site
all bs = map (λ b. (site_body b).site) bs

abbrev pub invariant-loop-i : goal.invariant-loop-i
invariant-loop-i l =
    (l.sites ≡ take l.i (all l.bodies) ++ replicate (512 - l.i) no_site)
    × (l.depots ≡ any (λ j. (site_body (get_or l.bodies j 0)).depot) l.i)
    × (l.litres ≡ any (λ j. (site_body (get_or l.bodies j 0)).litres) l.i)
