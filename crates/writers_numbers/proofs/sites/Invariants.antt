use Prim.Native.Nat.{◌*◌}
use mathlib.Core.Path.{◌≡◌}
use mathlib.Core.List.{flat_map}
use lib.ListN.{length, take}
use Rattle.records.specs.Format.{site_size}
use Rattle.records.specs.Write.{onto, site_bytes}
use Rattle.writers_numbers.proofs.sites.Given as goal

abbrev pub invariant-loop-x : goal.invariant-loop-x
invariant-loop-x l =
    (l.at ≡ site_size l.e * l.x-index)
    × (length l.out ≡ length l.initial.out)
    × (l.out ≡ onto (flat_map (site_bytes l.e) (take l.x-index l.x-items)) l.initial.out)
