use Rattle.std.proofs.Common.{◌≡◌, ◌-◌, replicate}
use Rattle.density.specs.Network.{no_site}
use Rattle.table.specs.Table.{overlay}
use Rattle.layout.specs.Layout.{sites_in}
use Rattle.layout.proofs.list_by.Given as goal

abbrev pub invariant-loop-i : goal.invariant-loop-i
invariant-loop-i l = l.sites ≡ overlay l.i (sites_in (l.size - 2) l.t) (replicate 512 no_site)
