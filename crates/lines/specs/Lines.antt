-- What is printed of a depot, of a group and of a site, given a list's network.
use Rattle.std.specs.Prelude.{List, ℕ, ◌+◌, get_or}
use Rattle.density.specs.Network.{Network}
use Rattle.density.specs.Groups.{groups_of}
use Rattle.density.specs.Plan.{place, carrier, group_size, group_litres, first_share, second_share}
use Rattle.density.specs.Figures.{depot_litres, depot_size}
use Rattle.lines.specs.declared.DepotLine.{DepotLine}
use Rattle.lines.specs.declared.GroupLine.{GroupLine}
use Rattle.lines.specs.declared.SiteLine.{SiteLine}

-- document 01, "Entry points", the first program: "its number, its group from 1, W and q"
abbrev pub depot_line : Network → ℕ → DepotLine
depot_line N d = record { depot = d; group = place (groups_of N) d + 1; litres = depot_litres N d; size = depot_size N d }

-- a group's depots, its W and its q: "Let q be that group's size and W the litres of all sites it carries."
abbrev pub group_line : Network → List ℕ → ℕ → GroupLine
group_line N gs k = record { depots = get_or gs k 0; litres = group_litres N gs k; size = group_size N gs k }

-- "Shares are whole numbers in q-ths of a litre": "the first depot has s of it, the second the rest"
abbrev pub site_line : Network → List ℕ → List ℕ → ℕ → SiteLine
site_line N gs ss i =
    record {
      first = record { depot = (N.site i).first; share = first_share ss i };
      second = record { depot = (N.site i).second; share = second_share N gs ss i };
      size = group_size N gs (carrier gs (N.site i));
      litres = (N.site i).litres;
    }
