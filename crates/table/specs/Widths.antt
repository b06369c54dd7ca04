-- Sites of edition 1, whose litres are "a 16-bit figure", and sites as the definition has them. The fields have the same values in both.
use Rattle.std.specs.Prelude.{List, ℕ, ◌<◌, ◌^◌, length, get_or}
use Rattle.density.specs.declared.Site.{Site}
use Rattle.density.specs.Network.{no_site}
use Rattle.table.specs.declared.Site1.{Site1}

-- what stands at a blank place
abbrev pub no_site1 : Site1
no_site1 = record { first = 0; second = 0; litres = 0 }

abbrev pub widened : Site1 → Site
widened s = record { first = s.first; second = s.second; litres = s.litres }

abbrev pub narrowed : Site → Site1
narrowed s = record { first = s.first; second = s.second; litres = s.litres }

-- "litres, 1 to 65,535": the litres of all sites fit a 16-bit figure
unfoldable pub LitresFit : List Site → Type 0
LitresFit sites = (i : ℕ) → i < length sites → (get_or sites i no_site).litres < 2 ^ 16
