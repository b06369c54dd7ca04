-- Document 01, "Entry points" and "The plain book", questions: "w × q, W, q and the difference with its divisor follow from the definition on its list alone".
-- Document 02, a: the depots at or over a mark (here: a threshold).
use Rattle.std.specs.Prelude.{Bool, ◌&&◌, List, ℕ, ◌*◌, leb, ltb, ℤ, pos, ◌-ℤ◌, length}
use Rattle.sets.specs.Sum.{any}
use Rattle.sets.specs.Set.{Depots, lowest}
use Rattle.density.specs.Network.{Network}
use Rattle.density.specs.Groups.{groups_of}
use Rattle.density.specs.Plan.{group, before, place, group_litres, group_size, whole}

-- "a depot's W and q, not reduced"
unfoldable pub depot_litres : Network → ℕ → ℕ
depot_litres N d = group_litres N (groups_of N) (place (groups_of N) d)

unfoldable pub depot_size : Network → ℕ → ℕ
depot_size N d = group_size N (groups_of N) (place (groups_of N) d)

-- a site's "w × q"
unfoldable pub site_whole : Network → ℕ → ℕ
site_whole N i = whole N (groups_of N) i

-- "W of a × q of b less W of b × q of a, below zero where a is lighter, with the divisor q of a × q of b"
abbrev pub difference_of : ℕ → ℕ → ℕ → ℕ → ℤ
difference_of wa qa wb qb = pos (wa * qb) -ℤ pos (wb * qa)

unfoldable pub difference : Network → ℕ → ℕ → ℤ
difference N a b = difference_of (depot_litres N a) (depot_size N a) (depot_litres N b) (depot_size N b)

unfoldable pub divisor : Network → ℕ → ℕ → ℕ
divisor N a b = depot_size N a * depot_size N b

-- Document 02, a: W/q is at least a threshold (its word: a mark), a whole number of litres: W ≥ threshold × q, never divided
abbrev pub reaches : ℕ → ℕ → ℕ → Bool
reaches threshold w q = leb (threshold * q) w

-- "the set of depots whose W/q is at least that"
abbrev pub at_least : Network → ℕ → Depots
at_least N threshold d = N.listed d && reaches threshold (depot_litres N d) (depot_size N d)

-- the same by given groups: W and q are those of the depot's group
abbrev pub at_least_by : Network → List ℕ → ℕ → Depots
at_least_by N gs threshold d = N.listed d && reaches threshold (group_litres N gs (place gs d)) (group_size N gs (place gs d))

-- "looking at every group": the depots of each that reaches the threshold
unfoldable pub every_group : Network → List ℕ → ℕ → Depots
every_group N gs threshold d = any (λ k. group gs k d && reaches threshold (group_litres N gs k) (group_size N gs k)) (length gs)

-- "The groups fall, so reading ends at the first group below the mark": how many groups are read, all where none is below; and their depots
unfoldable pub groups_read : Network → List ℕ → ℕ → ℕ
groups_read N gs threshold = lowest (λ k. ltb (group_litres N gs k) (threshold * group_size N gs k)) (length gs)

abbrev pub depots_read : Network → List ℕ → ℕ → Depots
depots_read N gs threshold = before gs (groups_read N gs threshold)
