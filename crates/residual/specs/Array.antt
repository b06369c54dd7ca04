-- Arrays of numbers, and the sums over all depots and over all arcs. A site i has two arcs: i at its first depot and 512 + i at its second.
use Rattle.std.specs.Prelude.{List, ℕ, ◌-◌, eqb, leb, get_or}
use Rattle.sets.specs.Sum.{when, sum}

-- the element at a place, 0 past the end
abbrev pub at : List ℕ → ℕ → ℕ
at xs i = get_or xs i 0

-- what all depots have together
abbrev pub total_load : List ℕ → ℕ
total_load load = sum (at load) 64

-- what all depots together lack of their targets
abbrev pub total_deficit : List ℕ → List ℕ → ℕ
total_deficit target load = sum (λ d. at target d - at load d) 64

-- what depot d has on its arcs
abbrev pub arc_load : List ℕ → ℕ → List ℕ → ℕ
arc_load ends d share = sum (λ j. when (eqb (at ends j) d) (at share j)) 1024

-- how many depots are not in the search order
abbrev pub unranked : List ℕ → ℕ
unranked rank = sum (λ d. when (leb 64 (at rank d)) 1) 64
