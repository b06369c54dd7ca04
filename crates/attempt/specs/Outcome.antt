-- The sites that the maker's arrays hold, and how the pushes within a set end.
use Rattle.std.specs.Prelude.{◌≡◌, true, false, List, ◌⊎◌, ℕ, ◌+◌, ◌*◌, ◌≤◌, ◌<◌, length}
use Rattle.sets.specs.Sum.{when, sum}
use Rattle.sets.specs.Set.{Depots}
use Rattle.density.specs.declared.Site.{Site}
use Rattle.density.specs.Network.{counts}
use Rattle.residual.specs.Array.{at, arc_load}
use Rattle.residual.specs.Search.{reverse, Paired, Closed, Placed}
use Rattle.residual.specs.Rounds.{Onward}

-- the site at place i of the arrays; 64 stands for no depot
abbrev pub site_in : List ℕ → List ℕ → ℕ → Site
site_in ends litres i = record { first = at ends i; second = at ends (512 + i); litres = at litres i }

-- the litres that site i brings to the set s, given the grouped depots b
unfoldable pub brings : List ℕ → List ℕ → Depots → Depots → ℕ → ℕ
brings ends litres s b i = when (counts s b (site_in ends litres i)) (at litres i)

-- the litres of the set s, given b
unfoldable pub litres_of : List ℕ → List ℕ → Depots → Depots → ℕ
litres_of ends litres s b = sum (brings ends litres s b) 512

-- The pushes have ended. A depot takes part if its rank is at most 64, and was reached if it is less; c are its crews; b are the depots grouped before.
pub record Outcome (ends litres share load rank : List ℕ) (b : Depots) (c : ℕ → ℕ) (q w : ℕ) : Type 0 where
  pub paired : Paired ends
  pub shares : length share ≡ 1024
  pub sums : (d : ℕ) → d < 64 → at rank d ≤ 64 → at load d ≡ arc_load ends d share
  pub low : (d : ℕ) → d < 64 → at rank d < 64 → at load d ≤ w * c d
  pub high : (d : ℕ) → d < 64 → at rank d ≡ 64 → w * c d ≤ at load d
  pub closed : (v : ℕ) → Placed rank v → Closed ends share rank v
  pub onward : (d : ℕ) → d < 64 → at rank d < 64 → (at load d < w * c d) ⊎ Onward ends share rank d
  pub blank : (j : ℕ) → j < 1024 → 64 ≤ at ends j → at share j ≡ 0
  pub void : (i : ℕ) → i < 512 → 64 ≤ at ends i → at litres i ≡ 0
  -- a site with a depot that is neither in the set nor grouped is not laid; a grouped depot has nothing
  pub beyond : (j : ℕ) → j < 1024 → at rank (at ends j) ≤ 64 → 64 < at rank (at ends (reverse j)) → b (at ends (reverse j)) ≡ false → at share j ≡ 0
  pub grouped : (j : ℕ) → j < 1024 → 64 < at rank (at ends j) → at rank (at ends (reverse j)) ≤ 64 → at share j ≡ 0
  pub whole : (j i : ℕ) → j < 1024 → at ends j < 64 → (j ≡ i) ⊎ (j ≡ 512 + i) → i < 512 → at rank (at ends j) ≤ 64
      → (at rank (at ends (reverse j)) ≤ 64) ⊎ (b (at ends (reverse j)) ≡ true) → at share j + at share (reverse j) ≡ q * at litres i
