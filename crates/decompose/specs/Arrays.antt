-- The arrays that a list fills, and the shares copied out of them.
use Rattle.std.specs.Prelude.{◌≡◌, Bool, List, ℕ, ◌≤◌, ◌<◌, ◌^◌, length, get_or, take}
use Rattle.density.specs.declared.Site.{Site}
use Rattle.density.specs.Network.{no_site, end}
use Rattle.residual.specs.Array.{at}
use Rattle.attempt.specs.Arrays.{arc}

-- the first i sites of the table stand in the arrays
pub record Filling (table : List Site) (ends litres : List ℕ) (i : ℕ) : Type 0 where
  pub arcs : length ends ≡ 1024
  pub sizes : length litres ≡ 512
  pub low : i ≤ 512
  pub depot : (e : Bool) (k : ℕ) → k < i → at ends (arc e k) ≡ end e (get_or table k no_site)
  pub litre : (k : ℕ) → k < i → at litres k ≡ (get_or table k no_site).litres
  pub fits : (k : ℕ) → k < i → at litres k < 2 ^ 32
  pub blank : (e : Bool) (k : ℕ) → i ≤ k → k < 512 → at ends (arc e k) ≡ 64
  pub none : (k : ℕ) → i ≤ k → k < 512 → at litres k ≡ 0

-- the first n elements, and 0 beyond
pub record Copied (xs : List ℕ) (n : ℕ) (ys : List ℕ) : Type 0 where
  pub first : take n ys ≡ take n xs
  pub beyond : (i : ℕ) → n ≤ i → at ys i ≡ 0
