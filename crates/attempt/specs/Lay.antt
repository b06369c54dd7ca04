-- Laying the sites of a set, each whole on one of its depots, and aiming at its targets.
use Rattle.std.specs.Prelude.{◌≡◌, true, false, cond, ◌&&◌, List, ◌⊎◌, ℕ, ◌+◌, ◌*◌, ◌-◌, ◌^◌, ◌≤◌, ◌<◌, eqb, length, set}
use Rattle.sets.specs.Sum.{when, sum}
use Rattle.sets.specs.Set.{Depots, has}
use Rattle.residual.specs.Array.{at, total_load}
use Rattle.lay_on.specs.Raise.{raise}
use Rattle.attempt.specs.Outcome.{brings}

-- the sites and their litres: 64 stands for no depot, with no litres
pub record Listed (ends litres : List ℕ) : Type 0 where
  pub arcs : length ends ≡ 1024
  pub sizes : length litres ≡ 512
  pub pair : (i : ℕ) → i < 512 → at ends i < 64 → at ends (512 + i) < 64
  pub none : (i : ℕ) → i < 512 → 64 ≤ at ends i → 64 ≤ at ends (512 + i)
  pub void : (i : ℕ) → i < 512 → 64 ≤ at ends i → at litres i ≡ 0

-- Site i is laid: not touched where both depots are grouped before; else its first depot has all if it is in s, its second otherwise.
abbrev pub SiteLaid : List ℕ → List ℕ → Depots → Depots → ℕ → ℕ → List ℕ → List ℕ → ℕ → List ℕ → List ℕ → Type 0
SiteLaid ends litres s b q i share load r share' load' =
    ((share' ≡ share) × (load' ≡ load) × (r ≡ 0) × ((at ends i < 64 → (b (at ends i) && b (at ends (512 + i))) ≡ true)))
    ⊎ ((at ends i < 64) × ((b (at ends i) && b (at ends (512 + i))) ≡ false) × (r ≡ brings ends litres s b i)
    × (share' ≡ set (set share i (when (s (at ends i)) (q * r))) (512 + i) (q * r - when (s (at ends i)) (q * r)))
    × (load' ≡ raise (raise load (at ends i) (when (s (at ends i)) (q * r))) (at ends (512 + i)) (q * r - when (s (at ends i)) (q * r))))

-- the first i sites are laid
pub record Laying (ends litres : List ℕ) (s b : Depots) (q : ℕ) (share₀ : List ℕ) (w : ℕ) (share load : List ℕ) (i : ℕ) : Type 0 where
  pub shares : length share ≡ 1024
  pub sizes : length load ≡ 64
  pub low : i ≤ 512
  pub sum_is : total_load load ≡ q * w
  pub litre : w ≡ sum (brings ends litres s b) i
  pub loads : (d : ℕ) → d < 64 → s d ≡ true → at load d ≡ sum (λ k. when (eqb (at ends k) d) (at share k) + when (eqb (at ends (512 + k)) d) (at share (512 + k))) i
  pub kept : (k : ℕ) → k < 512 → (at ends k < 64 → (b (at ends k) && b (at ends (512 + k))) ≡ true)
      → (at share k ≡ at share₀ k) × (at share (512 + k) ≡ at share₀ (512 + k))
  pub laid : (k : ℕ) → k < i → at ends k < 64 → (b (at ends k) && b (at ends (512 + k))) ≡ false
      → (at share k ≡ when (s (at ends k)) (q * brings ends litres s b k))
      × (at share (512 + k) ≡ q * brings ends litres s b k - when (s (at ends k)) (q * brings ends litres s b k))

-- what laying asks: the set and what is grouped are apart, and the sums fit
pub record Ready (ends litres : List ℕ) (s b : Depots) (q : ℕ) : Type 0 where
  pub listed : Listed ends litres
  pub apart : (d : ℕ) → d < 64 → b d ≡ true → s d ≡ false
  pub all : sum (at litres) 512 < 2 ^ 64
  pub fits : q * sum (at litres) 512 < 2 ^ 64

-- The depots below d have their targets and ranks: those of the set their crews times w and 64, the others 0 and 65.
pub record Aiming (crews : List ℕ) (set w : ℕ) (target rank : List ℕ) (d : ℕ) : Type 0 where
  pub targets : length target ≡ 64
  pub ranks : length rank ≡ 64
  pub low : d ≤ 64
  pub done : (x : ℕ) → x < d → (at target x ≡ when (has set x) (w * at crews x)) × (at rank x ≡ cond (has set x) 64 65)
