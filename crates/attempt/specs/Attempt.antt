-- One attempt at a set: its sites are laid and its shares pushed.
use Rattle.std.specs.Prelude.{◌≡◌, true, false, ◌&&◌, List, ℕ, ◌+◌, ◌*◌, ◌≤◌, ◌<◌, ◌^◌, eqb, length}
use Rattle.sets.specs.Sum.{sum}
use Rattle.sets.specs.Set.{has, set_of}
use Rattle.residual.specs.Array.{at}
use Rattle.residual.specs.Search.{reverse, Paired, Linked}
use Rattle.attempt.specs.Outcome.{litres_of, Outcome}
use Rattle.attempt.specs.Lay.{Ready}

-- what an attempt asks
pub record Stage (ends chain litres crews : List ℕ) (set before q : ℕ) (share : List ℕ) : Type 0 where
  pub paired : Paired ends
  pub linked : Linked ends chain
  pub most : (j : ℕ) → j < 1024 → at ends j ≤ 64
  pub ready : Ready ends litres (has set) (has before) q
  pub crew : length crews ≡ 64
  pub heavy : (d : ℕ) → d < 64 → sum (at litres) 512 * at crews d < 2 ^ 64
  pub shares : length share ≡ 1024
  pub blank : (j : ℕ) → j < 1024 → 64 ≤ at ends j → at share j ≡ 0
  pub sites : (j : ℕ) → j < 1024 → at share j + at share (reverse j) < 2 ^ 64

-- the outcome of the pushes, with the set r of the depots that were not reached; the shares of sites between grouped depots are kept
pub record Attempted (ends litres crews : List ℕ) (set before q : ℕ) (share : List ℕ) (r : ℕ) (share' : List ℕ) : Type 0 where
  pub rank : List ℕ
  pub load : List ℕ
  pub w : ℕ
  pub litre : w ≡ litres_of ends litres (has set) (has before)
  pub outcome : Outcome ends litres share' load rank (has before) (at crews) q w
  pub inside : (d : ℕ) → d < 64 → at rank d ≤ 64 → has set d ≡ true
  pub outside : (d : ℕ) → d < 64 → 64 < at rank d → has set d ≡ false
  pub dense : r ≡ set_of (λ d. eqb (at rank d) 64) 64
  pub kept : (k : ℕ) → k < 512 → (at ends k < 64 → (has before (at ends k) && has before (at ends (512 + k))) ≡ true)
      → (at share' k ≡ at share k) × (at share' (512 + k) ≡ at share (512 + k))
  pub sites : (j : ℕ) → j < 1024 → at share' j + at share' (reverse j) < 2 ^ 64
  pub own : (k : ℕ) → k < 512 → at ends k < 64 → at ends k ≡ at ends (512 + k) → has set (at ends k) ≡ true → at share' (512 + k) ≡ 0
