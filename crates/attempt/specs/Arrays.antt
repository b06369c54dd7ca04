-- The maker's arrays, and the network that they hold.
use Rattle.std.specs.Prelude.{◌≡◌, Bool, true, false, List, ℕ, ◌+◌, ◌*◌, ◌≤◌, ◌<◌, ◌^◌, length, take}
use Rattle.sets.specs.Sum.{sum}
use Rattle.sets.specs.Set.{has}
use Rattle.density.specs.Network.{Network, Valid, end}
use Rattle.density.specs.Plan.{TruePlan}
use Rattle.residual.specs.Array.{at}
use Rattle.residual.specs.Search.{reverse, Paired}
use Rattle.attempt.specs.Lay.{Listed}

-- the arc of site i at its first (true) or second depot
abbrev pub arc : Bool → ℕ → ℕ
arc true i = i
arc false i = 512 + i

-- site i stands at place i; a place without a site has no litres and the depot 64
pub record Holds (N : Network) (ends litres crews : List ℕ) (listed : ℕ) : Type 0 where
  pub few : N.count ≤ 512
  pub depot : (e : Bool) (i : ℕ) → i < N.count → at ends (arc e i) ≡ end e (N.site i)
  pub litre : (i : ℕ) → i < N.count → at litres i ≡ (N.site i).litres
  pub none : (i : ℕ) → N.count ≤ i → i < 512 → at litres i ≡ 0
  pub blank : (e : Bool) (i : ℕ) → N.count ≤ i → i < 512 → 64 ≤ at ends (arc e i)
  pub crew : (d : ℕ) → d < 64 → at crews d ≡ N.crews d
  pub list : (d : ℕ) → has listed d ≡ N.listed d

-- The arrays have their sizes and hold a network, 64 stands for no depot, each depot has at most 9 crews, and the litres fit.
pub record Tables (ends litres crews : List ℕ) (listed : ℕ) : Type 0 where
  pub paired : Paired ends
  pub most : (j : ℕ) → j < 1024 → at ends j ≤ 64
  pub sites : Listed ends litres
  pub crew : length crews ≡ 64
  pub most-crews : (d : ℕ) → d < 64 → at crews d ≤ 9
  pub litre-fits : sum (at litres) 512 < 2 ^ 64
  pub fits : sum (at crews) 64 * sum (at litres) 512 < 2 ^ 64
  pub network : Network
  pub valid : Valid network
  pub holds : Holds network ends litres crews listed

-- only sites have shares, and no site's sum wraps
pub record Shares (ends share : List ℕ) : Type 0 where
  pub size : length share ≡ 1024
  pub blank : (j : ℕ) → j < 1024 → 64 ≤ at ends j → at share j ≡ 0
  pub sites : (j : ℕ) → j < 1024 → at share j + at share (reverse j) < 2 ^ 64

-- where the splitting begins: the listed depots are on the stack, and there are no groups
pub record Begun (ends : List ℕ) (listed : ℕ) (stack share groups : List ℕ) : Type 0 where
  pub bits : listed < 2 ^ 64
  pub wide : length stack ≡ 64
  pub base : at stack 0 ≡ listed
  pub shares : Shares ends share
  pub places : length groups ≡ 64
  pub empty : (k : ℕ) → at groups k ≡ 0

-- Of every network that the arrays hold, the first n groups and the shares at the first depots are a true plan. The places beyond are 0.
pub record Grouped (ends litres crews : List ℕ) (listed : ℕ) (share groups : List ℕ) (n : ℕ) : Type 0 where
  pub few : n ≤ 64
  pub size : length share ≡ 1024
  pub plan : (N : Network) → Valid N → Holds N ends litres crews listed → TruePlan N (take n groups) (take N.count share)
  pub beyond : (k : ℕ) → n ≤ k → at groups k ≡ 0
