-- The figures of the definition: W, q and w × q of a plan with its groups are functions of the network, and what holds of them. Assumes nothing.
use mathlib.Core.Path.{◌≡◌, sym, ap, ap₂, ◌∙◌}
use mathlib.Core.List.{List}
use Prim.Native.Nat.{ℕ, zero, suc, ◌-◌, ◌*◌, ◌<◌, ◌≤◌}
use native.Mathlib.Nat.{mul_comm, not-suc-le-zero}
use lib.Dec.{ltb, lt→ltb}
use lib.IntN.{pos, negsuc, neg_ℤ, ◌-ℤ◌, ◌+ℤ◌, +ℤ_invr, +ℤ_comm, neg_ℤ-+ℤ, neg_ℤ-neg_ℤ}
use lib.ListN.{length}
use Rattle.sets.specs.Sum.{sum}
use Rattle.density.specs.Network.{Network, Valid}
use Rattle.density.specs.Groups.{Decomposition, groups_of}
use Rattle.density.specs.Plan.{place, group_size, group_litres, whole}
use Rattle.density.specs.Figures.{depot_litres, depot_size, site_whole, difference, divisor}
use Rattle.sets.proofs.Test.{cond-on}
use Rattle.density.proofs.Plans.{complete}
use Rattle.density.proofs.Totals.{total, few-groups}
use Rattle.density.proofs.Existence.{decomposition-is}

module _ (N : Network) (ok : Valid N) (gs : List ℕ) (h : Decomposition N gs) where
  pub depot-litres : (d : ℕ) → group_litres N gs (place gs d) ≡ depot_litres N d
  unfolding depot_litres
  depot-litres d = ap (λ hs. group_litres N hs (place hs d)) (decomposition-is N ok gs h)

  pub depot-size : (d : ℕ) → group_size N gs (place gs d) ≡ depot_size N d
  unfolding depot_size
  depot-size d = ap (λ hs. group_size N hs (place hs d)) (decomposition-is N ok gs h)

  pub site-whole : (i : ℕ) → whole N gs i ≡ site_whole N i
  unfolding site_whole
  site-whole i = ap (λ hs. whole N hs i) (decomposition-is N ok gs h)

  -- "The W of all groups add up to the litres of the list."
  pub litres-total : sum (group_litres N gs) (length gs) ≡ sum (λ i. (N.site i).litres) N.count
  litres-total = total N ok gs (complete N ok gs h).listed

  pub groups-few : length gs ≤ 64
  groups-few = few-groups N ok gs (complete N ok gs h)

  -- "Litres per depot, W/q, fall strictly from group to group."
  pub groups-fall : (k : ℕ) → suc k < length gs → group_litres N gs (suc k) * group_size N gs k < group_litres N gs k * group_size N gs (suc k)
  groups-fall = (complete N ok gs h).falls

-- ---- the difference of two depots

minus-self : (m n : ℕ) → m ≡ n → pos m -ℤ pos n ≡ pos 0
minus-self m n e = ap (λ k. pos m -ℤ pos k) (sym e) ∙ +ℤ_invr (pos m)

minus-less : (m n : ℕ) → m < n → pos m -ℤ pos n ≡ negsuc (n - suc m)
minus-less m zero l = absurd (not-suc-le-zero l)
minus-less m (suc n) l = cond-on (ltb m (suc n)) (negsuc (suc n - suc m)) (pos (m - suc n)) (lt→ltb m (suc n) l)

module _ (N : Network) (a b : ℕ) where
  -- "The difference is 0 for one depot twice or two of one group"
  pub difference-within : place (groups_of N) a ≡ place (groups_of N) b → difference N a b ≡ pos 0
  unfolding difference depot_litres depot_size
  difference-within e = minus-self _ _ (ap₂ (λ j k. group_litres N (groups_of N) j * group_size N (groups_of N) k) e (sym e))

  -- "and changes sign when the depots are exchanged"; the divisor stays
  pub difference-exchanged : difference N b a ≡ neg_ℤ (difference N a b)
  unfolding difference
  difference-exchanged =
      +ℤ_comm (pos (depot_litres N b * depot_size N a)) (neg_ℤ (pos (depot_litres N a * depot_size N b)))
      ∙ ap (λ k. neg_ℤ (pos (depot_litres N a * depot_size N b)) +ℤ k) (sym (neg_ℤ-neg_ℤ (pos (depot_litres N b * depot_size N a))))
      ∙ sym (neg_ℤ-+ℤ (pos (depot_litres N a * depot_size N b)) (neg_ℤ (pos (depot_litres N b * depot_size N a))))

  -- "below zero where a is lighter"
  pub difference-lighter : depot_litres N a * depot_size N b < depot_litres N b * depot_size N a
      → difference N a b ≡ negsuc (depot_litres N b * depot_size N a - suc (depot_litres N a * depot_size N b))
  unfolding difference
  difference-lighter = minus-less (depot_litres N a * depot_size N b) (depot_litres N b * depot_size N a)

  pub divisor-exchanged : divisor N b a ≡ divisor N a b
  unfolding divisor
  divisor-exchanged = mul_comm (depot_size N b) (depot_size N a)
