-- The network of a list: it is valid if the list is in range, its crews are at most 9, and without a roll its sizes are numbers of depots. Assumes nothing.
use mathlib.Core.Path.{◌≡◌, sym, ap, ◌∙◌, subst}
use mathlib.Core.Logic.{⊎_elim}
use mathlib.Core.Bool.{Bool, true, false, ◌&&◌}
use mathlib.Core.List.{List}
use mathlib.Core.Option.{Option, none, some}
use Prim.Native.Nat.{ℕ, ◌≤◌, ◌<◌, ◌^◌}
use native.Mathlib.Nat.{eq-zero-or-pos}
use native.Mathlib.Omega.{arith}
use lib.Count.{ones}
use lib.Dec.{T, T_not, not_T, eqb, ltb, eqb→eq, eqb_refl, ltb→lt, nltb→le}
use lib.ListN.{length, get_or}
use Rattle.sets.specs.Sum.{any}
use Rattle.sets.specs.Set.{Depots, has, cardinality, weigh}
use Rattle.density.specs.Network.{
  Listing,
  Network,
  site_at,
  end,
  named,
  crews_of,
  enrolled,
  network,
  depots_in_range,
  crews_above,
  uncrewed,
  sites_uncrewed,
  in_range,
  Valid,
  size,
}
use Rattle.sets.proofs.Test.{or_l, or_r, or_cases, and_i, and_l, and_r, eq→eqb, is_false, fails}
use Rattle.sets.proofs.Sum.{all-at, any_at, any-from}
use Rattle.sets.proofs.Weigh.{weigh-le, cardinality-ones}

-- ---- what a list in range keeps

module _ (l : Listing) (h : T (in_range l)) where
  pub range-depots : T (depots_in_range l)
  unfolding in_range
  range-depots = search (and_l, and_r)

  -- row 22
  pub range-roll : crews_above l.roll ≡ false
  unfolding in_range
  range-roll = is_false (crews_above l.roll) (T_not (crews_above l.roll) (search (and_l, and_r)))

  pub range-crews : (d : ℕ) → d < 64 → crews_of l.roll d ≤ 9
  unfolding crews_above
  range-crews d m =
      nltb→le 9 (crews_of l.roll d) (not_T (ltb 9 (crews_of l.roll d)) (λ t. fails _ range-roll (any-from (λ d. ltb 9 (crews_of l.roll d)) 64 d m t)))

  -- row 23
  crewed-at : (i : ℕ) → i < length l.sites → T (uncrewed l.roll (site_at l i)) → ⊥
  unfolding in_range sites_uncrewed
  crewed-at i m t = T_not (sites_uncrewed l) (search (and_l, and_r)) (any-from (λ i. uncrewed l.roll (site_at l i)) (length l.sites) i m t)

  pub range-crewed : (d : ℕ) → T (named l d) → 0 < crews_of l.roll d
  range-crewed d t =
      let r = any_at _ (length l.sites) t in
      let s = site_at l r.0 in
      ⊎_elim
      (λ z.
      absurd
      (crewed-at r.0 r.1
      (⊎_elim (λ e. or_l (eqb (crews_of l.roll s.first) 0) _ (subst (λ c. T (eqb (crews_of l.roll c) 0)) (sym (eqb→eq _ d e)) (eq→eqb _ 0 z)))
      (λ e. or_r (eqb (crews_of l.roll s.first) 0) _ (subst (λ c. T (eqb (crews_of l.roll c) 0)) (sym (eqb→eq _ d e)) (eq→eqb _ 0 z)))
      (or_cases (eqb s.first d) (eqb s.second d) r.2))))
      (λ p. p)
      (eq-zero-or-pos (crews_of l.roll d))

-- without a roll every depot has one crew
pub bare-range : (l : Listing) → l.roll ≡ none → T (depots_in_range l) → T (in_range l)
unfolding in_range depots_in_range crews_above sites_uncrewed any
bare-range l e h =
    rw e
    (and_i (depots_in_range l && true) _ (and_i (depots_in_range l) true h tt)
    (not_T (any (λ i. false) (length l.sites)) (λ t. (any_at (λ i. false) (length l.sites) t).2)))

-- ---- the network

-- the depots that sites name are in range
pub named_small : (l : Listing) → T (depots_in_range l) → (d : ℕ) → T (named l d) → d < 64
unfolding depots_in_range
named_small l h d t =
    let n = length l.sites in
    let r = any_at _ n t in
    let s = site_at l r.0 in
    let b = all-at _ n h r.0 r.1 in
    ⊎_elim (λ e. subst (λ n. n < 64) (eqb→eq _ d e) (ltb→lt _ 64 (and_l (ltb s.first 64) _ b)))
    (λ e. subst (λ n. n < 64) (eqb→eq _ d e) (ltb→lt _ 64 (and_r (ltb s.first 64) _ b)))
    (or_cases (eqb s.first d) (eqb s.second d) r.2)

-- a depot that the roll has crews for is in range
pub enrolled→ : (roll : Option (List ℕ)) (d : ℕ) → T (enrolled roll d) → (d < 64) × (0 < crews_of roll d)
enrolled→ none d t = absurd t
enrolled→ (some roll) d t = (ltb→lt d 64 (and_l (ltb d 64) _ t), ltb→lt 0 (get_or roll d 0) (and_r (ltb d 64) _ t))

pub valid-of : (l : Listing) → T (depots_in_range l) → ((d : ℕ) → T (named l d) → 0 < crews_of l.roll d) → Valid (network l)
unfolding network
valid-of l h c =
    record {
      first-listed = λ i m. or_l (named l (site_at l i).first) _ (any-from _ n i m (or_l (eqb (site_at l i).first (site_at l i).first) _ (eqb_refl (site_at l i).first)));
      second-listed = λ i m. or_l (named l (site_at l i).second) _ (any-from _ n i m (or_r (eqb (site_at l i).first (site_at l i).second) _ (eqb_refl (site_at l i).second)));
      small = λ d t. ⊎_elim (named_small l h d) (λ u. (enrolled→ l.roll d u).0) (or_cases (named l d) (enrolled l.roll d) t);
      crewed = λ d t. ⊎_elim (c d) (λ u. (enrolled→ l.roll d u).1) (or_cases (named l d) (enrolled l.roll d) t);
    }
  where
    n : ℕ
    n = length l.sites

pub valid : (l : Listing) → T (in_range l) → Valid (network l)
valid l h = valid-of l (range-depots l h) (range-crewed l h)

-- the depots of its sites are below 64
pub end-small : (N : Network) → Valid N → (e : Bool) (i : ℕ) → i < N.count → end e (N.site i) < 64
end-small N ok true i l = ok.small _ (ok.first-listed i l)
end-small N ok false i l = ok.small _ (ok.second-listed i l)

-- the size of a set is at most 64 × 9
pub size-most : (l : Listing) → T (in_range l) → (X : Depots) → size (network l) X ≤ 576
unfolding network size
size-most l h X = omega (arith, weigh-le (crews_of l.roll) X 64 9 (range-crews l h))

-- without a roll the size of a set is the number of its depots, and of a number's set the number of its ones
pub size-cardinality : (l : Listing) → l.roll ≡ none → (X : Depots) → size (network l) X ≡ cardinality X 64
unfolding network size cardinality
size-cardinality l e X = ap (λ (r : Option (List ℕ)). weigh (crews_of r) X 64) e

pub size-ones : (l : Listing) → l.roll ≡ none → (x : ℕ) → x < 2 ^ 64 → size (network l) (has x) ≡ ones x
size-ones l e x h = size-cardinality l e (has x) ∙ cardinality-ones 64 x h
