-- A set that is as dense as each of its subsets, and that all else falls below, is the next group. Assumes nothing.
use mathlib.Core.Path.{◌≡◌, ap}
use mathlib.Core.Logic.{⊎_elim}
use mathlib.Core.Bool.{not}
use Prim.Native.Nat.{ℕ, ◌+◌, ◌*◌, ◌≤◌, ◌<◌}
use native.Mathlib.Nat.{le_of_mul-le-mul_right, mul-le-mul_right}
use native.Mathlib.Omega.{arith}
use lib.Dec.{T_not}
use Rattle.sets.specs.Set.{Depots, ◌∪◌, ◌∩◌, ◌∖◌, ◌⊆◌, Apart}
use Rattle.density.specs.Network.{Network, Valid, litres, size}
use Rattle.density.specs.Groups.{Candidate, Next}
use Rattle.sets.proofs.Test.{or_cases, and_l, and_r}
use Rattle.density.proofs.Litres.{size_mono, size-split, size-empty, size-pos, litres-empty, litres-split}
use Rattle.density.proofs.Next.{AtMost, not-exceeds, next-densest, density}

-- X is a candidate, and none of its subsets has more litres per depot
pub record Dense (N : Network) (G X : Depots) : Type 0 where
  pub candidate : Candidate N G X
  pub subset : (Z : Depots) → Z ⊆ X → litres N Z G * size N X ≤ litres N X G * size N Z

-- every non-empty set of listed depots outside G has less than w / q litres per depot
pub record Below (N : Network) (G : Depots) (w q : ℕ) : Type 0 where
  pub less : (Y : Depots) → Y ⊆ N.listed → Apart Y G → litres N Y G * q ≤ w * size N Y
  pub strictly : (Y : Depots) → Y ⊆ N.listed → Apart Y G → litres N Y G * q ≡ w * size N Y → size N Y ≡ 0

module _ (N : Network) where
  pub below_end : (G : Depots) (w q : ℕ) → N.listed ⊆ G → Below N G w q
  below_end G w q h =
      record {
        less = λ Y l f. rw (litres-empty N Y G (λ d t. f d t (h d (l d t)))) (omega arith);
        strictly = λ Y l f e. size-empty N Y (λ d t. f d t (h d (l d t)));
      }

  pub below_next : Valid N → (G X : Depots) (w q : ℕ) → Next N G X → litres N X G * q < w * size N X → Below N G w q
  below_next ok G X w q x h =
      record {
        less = λ Y l f. le_of_mul-le-mul_right (omega (arith, scaled Y l f, mul-le-mul_right (size N Y) h)) (size-pos N ok X x.candidate.listed x.candidate.some);
        strictly = λ Y l f e. omega (arith, scaled Y l f, mul-le-mul_right (size N Y) h, ap (λ n. n * size N X) e);
      }
    where
      scaled : (Y : Depots) → Y ⊆ N.listed → Apart Y G → litres N Y G * size N X * q ≤ litres N X G * size N Y * q
      scaled Y l f = mul-le-mul_right q (density N ok G X (next-densest N G X x) Y l f)

  at-most-dense : (G X : Depots) → Dense N G X → Below N (G ∪ X) (litres N X G) (size N X)
      → (Y : Depots) → Candidate N G Y → AtMost N G Y X
  at-most-dense G X x b Y y =
      let split : litres N Y G * size N X ≤ (litres N (Y ∩ X) G + litres N (Y ∖ X) (G ∪ X)) * size N X =
      mul-le-mul_right (size N X) (litres-split N X Y G x.candidate.free y.free) in
      let part = x.subset (Y ∩ X) (λ d t. and_r (Y d) (X d) t) in
      let rest = b.less (Y ∖ X) listed apart in
      let sizes = ap (λ n. litres N X G * n) (size-split N X Y) in
      record {
        no-denser = omega arith;
        no-larger = λ e.
            omega
            (arith, b.strictly (Y ∖ X) listed apart (omega arith), size-split N X Y, size_mono N (Y ∩ X) X (λ d t. and_r (Y d) (X d) t));
      }
    where
      listed : (Y ∖ X) ⊆ N.listed
      listed d t = y.listed d (and_l (Y d) (not (X d)) t)

      apart : Apart (Y ∖ X) (G ∪ X)
      apart d t u =
          ⊎_elim (y.free d (and_l (Y d) (not (X d)) t)) (T_not (X d) (and_r (Y d) (not (X d)) t)) (or_cases (G d) (X d) u)

  pub next-of-dense : (G X : Depots) → Dense N G X → Below N (G ∪ X) (litres N X G) (size N X) → Next N G X
  next-of-dense G X x b = record { candidate = x.candidate; most = λ Y y. not-exceeds N G Y X (at-most-dense G X x b Y y) }
