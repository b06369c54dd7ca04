-- The sums over the maker's arrays are those of the network that they hold. Assumes nothing.
use mathlib.Core.Bool.{Bool, false, not, true}
use mathlib.Core.List.{List}
use mathlib.Core.Logic.{◌⊎◌, inl, inr}
use mathlib.Core.Path.{◌≡◌, ap, refl}
use Prim.Native.Nat.{◌+◌, ◌<◌, ℕ}
use native.Mathlib.Omega.{arith}
use Rattle.sets.specs.Set.{Depots, weigh}
use Rattle.sets.specs.Sum.{when}
use Rattle.sets.proofs.Sum.{sum-cong, sum-cut}
use Rattle.sets.proofs.Test.{when-zero}
use Rattle.density.specs.Network.{Network, counts, litres, size}
use Rattle.residual.specs.Array.{at}
use Rattle.residual.specs.Search.{reverse}
use Rattle.attempt.specs.Arrays.{Holds, arc}
use Rattle.attempt.specs.Outcome.{brings, litres_of, site_in}
use Rattle.attempt.proofs.AllLaid.{side-first, side-second}

module _ {N : Network} {ends litre crews : List ℕ} {listed : ℕ} (h : Holds N ends litre crews listed) where
  pub counts-held : (X G : Depots) (i : ℕ) → i < N.count → counts X G (site_in ends litre i) ≡ counts X G (N.site i)
  counts-held X G i l = rw (h.depot true i l, h.depot false i l) refl

  pub litres-held : (X G : Depots) → litres_of ends litre X G ≡ litres N X G
  unfolding litres_of brings litres
  litres-held X G =
      sum-cut _ _ 512 N.count h.few (λ i l. rw (counts-held X G i l, h.litre i l) refl) (λ i l m. rw (h.none i l m) (when-zero (counts X G (site_in ends litre i))))

  pub size-held : (X : Depots) → weigh (at crews) X 64 ≡ size N X
  unfolding weigh size
  size-held X = sum-cong _ _ 64 (λ d l. ap (when (X d)) (h.crew d l))

pub reverse-arc : (e : Bool) (i : ℕ) → i < 512 → reverse (arc e i) ≡ arc (not e) i
reverse-arc true i l = side-first i l
reverse-arc false i l = side-second i l

pub arc-lt : (e : Bool) (i : ℕ) → i < 512 → arc e i < 1024
arc-lt true i l = omega arith
arc-lt false i l = omega arith

pub arc-is : (e : Bool) (i : ℕ) → (arc e i ≡ i) ⊎ (arc e i ≡ 512 + i)
arc-is true i = inl refl
arc-is false i = inr refl
