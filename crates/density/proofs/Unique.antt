-- The decomposition is unique. Assumes nothing.
use mathlib.Core.Path.{◌≡◌, refl, ap, ap₂, subst}
use mathlib.Core.List.{List, [], ◌∷◌}
use Prim.Native.Nat.{ℕ}
use Rattle.sets.specs.Set.{Depots, ∅, ◌∪◌, has}
use Rattle.density.specs.Network.{Network, Valid}
use Rattle.density.specs.Groups.{Follow, Decomposition}
use Rattle.density.proofs.Next.{unique}
use Rattle.sets.proofs.Member.{ext}

module _ (N : Network) (ok : Valid N) where
  pub follow-unique : (G : Depots) (gs hs : List ℕ) → Follow N G gs → Follow N G hs → gs ≡ hs
  unfolding Follow
  follow-unique G [] [] f h = refl
  follow-unique G [] (b ∷ hs) f h = absurd (h.0.candidate.free _ h.0.candidate.some.1 (f _ (h.0.candidate.listed _ h.0.candidate.some.1)))
  follow-unique G (a ∷ gs) [] f h = absurd (f.0.candidate.free _ f.0.candidate.some.1 (h _ (f.0.candidate.listed _ f.0.candidate.some.1)))
  follow-unique G (a ∷ gs) (b ∷ hs) f h =
      let e = unique N ok G (has a) (has b) f.0 h.0 in
      ap₂ ◌∷◌ (ext a b (λ d. ap (λ X. X d) e)) (follow-unique (G ∪ has b) gs hs (subst (λ X. Follow N (G ∪ X) gs) e f.1) h.1)

  pub decomposition-unique : (gs hs : List ℕ) → Decomposition N gs → Decomposition N hs → gs ≡ hs
  unfolding Decomposition
  decomposition-unique = follow-unique ∅
