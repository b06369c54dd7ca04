-- The loop that gathers the depots of rank 64. Assumes nothing.
use mathlib.Core.Path.{◌≡◌, sym, ap, ◌∙◌}
use mathlib.Core.List.{List}
use Prim.Native.Nat.{ℕ, ◌+◌, ◌<◌}
use borrow.Author.Tests.{eq-eqb, ne_eqb}
use lib.Dec.{eqb}
use Rattle.sets.specs.Set.{Depots, ◌∪◌, only, has, set_of}
use Rattle.sets.proofs.Set.{set_of-take, set_of-skip}
use Rattle.residual.specs.Array.{at}

-- the depots of rank 64: they take part and are not in the order
abbrev pub unreached_set : List ℕ → Depots
unreached_set rank d = eqb (at rank d) 64

module _ (rank : List ℕ) (d : ℕ) {set set' : ℕ} (i : set ≡ set_of (unreached_set rank) d) where
  pub gather-takes : {r : ℕ} → d < 64 → at rank d ≡ 64 → r ≡ set_of (has set ∪ only d) 64 → set' ≡ r → set' ≡ set_of (unreached_set rank) (d + 1)
  gather-takes h e f g =
      g ∙ f ∙ ap (λ (s : ℕ). set_of (has s ∪ only d) 64) i ∙ sym (set_of-take (unreached_set rank) d 64 h (eq-eqb (at rank d) 64 e))

  pub gather-skips : (at rank d ≡ 64 → ⊥) → set' ≡ set → set' ≡ set_of (unreached_set rank) (d + 1)
  gather-skips e g = g ∙ i ∙ sym (set_of-skip (unreached_set rank) d (ne_eqb (at rank d) 64 e))
