-- The loop that links the arcs. Assumes nothing.
use mathlib.Core.Path.{◌≡◌, sym, ap, subst, ◌∙◌}
use mathlib.Core.List.{List}
use mathlib.Core.Logic.{⊎_elim}
use Prim.Native.Nat.{ℕ, ◌+◌, ◌≤◌, ◌<◌}
use native.Mathlib.Omega.{arith}
use native.Mathlib.Decide.{ℕ_discrete}
use lib.ListN.{set, length-set}
use lib.Seq.{get_or-set_same, get_or-set_other}
use Rattle.residual.specs.Array.{at}
use Rattle.residual.specs.Search.{Last, Linked, Linking, Prepended}
use Rattle.residual.proofs.Laws.{below?}

-- one more arc, at another depot
past : {ends : List ℕ} {d j x : ℕ} → Last ends d j x → (at ends j ≡ d → ⊥) → Last ends d (j + 1) x
past {ends} {d} {j} l n = record {
  below = omega (arith, l.below);
  here = l.here;
  none = λ k a b e. ⊎_elim (λ z. l.none k a z e) (λ z. let k≡j : k ≡ j = omega arith in n (ap (at ends) (sym k≡j) ∙ e)) (below? k j);
}

module _ {ends chain : List ℕ} {j : ℕ} (i : Linking ends chain j) where
  pub link-goes : {chain' : List ℕ} → j < 1024 → Prepended (at ends j) j chain chain' → Linking ends chain' (j + 1)
  link-goes {chain'} h = ⊎_elim
      (λ w. rw w.1 (record {
        arcs = i.arcs;
        size = i.size;
        low = omega arith;
        first = λ d l. past (i.first d l) (λ e. omega (arith, w.0));
        next = λ k l e. ⊎_elim (λ z. i.next k z e) (λ z. let k≡j : k ≡ j = omega arith in absurd (omega (arith, w.0, ap (at ends) k≡j))) (below? k j);
      }))
      (λ w. rw w.1 (record {
        arcs = i.arcs;
        size = simp length-set i.size;
        low = omega arith;
        first = λ d l. first d l w.0 (ℕ_discrete d (at ends j));
        next = λ k l e. ⊎_elim
            (λ z. rw (other k w.0 (omega arith) (omega arith)) (i.next k z e))
            (λ z. let k≡j : k ≡ j = omega arith in rw (k≡j, own w.0) (i.first (at ends j) w.0))
            (below? k j);
      }))
    where
      other : (k : ℕ) → at ends j < 64 → (k ≡ j → ⊥) → (k ≡ 1024 + at ends j → ⊥) → at (set (set chain j (at chain (1024 + at ends j))) (1024 + at ends j) (j + 1)) k ≡ at chain k
      other k e a b = get_or-set_other (set chain j (at chain (1024 + at ends j))) (1024 + at ends j) k (j + 1) 0 b ∙ get_or-set_other chain j k (at chain (1024 + at ends j)) 0 a

      own : at ends j < 64 → at (set (set chain j (at chain (1024 + at ends j))) (1024 + at ends j) (j + 1)) j ≡ at chain (1024 + at ends j)
      own e = get_or-set_other (set chain j (at chain (1024 + at ends j))) (1024 + at ends j) j (j + 1) 0 (omega arith)
          ∙ get_or-set_same chain j (at chain (1024 + at ends j)) 0 (omega (arith, i.size))

      head : at ends j < 64 → at (set (set chain j (at chain (1024 + at ends j))) (1024 + at ends j) (j + 1)) (1024 + at ends j) ≡ j + 1
      head e = get_or-set_same (set chain j (at chain (1024 + at ends j))) (1024 + at ends j) (j + 1) 0 (rw length-set (omega (arith, i.size)))

      first : (d : ℕ) → d < 64 → at ends j < 64 → Dec (d ≡ at ends j) → Last ends d (j + 1) (at (set (set chain j (at chain (1024 + at ends j))) (1024 + at ends j) (j + 1)) (1024 + d))
      first d l e (yes z) = rw (z, head e) (record { below = omega arith; here = λ p. ap (at ends) (omega arith); none = λ k a b c. omega arith })
      first d l e (no z) = rw (other (1024 + d) e (omega arith) (omega arith)) (past (i.first d l) (λ y. z (sym y)))

  pub link-ends : 1024 ≤ j → Linked ends chain
  link-ends h = let z : j ≡ 1024 = omega (arith, i.low) in record {
    size = i.size;
    first = λ d l. subst (λ (n : ℕ). Last ends d n (at chain (1024 + d))) z (i.first d l);
    next = λ k l e. i.next k (omega arith) e;
  }
