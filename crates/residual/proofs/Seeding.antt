-- The beginning of a search: the order is cleared, and begun with the depots that lack share. Assumes nothing.
use mathlib.Core.Path.{◌≡◌, refl, sym, ap, ◌∙◌}
use mathlib.Core.List.{List}
use mathlib.Core.Logic.{◌⊎◌, inl, inr, ⊎_elim}
use Prim.Native.Nat.{ℕ, ◌+◌, ◌-◌, ◌≤◌, ◌<◌, max}
use native.Mathlib.Omega.{arith}
use lib.ListN.{length, set, length-set}
use lib.Seq.{get_or-set_other}
use lib.Dec.{leb}
use Rattle.sets.specs.Sum.{when}
use Rattle.sets.proofs.Sum.{sum-cong, sum-const}
use Rattle.residual.specs.Array.{at}
use Rattle.residual.specs.Search.{Queue, Enqueued}
use Rattle.residual.specs.Rounds.{Cleared, Seeded}
use Rattle.residual.proofs.Laws.{stored, room, free-out, enqueued, below?}
use Rattle.residual.proofs.Scanning.{last}

pub record Clearing (rank₀ rank : List ℕ) (d : ℕ) : Type 0 where
  pub size : length rank ≡ 64
  pub low : d ≤ 64
  pub done : (x : ℕ) → x < d → at rank x ≡ max (at rank₀ x) 64
  pub rest : (x : ℕ) → d ≤ x → at rank x ≡ at rank₀ x

pub clear-begins : {rank : List ℕ} → length rank ≡ 64 → Clearing rank rank 0
clear-begins h = record { size = h; low = omega arith; done = λ x l. absurd (omega arith); rest = λ x l. refl }

module _ {rank₀ rank : List ℕ} {d : ℕ} (i : Clearing rank₀ rank d) where
  pub clear-goes : (r : ℕ) → d < 64 → r ≡ max (at rank d) 64 → Clearing rank₀ (set rank d r) (d + 1)
  clear-goes r h e = record {
    size = simp length-set i.size;
    low = omega arith;
    done = λ x l. ⊎_elim
        (λ w. w.1 ∙ e ∙ ap (λ (y : ℕ). max y 64) (i.rest d (omega arith)) ∙ ap (λ (y : ℕ). max (at rank₀ y) 64) (sym w.0))
        (λ w. w.1 ∙ i.done x (omega (arith, w.0)))
        (stored rank d r x (omega (arith, i.size)));
    rest = λ x l. get_or-set_other rank d x r 0 (omega arith) ∙ i.rest x (omega arith);
  }

  pub clear-ends : 64 ≤ d → Cleared rank₀ rank
  clear-ends h = record { size = i.size; each = λ x l. i.done x (omega arith) }

-- a cleared order is empty
pub cleared : {rank rank' : List ℕ} (order : List ℕ) → length order ≡ 64 → Cleared rank rank' → Queue 0 order rank'
cleared {rank} {rank'} order h c = record {
  orders = h;
  ranks = c.size;
  places = omega (arith, c.size, sum-cong (λ d. when (leb 64 (at rank' d)) 1) (λ d. 1) 64 (λ d l. free-out (at rank' d) (omega (arith, c.each d l))), sum-const 1 64);
  depot = λ k l. absurd (omega arith);
  placed = λ k l. absurd (omega arith);
  found = λ d l m. absurd (omega (arith, c.each d l));
}

module _ {give u n n' : ℕ} {order rank order' rank' : List ℕ} (q : Queue n order rank) (h : u < 64) (o : Enqueued give u n order rank n' order' rank') where
  -- an enqueue leaves a depot's place, or gives it one
  pub enqueued-rank : (x : ℕ) → (at rank' x ≡ at rank x) ⊎ ((at rank x ≡ 64) × (at rank' x < 64))
  enqueued-rank x = ⊎_elim
      (λ w. inl (ap (λ (r : List ℕ). at r x) w.2))
      (λ w. ⊎_elim
      (λ s. inr (ap (at rank) s.0 ∙ w.4, omega (arith, ap (λ (r : List ℕ). at r x) w.2, s.1, room u q h w.4)))
      (λ s. inl (ap (λ (r : List ℕ). at r x) w.2 ∙ s.1))
      (stored rank u n x (omega (arith, q.ranks))))
      o

  -- each depot of the order was there, or is the one that was enqueued
  pub enqueued-order : (k : ℕ) → k < n' → ((k < n) × (at order' k ≡ at order k)) ⊎ ((0 < give) × (at order' k ≡ u))
  enqueued-order k l = ⊎_elim
      (λ w. inl (omega (arith, w.0), ap (λ (r : List ℕ). at r k) w.1))
      (λ w. ⊎_elim
      (λ s. inr (w.3, ap (λ (r : List ℕ). at r k) w.1 ∙ s.1))
      (λ s. inl (omega (arith, w.0, s.0), ap (λ (r : List ℕ). at r k) w.1 ∙ s.1))
      (stored order n u k (omega (arith, q.orders, room u q h w.4))))
      o

pub record Seeding (target load rank₀ : List ℕ) (n : ℕ) (order rank : List ℕ) (d : ℕ) : Type 0 where
  pub queue : Queue n order rank
  pub low : d ≤ 64
  pub seeds : (k : ℕ) → k < n → at load (at order k) < at target (at order k)
  pub done : (x : ℕ) → x < d → at load x < at target x → at rank x ≡ 64 → ⊥
  pub kept : (x : ℕ) → (at rank x ≡ at rank₀ x) ⊎ ((at rank₀ x ≡ 64) × (at rank x < 64))

pub seed-begins : {target load order rank : List ℕ} → Queue 0 order rank → Seeding target load rank 0 order rank 0
seed-begins q = record { queue = q; low = omega arith; seeds = λ k l. absurd (omega arith); done = λ x l. absurd (omega arith); kept = λ x. inl refl }

module _ {target load rank₀ : List ℕ} {n : ℕ} {order rank : List ℕ} {d : ℕ} (i : Seeding target load rank₀ n order rank d) where
  pub seed-goes : {n' : ℕ} {order' rank' : List ℕ} (g : ℕ) → d < 64 → g ≡ at target d - at load d → Enqueued g d n order rank n' order' rank'
      → Seeding target load rank₀ n' order' rank' (d + 1)
  seed-goes {n'} {order'} {rank'} g h e o = record {
    queue = enqueued i.queue h o;
    low = omega arith;
    seeds = λ k l. ⊎_elim
        (λ w. rw w.1 (i.seeds k w.0))
        (λ w. rw w.1 (omega (arith, w.0)))
        (enqueued-order i.queue h o k l);
    done = λ x l lacks out. ⊎_elim
        (λ b. i.done x b lacks (⊎_elim (λ w. sym w ∙ out) (λ w. w.0) (enqueued-rank i.queue h o x)))
        (λ b. let z : x ≡ d = omega arith in last i.queue h o (omega (arith, ap (at load) z, ap (at target) z)) (ap (at rank') (sym z) ∙ out))
        (below? x d);
    kept = λ x. ⊎_elim
        (λ w. ⊎_elim (λ v. inl (w ∙ v)) (λ v. inr (v.0, omega (arith, w, v.1))) (i.kept x))
        (λ w. inr (⊎_elim (λ v. sym v ∙ w.0) (λ v. v.0) (i.kept x), w.1))
        (enqueued-rank i.queue h o x);
  }

  pub seed-ends : 64 ≤ d → Seeded target load rank₀ n order rank
  seed-ends h = record { queue = i.queue; seeds = i.seeds; all = λ x l. i.done x (omega arith); kept = i.kept }
