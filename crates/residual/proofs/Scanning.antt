-- One scan: what holds while the arcs at a depot are gone through. Assumes nothing.
use mathlib.Core.Path.{◌≡◌, sym, ap, ◌∙◌}
use mathlib.Core.List.{List}
use mathlib.Core.Logic.{⊎_elim}
use Prim.Native.Nat.{ℕ, ◌+◌, ◌-◌, ◌≤◌, ◌<◌}
use native.Mathlib.Omega.{arith}
use lib.Seq.{get_or-set_same}
use Rattle.residual.specs.Array.{at}
use Rattle.residual.specs.Search.{reverse, Last, Queue, Enqueued, Grown, Residual, Placed, Scanned}
use Rattle.residual.proofs.Laws.{reverse-lt, reverse_twice, room, enqueued, enqueued-grown, grown-none, grown-rank, grown-out, grown-grown, below?}

-- the arc a has been gone over: what lies reverse is in the order, takes no part, or has nothing to give
abbrev pub Over : List ℕ → List ℕ → List ℕ → ℕ → Type 0
Over ends share rank a = 0 < at share (reverse a) → at rank (at ends (reverse a)) ≡ 64 → ⊥

-- the arcs at v from j on are done; j is 1 + the next one
pub record Scanning (ends chain share : List ℕ) (v start : ℕ) (order₀ rank₀ : List ℕ) (n : ℕ) (order rank : List ℕ) (j : ℕ) : Type 0 where
  pub net : Residual ends chain share
  pub placed : Placed rank v
  pub queue : Queue n order rank
  pub grown : Grown ends share start order₀ rank₀ n order rank
  pub low : j ≤ 1024
  pub here : 0 < j → at ends (j - 1) ≡ v
  pub done : (a : ℕ) → j ≤ a → a < 1024 → at ends a ≡ v → Over ends share rank a

-- a depot that was enqueued is not left outside
pub last : {give u n : ℕ} {order rank : List ℕ} {n' : ℕ} {order' rank' : List ℕ} → Queue n order rank → u < 64
    → Enqueued give u n order rank n' order' rank' → 0 < give → at rank' u ≡ 64 → ⊥
last {u = u} {n = n} {rank = rank} q h o g out =
    ⊎_elim
    (λ w. w.3 g (ap (λ (r : List ℕ). at r u) (sym w.2) ∙ out))
    (λ w. omega (arith, room u q h w.4, ap (λ (r : List ℕ). at r u) w.2 ∙ get_or-set_same rank u n 0 (omega (arith, q.ranks))))
    o

module _ {ends chain share : List ℕ} {v start : ℕ} {order₀ rank₀ : List ℕ} where
  pub scan_begins : Residual ends chain share → Placed rank₀ v → Queue start order₀ rank₀
      → Scanning ends chain share v start order₀ rank₀ start order₀ rank₀ (at chain (1024 + v))
  scan_begins t p q =
      let l : Last ends v 1024 (at chain (1024 + v)) = t.linked.first v p.depot in
      record {
        net = t;
        placed = p;
        queue = q;
        grown = grown-none;
        low = l.below;
        here = l.here;
        done = λ a b c e. absurd (l.none a b c e);
      }

  module _ {n : ℕ} {order rank : List ℕ} {j : ℕ} (i : Scanning ends chain share v start order₀ rank₀ n order rank j) (b : 0 < j) where
    pub scan-next : Last ends (at ends (j - 1)) (j - 1) (at chain (j - 1))
    scan-next = i.net.linked.next (j - 1) (omega (arith, i.low)) (omega (arith, i.here b, i.placed.depot))

    pub scan-falls : at chain (j - 1) < j
    scan-falls = omega (arith, scan-next.below)

    -- what lies reverse is a depot
    pub scan-depot : (p : ℕ) → p ≡ reverse (j - 1) → at ends p < 64
    scan-depot p e = rw e (i.net.paired.both (j - 1) (omega (arith, i.low)) (omega (arith, i.here b, i.placed.depot)))

  -- the enqueue over the arc j - 1, and the step to the arc before
  pub scan-goes : {n : ℕ} {order rank : List ℕ} {j n' : ℕ} {order' rank' : List ℕ} (p : ℕ) → Scanning ends chain share v start order₀ rank₀ n order rank j
      → 0 < j → p ≡ reverse (j - 1) → Enqueued (at share p) (at ends p) n order rank n' order' rank'
      → Scanning ends chain share v start order₀ rank₀ n' order' rank' (at chain (j - 1))
  scan-goes {n} {order} {rank} {j} {n'} {order'} {rank'} p i b e o =
      let a : ℕ = j - 1 in
      let low : a < 1024 = omega (arith, i.low) in
      let here : at ends a ≡ v = i.here b in
      let back : at ends (reverse p) ≡ v = ap (at ends) (ap reverse e ∙ reverse_twice a low) ∙ here in
      let depot : at ends p < 64 = scan-depot i b p e in
      let step : Grown ends share n order rank n' order' rank' =
      enqueued-grown p (omega (arith, reverse-lt a low)) depot
      (omega (arith, ap (at rank) back, i.placed.within)) (omega (arith, i.placed.depot)) i.queue o in
      let l : Last ends (at ends a) a (at chain a) = scan-next i b in
      record {
        net = i.net;
        placed = record { depot = i.placed.depot; within = omega (arith, grown-rank i.queue step v (i.queue.found v i.placed.depot i.placed.within).0, i.placed.within) };
        queue = enqueued i.queue depot o;
        grown = grown-grown i.queue i.grown step;
        low = omega (arith, l.below);
        here = λ h. l.here h ∙ here;
        done = λ x f g h gives out. ⊎_elim
            (λ y. l.none x f y (h ∙ sym here))
            (λ y. ⊎_elim
            (λ z. i.done x (omega arith) g h gives (grown-out step _ out))
            (λ z. let x≡a : x ≡ a = omega arith in last i.queue depot o (rw (e, ← x≡a) gives) (rw (e, ← x≡a) out))
            (below? a x))
            (below? x a);
      }

  pub scan-ends : {n : ℕ} {order rank : List ℕ} {j : ℕ} → Scanning ends chain share v start order₀ rank₀ n order rank j → j ≤ 0
      → Scanned ends share v start order₀ rank₀ n order rank
  scan-ends {rank = rank} i z = record {
    queue = i.queue;
    grown = i.grown;
    closed = λ p l g e out.
        i.done (reverse p) (omega arith) (reverse-lt p l) e
        (rw (reverse_twice p l) g)
        (rw (reverse_twice p l) out);
  }
