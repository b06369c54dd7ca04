-- Arrays, arcs and the search order: what a store and a new depot in the order change. Assumes nothing.
use mathlib.Core.Path.{◌≡◌, refl, sym, ap, ◌∙◌}
use mathlib.Core.List.{List}
use mathlib.Core.Logic.{◌⊎◌, inl, inr, ⊎_elim}
use Prim.Native.Nat.{ℕ, ◌+◌, ◌-◌, ◌≤◌, ◌<◌}
use native.Mathlib.Decide.{ℕ_discrete, dec_lt}
use native.Mathlib.Omega.{arith}
use borrow.Author.Tests.{lt-ltb, le-ltb, le-leb, lt-leb}
use lib.ListN.{length, set, length-set}
use lib.Dec.{leb}
use lib.Seq.{get_or-set_same, get_or-set_other}
use Rattle.sets.specs.Sum.{when, sum}
use Rattle.sets.proofs.Sum.{sum-change}
use Rattle.residual.specs.Array.{at, unranked}
use Rattle.residual.specs.Search.{reverse, Queue, Enqueued, Leads, Grown}

-- an arc has a first or a second depot, and the reverse arc the other one
pub reverse-first : (j : ℕ) → j < 512 → reverse j ≡ j + 512
unfolding reverse
reverse-first j h = simp (lt-ltb j 512 h)

pub reverse-second : (j : ℕ) → 512 ≤ j → reverse j ≡ j - 512
unfolding reverse
reverse-second j h = simp (le-ltb j 512 h)

pub sides : (j : ℕ) → (j < 512) ⊎ (512 ≤ j)
sides j = go (dec_lt j 512)
  where
    go : Dec (j < 512) → (j < 512) ⊎ (512 ≤ j)
    go (yes h) = inl h
    go (no h) = inr (omega arith)

pub reverse-lt : (j : ℕ) → j < 1024 → reverse j < 1024
reverse-lt j h = ⊎_elim (λ l. omega (arith, reverse-first j l)) (λ g. omega (arith, reverse-second j g)) (sides j)

pub reverse_twice : (j : ℕ) → j < 1024 → reverse (reverse j) ≡ j
reverse_twice j h =
    ⊎_elim
    (λ l. rw (reverse-first j l) (reverse-second (j + 512) (omega arith) ∙ omega arith))
    (λ g. rw (reverse-second j g) (reverse-first (j - 512) (omega arith) ∙ omega arith))
    (sides j)

-- what a store leaves at each place
pub stored : (xs : List ℕ) (i v j : ℕ) → i < length xs
    → ((j ≡ i) × (at (set xs i v) j ≡ v)) ⊎ ((j ≡ i → ⊥) × (at (set xs i v) j ≡ at xs j))
stored xs i v j h = go (ℕ_discrete j i)
  where
    go : Dec (j ≡ i) → ((j ≡ i) × (at (set xs i v) j ≡ v)) ⊎ ((j ≡ i → ⊥) × (at (set xs i v) j ≡ at xs j))
    go (yes e) = inl (e, rw e (get_or-set_same xs i v 0 h))
    go (no e) = inr (e, get_or-set_other xs i j v 0 e)

-- a stored element changes a sum by its own term alone
pub sum-set : (f : ℕ → ℕ → ℕ) (xs : List ℕ) (i v n : ℕ) → i < length xs → i < n
    → sum (λ k. f k (at (set xs i v) k)) n + f i (at xs i) ≡ sum (λ k. f k (at xs k)) n + f i v
sum-set f xs i v n h l =
    omega (
      arith,
      sum-change (λ k. f k (at (set xs i v) k)) (λ k. f k (at xs k)) i n l (λ j e. ap (f j) (get_or-set_other xs i j v 0 e)),
      ap (f i) (get_or-set_same xs i v 0 h),
    )

pub unranked-set : (rank : List ℕ) (d r : ℕ) → d < length rank → d < 64
    → unranked (set rank d r) + when (leb 64 (at rank d)) 1 ≡ unranked rank + when (leb 64 r) 1
unranked-set rank d r = sum-set (λ k x. when (leb 64 x) 1) rank d r 64

pub free_in : (r : ℕ) → r < 64 → when (leb 64 r) 1 ≡ 0
free_in r h = simp (lt-leb 64 r h)

pub free-out : (r : ℕ) → 64 ≤ r → when (leb 64 r) 1 ≡ 1
free-out r h = simp (le-leb 64 r h)

-- while a depot is not in the order, the order has room
pub room : {n : ℕ} {order rank : List ℕ} (u : ℕ) → Queue n order rank → u < 64 → at rank u ≡ 64 → n < 64
room {n} {order} {rank} u q h e =
    omega (arith, unranked-set rank u 0 (omega (arith, q.ranks)) h, free-out (at rank u) (omega arith), free_in 0 (omega arith), q.places)

-- a depot that is not in the order joins it
pub join : {n : ℕ} {order rank : List ℕ} (u : ℕ) → Queue n order rank → u < 64 → at rank u ≡ 64 → Queue (n + 1) (set order n u) (set rank u n)
join {n} {order} {rank} u q h e =
    let r : n < 64 = room u q h e in
    record {
      orders = simp length-set q.orders;
      ranks = simp length-set q.ranks;
      places = omega (arith, unranked-set rank u n (omega (arith, q.ranks)) h, free-out (at rank u) (omega arith), free_in n r, q.places);
      depot = λ k l. ⊎_elim (λ w. omega (arith, w.1)) (λ w. omega (arith, w.1, q.depot k (omega (arith, w.0)))) (stored order n u k (omega arith));
      placed = λ k l. ⊎_elim
          (λ w. rw w.1 (get_or-set_same rank u n 0 (omega arith) ∙ sym w.0))
          (λ w. let before : at rank (at order k) ≡ k = q.placed k (omega (arith, w.0)) in
          rw w.1 (get_or-set_other rank u (at order k) n 0 (λ same. let z : at rank (at order k) ≡ at rank u = ap (at rank) same in omega arith) ∙ before))
          (stored order n u k (omega arith));
      found = λ d l g. ⊎_elim
          (λ w. rw w.1 (omega arith, get_or-set_same order n u 0 (omega arith) ∙ sym w.0))
          (λ w. let was = q.found d l (omega (arith, w.1)) in
          rw w.1 (omega arith, get_or-set_other order n (at rank d) u 0 (omega arith) ∙ was.1))
          (stored rank u n d (omega arith));
    }

-- the order as an enqueue leaves it
pub enqueued : {give u n n' : ℕ} {order rank order' rank' : List ℕ} → Queue n order rank → u < 64
    → Enqueued give u n order rank n' order' rank' → Queue n' order' rank'
enqueued {u = u} {order = order} {rank = rank} q h o =
    ⊎_elim
    (λ w. rw (w.0, w.1, w.2) q)
    (λ w. rw (w.0, w.1, w.2) (join u q h w.4))
    o

pub grown-none : {ends share : List ℕ} {n : ℕ} {order rank : List ℕ} → Grown ends share n order rank n order rank
grown-none = record { more = omega arith; same = λ k h. refl; moved = λ d. inl refl; leads = λ k l h. absurd (omega arith) }

-- a depot outside the order was outside it before
pub grown-out : {ends share : List ℕ} {n n' : ℕ} {order rank order' rank' : List ℕ} → Grown ends share n order rank n' order' rank'
    → (d : ℕ) → at rank' d ≡ 64 → at rank d ≡ 64
grown-out g d h = ⊎_elim (λ w. sym w ∙ h) (λ w. w.0) (g.moved d)

-- a place once given stays
pub grown-rank : {ends share : List ℕ} {n n' : ℕ} {order rank order' rank' : List ℕ} → Queue n order rank → Grown ends share n order rank n' order' rank'
    → (d : ℕ) → at rank d < n → at rank' d ≡ at rank d
grown-rank q g d h = ⊎_elim (λ w. w) (λ w. absurd (omega (arith, w.0, q.places))) (g.moved d)

pub below? : (k n : ℕ) → (k < n) ⊎ (n ≤ k)
below? k n = go (dec_lt k n)
  where
    go : Dec (k < n) → (k < n) ⊎ (n ≤ k)
    go (yes h) = inl h
    go (no h) = inr (omega arith)

pub grown-grown : {ends share : List ℕ} {n n' n'' : ℕ} {order rank order' rank' order'' rank'' : List ℕ} → Queue n' order' rank'
    → Grown ends share n order rank n' order' rank' → Grown ends share n' order' rank' n'' order'' rank'' → Grown ends share n order rank n'' order'' rank''
grown-grown {ends} {share} {n} {n'} {n''} {order} {rank} {order'} {rank'} {order''} {rank''} q g h = record {
  more = omega (arith, g.more, h.more);
  same = λ k l. h.same k (omega (arith, g.more)) ∙ g.same k l;
  moved = λ d. ⊎_elim
      (λ w. ⊎_elim (λ e. inl (w ∙ e)) (λ e. inr (e.0, omega (arith, w, e.1), omega (arith, w, e.2, h.more))) (g.moved d))
      (λ w. inr (grown-out g d w.0, omega (arith, w.1, g.more), w.2))
      (h.moved d);
  leads = λ k l m. ⊎_elim (λ b. old k b (g.leads k l b)) (λ b. h.leads k b m) (below? k n');
}
  where
    old : (k : ℕ) → k < n' → Leads ends share order' rank' k → Leads ends share order'' rank'' k
    old k b o = record {
      arc = o.arc;
      is = o.is;
      from = o.from ∙ sym (h.same k b);
      gives = o.gives;
      earlier = omega (arith, grown-rank q h (at ends (reverse o.arc)) (omega (arith, o.earlier)), o.earlier);
    }

-- an enqueue over arc p to a depot in the order lets it grow
pub enqueued-grown : {ends share : List ℕ} {n n' : ℕ} {order rank order' rank' : List ℕ} (p : ℕ) → p < 1024 → at ends p < 64
    → at rank (at ends (reverse p)) < 64 → at ends (reverse p) < 64 → Queue n order rank → Enqueued (at share p) (at ends p) n order rank n' order' rank'
    → Grown ends share n order rank n' order' rank'
enqueued-grown {ends} {share} {n} {n'} {order} {rank} p l h w v q o =
    ⊎_elim
    (λ o. rw (o.0, o.1, o.2) grown-none)
    (λ o. rw (o.0, o.1, o.2) (joined o.3 o.4))
    o
  where
    u : ℕ
    u = at ends p

    joined : 0 < at share p → at rank u ≡ 64 → Grown ends share n order rank (n + 1) (set order n u) (set rank u n)
    joined g e =
        let r : n < 64 = room u q h e in
        record {
          more = omega arith;
          same = λ k b. get_or-set_other order n k u 0 (omega arith);
          moved = λ d. ⊎_elim
              (λ s. inr (ap (at rank) s.0 ∙ e, omega (arith, s.1), omega (arith, s.1)))
              (λ s. inl s.1)
              (stored rank u n d (omega (arith, q.ranks)));
          leads = λ k a b. let z : k ≡ n = omega arith in record {
            arc = p;
            is = l;
            from = rw z (sym (get_or-set_same order n u 0 (omega (arith, q.orders))));
            gives = g;
            earlier = omega (arith, z, (q.found (at ends (reverse p)) v w).0, get_or-set_other rank u (at ends (reverse p)) n 0 (λ s. let y : at rank (at ends (reverse p)) ≡ at rank u = ap (at rank) s in omega arith));
          };
        }
