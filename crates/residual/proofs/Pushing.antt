-- A push along an arc to an earlier depot: what it keeps, and that less is lacking or an earlier depot is above its target. Assumes nothing.
use mathlib.Core.Path.{◌≡◌, refl, sym, ap, ◌∙◌}
use mathlib.Core.List.{List}
use mathlib.Core.Logic.{inl, inr, ⊎_elim}
use Prim.Native.Nat.{ℕ, ◌+◌, ◌-◌, ◌≤◌, ◌<◌, min}
use native.Mathlib.Omega.{arith}
use borrow.Author.Tests.{eq-eqb, ne_eqb}
use lib.Dec.{eqb}
use lib.ListN.{length}
use Rattle.sets.specs.Sum.{when}
use Rattle.residual.specs.Array.{at, total_load, total_deficit, arc_load}
use Rattle.residual.specs.Search.{reverse}
use Rattle.residual.specs.Moves.{shift, Loaded, Movable, ArcAt, Moved, PushedFrom, Gained, Admissible}
use Rattle.residual.proofs.Laws.{reverse-lt, reverse_twice, below?}
use Rattle.residual.proofs.Shift.{shift-length, shift_from, shift-to, shift-other, shift-sum, shifted, reverse-apart}

module _ {ends rank target : List ℕ} {u j : ℕ} (t : ArcAt ends rank target u j) where
  -- the depot reverse an arc at u
  pub across : (p : ℕ) → p ≡ reverse j → at ends p < 64
  across p z = rw z (t.paired.both j t.arc (omega (arith, t.from, t.depot)))

  -- an arc to a depot that is not earlier leads nowhere
  pub no-admissible : {share : List ℕ} (p : ℕ) → p ≡ reverse j → at rank u ≤ at rank (at ends p) → Admissible ends rank share u j → ⊥
  no-admissible p z h l = omega (arith, l.earlier, ap (λ (p : ℕ). at rank (at ends p)) z)

  pub admissible : {share : List ℕ} (p : ℕ) → p ≡ reverse j → at rank (at ends p) < at rank u → (at share j ≡ 0 → ⊥) → Admissible ends rank share u j
  admissible p z h g = record { gives = omega arith; earlier = omega (arith, ap (λ (p : ℕ). at rank (at ends p)) z) }

  -- what lies above the target may move along an arc that leads to an earlier depot
  pub movable : {share load : List ℕ} → at target u < at load u → Admissible ends rank share u j → Movable ends share load j (min (at load u - at target u) (at share j))
  movable {share} {load} over l = record {
    arc = t.arc;
    from = omega (arith, t.from, t.depot);
    to = across (reverse j) refl;
    apart = λ z. let y : at rank u ≡ at rank (at ends (reverse j)) = ap (at rank) (sym t.from ∙ z) in omega (arith, l.earlier);
    share-has = omega arith;
    load_has = omega (arith, ap (at load) t.from);
  }

held_in : (ends : List ℕ) (d j x : ℕ) → at ends j ≡ d → when (eqb (at ends j) d) x ≡ x
held_in ends d j x e = simp (eq-eqb (at ends j) d e)

held_out : (ends : List ℕ) (d j x : ℕ) → (at ends j ≡ d → ⊥) → when (eqb (at ends j) d) x ≡ 0
held_out ends d j x e = simp (ne_eqb (at ends j) d e)

-- m moves along arc j from u, which keeps its target, to an earlier depot
module _ {ends rank target share load : List ℕ} {u j : ℕ} (m : ℕ) (l : Loaded ends share load) (t : ArcAt ends rank target u j)
    (d : Admissible ends rank share u j) (few : m ≤ at share j) (keeps : m + at target u ≤ at load u) where
  v-depot : at ends (reverse j) < 64
  v-depot = across t (reverse j) refl

  u≢v : u ≡ at ends (reverse j) → ⊥
  u≢v e = let y : at rank u ≡ at rank (at ends (reverse j)) = ap (at rank) e in omega (arith, d.earlier)

  j-in : j < length share
  j-in = omega (arith, t.arc, l.shares)

  p-in : reverse j < length share
  p-in = omega (arith, reverse-lt j t.arc, l.shares)

  u-in : u < length load
  u-in = omega (arith, t.depot, l.loads)

  v-in : at ends (reverse j) < length load
  v-in = omega (arith, v-depot, l.loads)

  j≢p : j ≡ reverse j → ⊥
  j≢p = reverse-apart j t.arc

  move-arcs : (d : ℕ) → arc_load ends d (shift share j (reverse j) m) + when (eqb (at ends j) d) (at share j) + when (eqb (at ends (reverse j)) d) (at share (reverse j))
      ≡ arc_load ends d share + when (eqb (at ends j) d) (at share j - m) + when (eqb (at ends (reverse j)) d) (at share (reverse j) + m)
  move-arcs d = shift-sum share j (reverse j) m j-in p-in j≢p (λ a x. when (eqb (at ends a) d) x) 1024 l.shares

  move_load : total_load (shift load u (at ends (reverse j)) m) + at load u + at load (at ends (reverse j))
      ≡ total_load load + (at load u - m) + (at load (at ends (reverse j)) + m)
  move_load = shift-sum load u (at ends (reverse j)) m u-in v-in u≢v (λ d x. x) 64 l.loads

  move-deficit : total_deficit target (shift load u (at ends (reverse j)) m) + (at target u - at load u) + (at target (at ends (reverse j)) - at load (at ends (reverse j)))
      ≡ total_deficit target load + (at target u - (at load u - m)) + (at target (at ends (reverse j)) - (at load (at ends (reverse j)) + m))
  move-deficit = shift-sum load u (at ends (reverse j)) m u-in v-in u≢v (λ d x. at target d - x) 64 l.loads

  share_from : at (shift share j (reverse j) m) j ≡ at share j - m
  share_from = shift_from share j (reverse j) m j-in p-in j≢p

  share-to : at (shift share j (reverse j) m) (reverse j) ≡ at share (reverse j) + m
  share-to = shift-to share j (reverse j) m j-in p-in j≢p

  load_from : at (shift load u (at ends (reverse j)) m) u ≡ at load u - m
  load_from = shift_from load u (at ends (reverse j)) m u-in v-in u≢v

  load-to : at (shift load u (at ends (reverse j)) m) (at ends (reverse j)) ≡ at load (at ends (reverse j)) + m
  load-to = shift-to load u (at ends (reverse j)) m u-in v-in u≢v

  pub move-pairs : (a : ℕ) → a < 1024 → at (shift share j (reverse j) m) a + at (shift share j (reverse j) m) (reverse a) ≡ at share a + at share (reverse a)
  move-pairs a h = ⊎_elim
      (λ e. rw e (omega (arith, share_from, share-to)))
      (⊎_elim
      (λ e. let back : reverse a ≡ j = ap reverse e ∙ reverse_twice j t.arc in rw (back, e) (omega (arith, share_from, share-to)))
      (λ e. omega (
        arith,
        shift-other share j (reverse j) m j-in p-in j≢p a e.0 e.1,
        shift-other share j (reverse j) m j-in p-in j≢p (reverse a)
            (λ z. e.1 (sym (reverse_twice a h) ∙ ap reverse z)) (λ z. e.0 (sym (reverse_twice a h) ∙ ap reverse z ∙ reverse_twice j t.arc)),
      )))
      (shifted share j (reverse j) m j-in p-in j≢p a)

  pub move-follows : (x : ℕ) → x < 64 → at (shift load u (at ends (reverse j)) m) x + arc_load ends x share ≡ at load x + arc_load ends x (shift share j (reverse j) m)
  move-follows x h = ⊎_elim
      (λ e. rw e (omega (
        arith,
        load_from,
        move-arcs u,
        held_in ends u j (at share j) t.from,
        held_in ends u j (at share j - m) t.from,
        held_out ends u (reverse j) (at share (reverse j)) (λ z. u≢v (sym z)),
        held_out ends u (reverse j) (at share (reverse j) + m) (λ z. u≢v (sym z)),
      )))
      (⊎_elim
      (λ e. rw e (omega (
        arith,
        load-to,
        move-arcs (at ends (reverse j)),
        held_in ends (at ends (reverse j)) (reverse j) (at share (reverse j)) refl,
        held_in ends (at ends (reverse j)) (reverse j) (at share (reverse j) + m) refl,
        held_out ends (at ends (reverse j)) j (at share j) (λ z. u≢v (sym t.from ∙ z)),
        held_out ends (at ends (reverse j)) j (at share j - m) (λ z. u≢v (sym t.from ∙ z)),
      )))
      (λ e. omega (
        arith,
        shift-other load u (at ends (reverse j)) m u-in v-in u≢v x e.0 e.1,
        move-arcs x,
        held_out ends x j (at share j) (λ z. e.0 (sym z ∙ t.from)),
        held_out ends x j (at share j - m) (λ z. e.0 (sym z ∙ t.from)),
        held_out ends x (reverse j) (at share (reverse j)) (λ z. e.1 (sym z)),
        held_out ends x (reverse j) (at share (reverse j) + m) (λ z. e.1 (sym z)),
      )))
      (shifted load u (at ends (reverse j)) m u-in v-in u≢v x)

  pub move-loaded : Loaded ends (shift share j (reverse j) m) (shift load u (at ends (reverse j)) m)
  move-loaded = record {
    arcs = l.arcs;
    shares = shift-length share j (reverse j) m j-in p-in j≢p ∙ l.shares;
    loads = shift-length load u (at ends (reverse j)) m u-in v-in u≢v ∙ l.loads;
    sites = λ a h. omega (arith, move-pairs a h, l.sites a h);
    fits = omega (arith, move_load, l.fits);
  }

  pub move-moved : Moved ends rank target share load (shift share j (reverse j) m) (shift load u (at ends (reverse j)) m)
  move-moved = record {
    loaded = move-loaded;
    pairs = move-pairs;
    outside = λ a h r. shift-other share j (reverse j) m j-in p-in j≢p a
        (λ e. let y : at rank (at ends a) ≡ at rank u = ap (at rank) (ap (at ends) e ∙ t.from) in omega (arith, t.placed))
        (λ e. let y : at rank (at ends a) ≡ at rank (at ends (reverse j)) = ap (λ (p : ℕ). at rank (at ends p)) e in omega (arith, t.placed, d.earlier));
    own = λ a h e. shift-other share j (reverse j) m j-in p-in j≢p a
        (λ z. u≢v (sym t.from ∙ ap (at ends) (sym z) ∙ e ∙ ap (λ (p : ℕ). at ends (reverse p)) z))
        (λ z. u≢v (sym t.from ∙ ap (at ends) (sym (reverse_twice j t.arc) ∙ ap reverse (sym z)) ∙ sym e ∙ ap (at ends) z));
    follows = move-follows;
    sum = omega (arith, move_load);
    less = omega (arith, move-deficit);
    lacks = λ x h. ⊎_elim (λ e. rw e (omega (arith, load_from)))
        (⊎_elim (λ e. rw e (omega (arith, load-to))) (λ e. omega (arith, shift-other load u (at ends (reverse j)) m u-in v-in u≢v x e.0 e.1)))
        (shifted load u (at ends (reverse j)) m u-in v-in u≢v x);
  }

  pub move-pushed-from : PushedFrom ends rank target u share load (shift share j (reverse j) m) (shift load u (at ends (reverse j)) m)
  move-pushed-from = record {
    moved = move-moved;
    gains = λ x h. ⊎_elim (λ e. absurd (h e))
        (⊎_elim (λ e. rw e (omega (arith, load-to))) (λ e. omega (arith, shift-other load u (at ends (reverse j)) m u-in v-in u≢v x e.0 e.1)))
        (shifted load u (at ends (reverse j)) m u-in v-in u≢v x);
    arcs = λ a h n. ⊎_elim (λ e. absurd (n (ap (at ends) e ∙ t.from)))
        (⊎_elim (λ e. rw e (omega (arith, share-to))) (λ e. omega (arith, shift-other share j (reverse j) m j-in p-in j≢p a e.0 e.1)))
        (shifted share j (reverse j) m j-in p-in j≢p a);
  }

  pub move-gained : 0 < m → Gained rank target u load (shift load u (at ends (reverse j)) m)
  move-gained some = ⊎_elim
      (λ under. inl (omega (arith, move-deficit)))
      (λ full. inr (
        (λ x h. ⊎_elim
            (λ e. absurd (omega (arith, ap (at load) e, ap (at target) e)))
            (⊎_elim
            (λ e. absurd (omega (arith, ap (at load) e, ap (at target) e)))
            (λ e. omega (arith, shift-other load u (at ends (reverse j)) m u-in v-in u≢v x e.0 e.1)))
            (shifted load u (at ends (reverse j)) m u-in v-in u≢v x)),
        record { depot = at ends (reverse j); is = v-depot; earlier = d.earlier; over = omega (arith, load-to) },
      ))
      (below? (at load (at ends (reverse j))) (at target (at ends (reverse j))))
