-- Discharging a depot: what holds while its arcs are gone through. Assumes nothing.
use mathlib.Core.Path.{◌≡◌, refl, sym, ◌∙◌}
use mathlib.Core.List.{List}
use mathlib.Core.Logic.{inl, inr, ⊎_elim}
use Prim.Native.Nat.{ℕ, ◌+◌, ◌-◌, ◌≤◌, ◌<◌, min}
use native.Mathlib.Omega.{arith}
use Rattle.residual.specs.Array.{at, total_deficit}
use Rattle.residual.specs.Search.{Last, Placed}
use Rattle.residual.specs.Moves.{Loaded, Pushed, Ranked, ArcAt, Moved, PushedFrom, Gained, Admissible, ExcessPushed, Discharged}
use Rattle.residual.proofs.Laws.{below?}
use Rattle.residual.proofs.Pushing.{move-pushed-from, move-gained}

pub moved_none : {ends rank target share load : List ℕ} → Loaded ends share load → Moved ends rank target share load share load
moved_none l = record { loaded = l; pairs = λ j h. refl; outside = λ j h r. refl; own = λ j h e. refl; follows = λ d h. refl; sum = refl; less = omega arith; lacks = λ d h. omega arith }

pub moved-moved : {ends rank target share load share' load' share'' load'' : List ℕ} → Moved ends rank target share load share' load'
    → Moved ends rank target share' load' share'' load'' → Moved ends rank target share load share'' load''
moved-moved m n = record {
  loaded = n.loaded;
  pairs = λ j h. n.pairs j h ∙ m.pairs j h;
  outside = λ j h r. n.outside j h r ∙ m.outside j h r;
  own = λ j h e. n.own j h e ∙ m.own j h e;
  follows = λ d h. omega (arith, m.follows d h, n.follows d h);
  sum = n.sum ∙ m.sum;
  less = omega (arith, m.less, n.less);
  lacks = λ d h. omega (arith, m.lacks d h, n.lacks d h);
}

pushed-from-pushed-from : {ends rank target : List ℕ} {u : ℕ} {share load share' load' share'' load'' : List ℕ} → PushedFrom ends rank target u share load share' load'
    → PushedFrom ends rank target u share' load' share'' load'' → PushedFrom ends rank target u share load share'' load''
pushed-from-pushed-from {load = load} {share'} {load'} m n = record {
  moved = moved-moved m.moved n.moved;
  gains = λ d h. omega (arith, m.gains d h, n.gains d h);
  arcs = λ j h e. omega (arith, m.arcs j h e, n.arcs j h e);
}

gained-gained : {rank target : List ℕ} {u : ℕ} (load load' load'' : List ℕ) → total_deficit target load' ≤ total_deficit target load → total_deficit target load'' ≤ total_deficit target load'
    → Gained rank target u load load' → Gained rank target u load' load'' → Gained rank target u load load''
gained-gained load load' load'' a b g h =
    ⊎_elim
    (λ x. inl (omega arith))
    (λ x. ⊎_elim (λ y. inl (omega arith)) (λ y. inr ((λ d z. x.0 d (y.0 d z)), x.1)) g)
    h

-- a push-excess that moves share
pushed : {ends rank target share load share' load' : List ℕ} {u j : ℕ} → ArcAt ends rank target u j → Loaded ends share load
    → at target u < at load u → Admissible ends rank share u j → Pushed ends share load j (min (at load u - at target u) (at share j)) share' load'
    → PushedFrom ends rank target u share load share' load' × Gained rank target u load load'
pushed {target = target} {share} {load} {u = u} {j} t l over d w =
    let m : ℕ = min (at load u - at target u) (at share j) in
    rw (w.0, w.1, t.from) (move-pushed-from m l t d (omega arith) (omega arith), move-gained m l t d (omega arith) (omega arith) (omega (arith, d.gives)))

-- the arcs at u from j on are done; j is 1 + the next one
pub record Discharging (ends chain rank target : List ℕ) (u : ℕ) (share₀ load₀ share load : List ℕ) (j : ℕ) : Type 0 where
  pub ranked : Ranked ends chain rank target
  pub placed : Placed rank u
  pub loaded : Loaded ends share load
  pub low : j ≤ 1024
  pub here : 0 < j → at ends (j - 1) ≡ u
  pub done : Discharged ends rank target u j share₀ load₀ share load

module _ {ends chain rank target : List ℕ} {u : ℕ} {share₀ load₀ : List ℕ} where
  pub discharge-begins : Ranked ends chain rank target → Placed rank u → Loaded ends share₀ load₀
      → Discharging ends chain rank target u share₀ load₀ share₀ load₀ (at chain (1024 + u))
  discharge-begins t p l =
      let last : Last ends u 1024 (at chain (1024 + u)) = t.linked.first u p.depot in
      record {
        ranked = t;
        placed = p;
        loaded = l;
        low = last.below;
        here = last.here;
        done = inl (refl, refl, λ over a b c e z. last.none a b c e);
      }

  module _ {share load : List ℕ} {j : ℕ} (i : Discharging ends chain rank target u share₀ load₀ share load j) where
    pub discharge-arc : 0 < j → ArcAt ends rank target u (j - 1)
    discharge-arc b = record {
      paired = i.ranked.paired;
      ranks = i.ranked.ranks;
      targets = i.ranked.targets;
      depot = i.placed.depot;
      placed = i.placed.within;
      arc = omega (arith, i.low);
      from = i.here b;
    }

    next : 0 < j → Last ends (at ends (j - 1)) (j - 1) (at chain (j - 1))
    next b = i.ranked.linked.next (j - 1) (omega (arith, i.low)) (omega (arith, i.here b, i.placed.depot))

    pub discharge-falls : 0 < j → at chain (j - 1) < j
    discharge-falls b = omega (arith, (next b).below)

    pub discharge-goes : {share' load' : List ℕ} → 0 < j → ExcessPushed ends rank target u (j - 1) share load share' load'
        → Discharging ends chain rank target u share₀ load₀ share' load' (at chain (j - 1))
    discharge-goes {share'} {load'} b o = record {
      ranked = i.ranked;
      placed = i.placed;
      loaded = ⊎_elim (λ w. rw (w.0, w.1) i.loaded) (λ w. (step w).0.moved.loaded) o;
      low = omega (arith, i.low, (next b).below);
      here = λ h. (next b).here h ∙ i.here b;
      done = ⊎_elim idle (λ w. inr (joins (step w) i.done)) o;
    }
      where
        step : (at target u < at load u) × Admissible ends rank share u (j - 1) × Pushed ends share load (j - 1) (min (at load u - at target u) (at share (j - 1))) share' load'
            → PushedFrom ends rank target u share load share' load' × Gained rank target u load load'
        step w = pushed (discharge-arc b) i.loaded w.0 w.1 w.2

        idle : (share' ≡ share) × (load' ≡ load) × (at target u < at load u → Admissible ends rank share u (j - 1) → ⊥)
            → Discharged ends rank target u (at chain (j - 1)) share₀ load₀ share' load'
        idle w = ⊎_elim
            (λ v. inl (
              w.0 ∙ v.0,
              w.1 ∙ v.1,
              λ over a h c e d. ⊎_elim
                  (λ y. (next b).none a h y (e ∙ sym (i.here b)))
                  (λ y. ⊎_elim
                  (λ z. v.2 over a (omega arith) c e d)
                  (λ z. let a≡ : a ≡ j - 1 = omega arith in w.2 (rw v.1 over) (rw (v.0, ← a≡) d))
                  (below? (j - 1) a))
                  (below? a (j - 1)),
            ))
            (λ v. inr (rw (w.0, w.1) v))
            i.done

        joins : PushedFrom ends rank target u share load share' load' × Gained rank target u load load' → Discharged ends rank target u j share₀ load₀ share load
            → PushedFrom ends rank target u share₀ load₀ share' load' × Gained rank target u load₀ load'
        joins n = ⊎_elim
            (λ w. rw (← w.0, ← w.1) n)
            (λ w. (pushed-from-pushed-from w.0 n.0, gained-gained load₀ load load' w.0.moved.less n.0.moved.less w.1 n.1))

    pub discharge-ends : j ≤ 0 → Discharged ends rank target u 0 share₀ load₀ share load
    discharge-ends z = ⊎_elim (λ w. inl (w.0, w.1, λ over a b. w.2 over a (omega arith))) inr i.done
