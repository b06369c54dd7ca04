-- The rounds: what each keeps, and what holds after the last. Assumes nothing.
use mathlib.Core.Path.{◌≡◌, refl, sym, ap, ◌∙◌}
use mathlib.Core.Bool.{Bool, true, false}
use mathlib.Core.List.{List}
use mathlib.Core.Logic.{inl, inr, ⊎_elim}
use Prim.Native.Nat.{ℕ, ◌≤◌, ◌<◌, max}
use native.Mathlib.Omega.{arith}
use Rattle.residual.specs.Array.{at}
use Rattle.residual.specs.Search.{Queue, Leads, Closed, Residual, Placed, Reached}
use Rattle.residual.specs.Moves.{Loaded, Ranked}
use Rattle.residual.specs.Rounds.{Excess, Depots, Tested, Found, AllDischarged, Cleared, Seeded, Start, Onward, Preserved, Relaxed}
use Rattle.residual.proofs.Laws.{below?}

pub record Relaxing (ends chain target rank₀ share₀ load₀ order rank share load : List ℕ) : Type 0 where
  pub ready : Start ends chain target order rank
  pub preserved : Preserved ends target rank₀ share₀ load₀ rank share load

pub relax-begins : {ends chain target rank share load order : List ℕ} → Start ends chain target order rank → Loaded ends share load
    → Relaxing ends chain target rank share load order rank share load
relax-begins t l = record {
  ready = t;
  preserved = record {
    loaded = l;
    pairs = λ j h. refl;
    outside = λ j h e o. refl;
    own = λ j h e. refl;
    follows = λ d h. refl;
    sum = refl;
    size = t.ranks;
    sides = λ d h. refl;
    lacks = λ d h. omega arith;
  };
}

-- the outcome of a whole search
pub record Searched (ends target share load rank order' rank' : List ℕ) (start n : ℕ) : Type 0 where
  pub found : Found ends share order' rank' target load start n
  pub closed : (v : ℕ) → Placed rank' v → Closed ends share rank' v
  pub sides : (d : ℕ) → d < 64 → max (at rank' d) 64 ≡ max (at rank d) 64
  pub all : (d : ℕ) → d < 64 → at load d < at target d → at rank d ≤ 64 → at rank' d < 64

pub searched : {ends target share load rank rank₁ order₂ rank₂ order₃ rank₃ : List ℕ} {start n : ℕ} → Cleared rank rank₁
    → Seeded target load rank₁ start order₂ rank₂ → Reached ends share start order₂ rank₂ n order₃ rank₃
    → Searched ends target share load rank order₃ rank₃ start n
searched {target = target} {load = load} {rank₁ = rank₁} {order₂ = order₂} {rank₂ = rank₂} {rank₃ = rank₃} {n = n} c s r = record {
  found = record {
    queue = r.queue;
    begun = r.grown.more;
    seeds = λ k h. rw (r.grown.same k h) (s.seeds k h);
    leads = r.grown.leads;
  };
  closed = r.closed;
  sides = λ d h. ⊎_elim
      (λ v. ⊎_elim
      (λ w. omega (arith, c.each d h))
      (λ w. omega (arith, c.each d h, w.0, w.1))
      (s.kept d))
      (λ v. ⊎_elim
      (λ w. omega (arith, c.each d h, v.0, v.2, r.queue.places))
      (λ w. omega (arith, w.1, v.0))
      (s.kept d))
      (r.grown.moved d);
  all = λ d h lacks inside.
      let reached : at rank₂ d < 64 = ⊎_elim (λ w. absurd (s.all d h lacks (omega (arith, c.each d h)))) (λ w. w.1) (s.kept d) in
      ⊎_elim (λ v. omega arith) (λ v. omega (arith, v.0)) (r.grown.moved d);
}

module _ {ends chain target rank₀ share₀ load₀ order rank share load : List ℕ} (i : Relaxing ends chain target rank₀ share₀ load₀ order rank share load) where
  pub relax-net : Residual ends chain share
  relax-net = record { paired = i.ready.paired; linked = i.ready.linked; shares = i.preserved.loaded.shares }

  module _ {order' rank' : List ℕ} {start n : ℕ} (s : Searched ends target share load rank order' rank' start n) where
    pub relax-ranked : Ranked ends chain rank' target
    relax-ranked = record { paired = i.ready.paired; linked = i.ready.linked; ranks = s.found.queue.ranks; targets = i.ready.targets }

    pub relax-goes : {share' load' : List ℕ} → AllDischarged ends rank' target share load share' load'
        → Relaxing ends chain target rank₀ share₀ load₀ order' rank' share' load'
    relax-goes d = record {
      ready = record {
        paired = i.ready.paired;
        linked = i.ready.linked;
        targets = i.ready.targets;
        orders = s.found.queue.orders;
        ranks = s.found.queue.ranks;
      };
      preserved = record {
        loaded = d.moved.loaded;
        pairs = λ j h. d.moved.pairs j h ∙ i.preserved.pairs j h;
        outside = λ j h e o. d.moved.outside j h (omega (arith, s.sides _ e, i.preserved.sides _ e)) ∙ i.preserved.outside j h e o;
        own = λ j h e. d.moved.own j h e ∙ i.preserved.own j h e;
        follows = λ x h. omega (arith, d.moved.follows x h, i.preserved.follows x h);
        sum = d.moved.sum ∙ i.preserved.sum;
        size = s.found.queue.ranks;
        sides = λ x h. s.sides x h ∙ i.preserved.sides x h;
        lacks = λ x h. omega (arith, d.moved.lacks x h, i.preserved.lacks x h);
      };
    }

    pub relax_ends : ((k : ℕ) → k < n → at load (at order' k) ≤ at target (at order' k)) → Relaxed ends target rank₀ share₀ load₀ n rank' share load
    relax_ends none = record {
      preserved = record {
        loaded = i.preserved.loaded;
        pairs = i.preserved.pairs;
        outside = i.preserved.outside;
        own = i.preserved.own;
        follows = i.preserved.follows;
        sum = i.preserved.sum;
        size = s.found.queue.ranks;
        sides = λ x h. s.sides x h ∙ i.preserved.sides x h;
        lacks = i.preserved.lacks;
      };
      low = λ d h r. let f = s.found.queue.found d h r in omega (arith, none (at rank' d) f.0, ap (at load) f.1, ap (at target) f.1);
      high = λ d h inside lacks. s.all d h lacks (omega (arith, i.preserved.sides d h));
      closed = s.closed;
      onward = λ d h r. let f = s.found.queue.found d h r in ⊎_elim
          (λ b. inl (omega (arith, s.found.seeds (at rank' d) b, ap (at load) f.1, ap (at target) f.1)))
          (λ b. inr (ahead d f.1 (s.found.leads (at rank' d) b f.0)))
          (below? (at rank' d) start);
      count = λ d h r. (s.found.queue.found d h r).0;
    }
      where
        ahead : (d : ℕ) → at order' (at rank' d) ≡ d → Leads ends share order' rank' (at rank' d) → Onward ends share rank' d
        ahead d e l = record { arc = l.arc; is = l.is; from = l.from ∙ e; gives = l.gives; earlier = l.earlier }

pub depots : {n : ℕ} {order rank : List ℕ} → Queue n order rank → Depots order n
depots q = record { size = q.orders; small = omega (arith, q.places); depot = q.depot }

-- the seeds lack share, so what overflows comes after them
pub excess : {ends share order rank target load : List ℕ} {start n : ℕ} → Found ends share order rank target load start n → Excess order target load 0 n
    → Excess order target load start n
excess {start = start} f e = record {
  place = e.place;
  from = ⊎_elim (λ b. absurd (omega (arith, f.seeds e.place b, e.over))) (λ b. b) (below? e.place start);
  is = e.is;
  over = e.over;
}

pub tested-true : {order target load : List ℕ} {n : ℕ} {r : Bool} → Tested order target load n r → r ≡ true → Excess order target load 0 n
tested-true t e = ⊎_elim (λ w. w.1) (λ w. absurd (let z : ◌≡◌ {A = Bool} true false = sym e ∙ w.0 in let y : ◌≡◌ {A = ℕ} 0 1 = cc in omega arith)) t

pub tested-false : {order target load : List ℕ} {n : ℕ} {r : Bool} → Tested order target load n r → r ≡ false
    → (k : ℕ) → k < n → at load (at order k) ≤ at target (at order k)
tested-false t e = ⊎_elim (λ w. absurd (let z : ◌≡◌ {A = Bool} true false = sym w.0 ∙ e in let y : ◌≡◌ {A = ℕ} 0 1 = cc in omega arith)) (λ w. w.1) t
