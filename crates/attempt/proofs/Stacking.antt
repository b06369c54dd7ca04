-- The stack of nested sets: what an attempt at its top asks, and what comes of it. Assumes nothing.
use mathlib.Core.Bool.{◌&&◌, ◌||◌, not}
use mathlib.Core.List.{List}
use mathlib.Core.Logic.{⊎_elim}
use mathlib.Core.Path.{◌∙◌, ◌≡◌, ap, fun_ext, refl, subst, sym}
use Prim.Native.Nat.{◌+◌, ◌-◌, ◌<◌, ◌^◌, ◌≤◌, suc, ℕ}
use native.Mathlib.Nat.{mul_comm, mul-le-mul_right}
use native.Mathlib.Omega.{arith}
use lib.Dec.{T, T_not, not_T}
use lib.ListN.{length-set, set}
use lib.Seq.{get_or-set_other, get_or-set_same}
use Rattle.sets.specs.Set.{Depots, ◌∖◌, ◌∪◌, ◌⊆◌, cardinality, has, set_of, weigh}
use Rattle.sets.specs.Sum.{sum}
use Rattle.sets.proofs.Member.{has-none, has_some, set_of-lt}
use Rattle.sets.proofs.Set.{has-union, has-without, ⊆-antisym}
use Rattle.sets.proofs.Sum.{sum_mono, sum-term}
use Rattle.sets.proofs.Test.{T-ext, T?, and_i, and_l, and_r, fails, is_false, or_cases, or_l, or_r, passes, when-≤}
use Rattle.sets.proofs.Weigh.{cardinality-lt}
use Rattle.density.specs.Groups.{Candidate}
use Rattle.density.specs.Network.{Network, Valid}
use Rattle.density.proofs.Split.{Threshold, full, threshold, threshold-more}
use Rattle.residual.specs.Array.{at}
use Rattle.residual.specs.Search.{Linked}
use Rattle.residual.proofs.Laws.{below?}
use Rattle.attempt.specs.Arrays.{Holds, Shares, Tables}
use Rattle.attempt.specs.Attempt.{Attempted, Stage}
use Rattle.attempt.proofs.Finishing.{settled, spread}
use Rattle.attempt.proofs.Making.{Stacked}

-- a set has no more crews than all depots
crews-most : (crews : List ℕ) (X : Depots) → weigh (at crews) X 64 ≤ sum (at crews) 64
unfolding weigh
crews-most crews X = sum_mono _ _ 64 (λ d l. when-≤ (X d) (at crews d))

module _ {N : Network} {listed : ℕ} {stack : List ℕ} {top b : ℕ} (s : Stacked N listed stack top b) (more : b ≡ listed → ⊥) where
  -- the top is larger than what is grouped
  pub unlike : b ≡ at stack top → ⊥
  unlike e = ⊎_elim (λ (z : 0 < top). s.proper z e) (λ (z : top ≤ 0). more (e ∙ ap (at stack) (let y : top ≡ 0 = omega arith in y) ∙ s.base)) (below? 0 top)

  pub grows : cardinality (has b) 64 < cardinality (has (at stack top)) 64
  grows = cardinality-lt (s.bits top (omega arith)) s.under unlike

  -- the set x that is tried: the top without what is grouped
  module _ {x : ℕ} (is : x ≡ set_of (has (at stack top) ∖ has b) 64) where
    pub tried-has : (d : ℕ) → has x d ≡ (has (at stack top) d && not (has b d))
    tried-has d = ap (λ (y : ℕ). has y d) is ∙ has-without 64 b (s.bits top (omega arith)) d

    of-tried : (d : ℕ) → T (has x d) → T (has (at stack top) d) × (T (has b d) → ⊥)
    of-tried d t =
        let p = subst T (tried-has d) t in
        (and_l (has (at stack top) d) (not (has b d)) p, T_not (has b d) (and_r (has (at stack top) d) (not (has b d)) p))

    to-tried : (d : ℕ) → T (has (at stack top) d) → (T (has b d) → ⊥) → T (has x d)
    to-tried d t n = subst T (sym (tried-has d)) (and_i (has (at stack top) d) (not (has b d)) t (not_T (has b d) n))

    pub tried-lt : x < 2 ^ 64
    tried-lt = rw is (set_of-lt 64 (has (at stack top) ∖ has b))

    pub join : (has b ∪ has x) ≡ has (at stack top)
    join =
        fun_ext (λ d.
        T-ext (has b d || has x d) (has (at stack top) d) (λ t. ⊎_elim (s.under d) (λ p. (of-tried d p).0) (or_cases (has b d) (has x d) t))
        (λ t. ⊎_elim (or_l (has b d) (has x d)) (λ n. or_r (has b d) (has x d) (to-tried d t n)) (T? (has b d))))

    pub candidate : ((d : ℕ) → has listed d ≡ N.listed d) → Candidate N (has b) (has x)
    candidate list = record {
      some = has_some 64 x tried-lt (λ e.
          unlike (⊆-antisym b (at stack top) s.under (λ d t.
          ⊎_elim (λ p. p) (λ n. absurd (fails (has x d) (ap (λ (y : ℕ). has y d) e ∙ has-none d) (to-tried d t n))) (T? (has b d)))));
      listed = λ d t. subst T (list d) (s.within top (omega arith) d (of-tried d t).0);
      free = λ d t. (of-tried d t).1;
    }

    pub stage : {ends chain litres crews share : List ℕ} {q : ℕ} → Tables ends litres crews listed → Linked ends chain → Shares ends share
        → q ≡ weigh (at crews) (has x) 64 → Stage ends chain litres crews x b q share
    stage {ends} {chain} {litres} {crews} {share} {q} t l h e = record {
      paired = t.paired;
      linked = l;
      most = t.most;
      ready = record {
        listed = t.sites;
        apart = λ d m z. is_false (has x d) (λ y. (of-tried d y).1 (passes (has b d) z));
        all = t.litre-fits;
        fits = omega (arith, t.fits, mul-le-mul_right (sum (at litres) 512) (let z : q ≤ sum (at crews) 64 = omega (arith, crews-most crews (has x)) in z));
      };
      crew = t.crew;
      heavy = λ d m. omega (
        arith,
        t.fits,
        mul_comm (sum (at litres) 512) (at crews d),
        mul-le-mul_right (sum (at litres) 512) (sum-term (at crews) d 64 m),
      );
      shares = h.size;
      blank = h.blank;
      sites = h.sites;
    }

    module _ {ends litres crews : List ℕ} {q : ℕ} {share : List ℕ} {r : ℕ} {share' : List ℕ} (ok : Valid N) (h : Holds N ends litres crews listed)
        (a : Attempted ends litres crews x b q share r share') (scale : q ≡ weigh (at crews) (has x) 64) (fits : r < 2 ^ 64) where
      pub kept-shares : Shares ends share'
      kept-shares = record { size = a.outcome.shares; blank = a.outcome.blank; sites = a.sites }

      part : has r ⊆ has x
      part = (settled h ok a (candidate h.list) scale fits).part

      -- a split puts the union y of what is grouped and the denser part on top
      module _ (differs : r ≡ x → ⊥) {y : ℕ} (new : y ≡ set_of (has b ∪ has r) 64) where
        split-has : has y ≡ (has b ∪ has r)
        split-has = fun_ext (λ d. ap (λ (z : ℕ). has z d) new ∙ has-union 64 s.old fits d)

        of-split : (d : ℕ) → T (has y d) → T (has b d || has r d)
        of-split d t = subst (λ (X : Depots). T (X d)) split-has t

        to-split : (d : ℕ) → T (has b d || has r d) → T (has y d)
        to-split d t = subst (λ (X : Depots). T (X d)) (sym split-has) t

        old-in : has b ⊆ has y
        old-in d t = to-split d (or_l (has b d) (has r d) t)

        pub inner : has y ⊆ has (at stack top)
        inner d t = ⊎_elim (s.under d) (λ z. (of-tried d (part d z)).0) (or_cases (has b d) (has r d) (of-split d t))

        split-lt : y < 2 ^ 64
        split-lt = rw new (set_of-lt 64 (has b ∪ has r))

        smaller : y ≡ at stack top → ⊥
        smaller e =
            differs (⊆-antisym r x part (λ d z.
            let p = of-tried d z in
            ⊎_elim (λ w. absurd (p.1 w)) (λ w. w) (or_cases (has b d) (has r d) (of-split d (subst (λ (k : ℕ). T (has k d)) (sym e) p.0)))))

        larger : b ≡ y → ⊥
        larger e =
            full N ok _ _ _ (spread h ok a (candidate h.list) scale) (candidate h.list) (has r) _ (settled h ok a (candidate h.list) scale fits)
            (λ d t. (of-tried d (part d t)).1 (subst (λ (k : ℕ). T (has k d)) (sym e) (to-split d (or_r (has b d) (has r d) t))))

        up : cardinality (has b) 64 < cardinality (has y) 64
        up = cardinality-lt split-lt old-in larger

        pub split-less : cardinality (has y) 64 < cardinality (has (at stack top)) 64
        split-less = cardinality-lt (s.bits top (omega arith)) inner smaller

        pub split-low : top + 1 < 64
        split-low = omega (arith, up, split-less, s.room top (omega arith))

        between : Threshold N (has (at stack top)) (has y) (has b)
        between =
            subst (λ (X : Depots). Threshold N (has (at stack top)) X (has b)) (sym split-has)
            (threshold N ok _ _ _ (spread h ok a (candidate h.list) scale) (candidate h.list) (has r) _ (settled h ok a (candidate h.list) scale fits) (has (at stack top))
            (λ d t. subst (λ (X : Depots). T (X d)) (sym join) t))

        -- the stack after the split, by place
        at_old : (k : ℕ) → k ≤ top → at (set stack (top + 1) y) k ≡ at stack k
        at_old k l = get_or-set_other stack (top + 1) k y 0 (λ e. omega arith)

        pub at_new : (k : ℕ) → k ≡ top + 1 → at (set stack (top + 1) y) k ≡ y
        at_new k e = rw e (get_or-set_same stack (top + 1) y 0 (omega (arith, s.wide, split-low)))

        -- what holds of the old places and of the new one
        each : (P : ℕ → ℕ → Type 0) → ((k : ℕ) → k ≤ top → P k (at stack k)) → P (top + 1) y → (k : ℕ) → k ≤ top + 1 → P k (at (set stack (top + 1) y) k)
        each P o n k l = ⊎_elim
            (λ (z : k < top + 1). subst (P k) (sym (at_old k (omega arith))) (o k (omega arith)))
            (λ (z : top + 1 ≤ k). let e : k ≡ top + 1 = omega arith in rw (at_new k e, e) n)
            (below? k (top + 1))

        -- and of neighbours
        pairs : (P : ℕ → ℕ → Type 0) → ((k : ℕ) → k < top → P (at stack k) (at stack (suc k))) → P (at stack top) y
            → (k : ℕ) → k < top + 1 → P (at (set stack (top + 1) y) k) (at (set stack (top + 1) y) (suc k))
        pairs P o n k l = ⊎_elim
            (λ (z : k < top). rw (at_old k (omega arith), at_old (suc k) (omega arith)) (o k z))
            (λ (z : top ≤ k). let e : k ≡ top = omega arith in rw (at_old k (omega arith), at_new (suc k) (omega arith), e) n)
            (below? k top)

        pub split-stacked : Stacked N listed (set stack (top + 1) y) (top + 1) b
        split-stacked = record {
          wide = simp length-set s.wide;
          low = split-low;
          base = at_old 0 (omega arith) ∙ s.base;
          old = s.old;
          bits = each (λ k z. z < 2 ^ 64) s.bits split-lt;
          within = each (λ k z. has z ⊆ has listed) s.within (λ d e. s.within top (omega arith) d (inner d e));
          room = each (λ k z. cardinality (has z) 64 + k ≤ 64) s.room (omega (arith, split-less, s.room top (omega arith)));
          nested = pairs (λ z w. has w ⊆ has z) s.nested inner;
          strict = pairs (λ z w. cardinality (has w) 64 < cardinality (has z) 64) s.strict split-less;
          cuts = pairs (λ z w. Threshold N (has z) (has w) (has b)) s.cuts between;
          under = λ d e. rw (at_new (top + 1) refl) (old-in d e);
          proper = λ z e. larger (e ∙ at_new (top + 1) refl);
        }

  -- a finish groups the top
  pub finish-stacked : Stacked N listed stack (top - 1) (at stack top)
  finish-stacked = record {
    wide = s.wide;
    low = omega (arith, s.low);
    base = s.base;
    old = s.bits top (omega arith);
    bits = λ k l. s.bits k (omega arith);
    within = λ k l. s.within k (omega arith);
    room = λ k l. s.room k (omega arith);
    nested = λ k l. s.nested k (omega arith);
    strict = λ k l. s.strict k (omega arith);
    cuts = λ k l. threshold-more (s.cuts k (omega arith)) s.under;
    under = ⊎_elim
        (λ (z : 0 < top). let e : suc (top - 1) ≡ top = omega arith in λ d f. s.nested (top - 1) (omega arith) d (rw e f))
        (λ (z : top ≤ 0). let e : top - 1 ≡ top = omega arith in λ d f. rw e f)
        (below? 0 top);
    proper = λ z e.
        let y : suc (top - 1) ≡ top = omega arith in
        omega (arith, s.strict (top - 1) (omega arith), ap (λ (k : ℕ). cardinality (has (at stack k)) 64) y, ap (λ (k : ℕ). cardinality (has k) 64) e);
  }
