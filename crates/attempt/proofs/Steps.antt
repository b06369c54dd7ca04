-- The steps of the splitting loop: it begins, it splits a set, it finishes one, it ends. Assumes nothing.
use mathlib.Core.Bool.{Bool, ◌&&◌, false, true}
use mathlib.Core.List.{List}
use mathlib.Core.Logic.{⊎_elim}
use mathlib.Core.Path.{◌∙◌, ◌≡◌, ap, fun_ext, refl, subst, sym}
use Prim.Native.Nat.{◌*◌, ◌+◌, ◌-◌, ◌<◌, ◌^◌, ◌≤◌, suc, ℕ}
use native.Mathlib.Omega.{arith}
use lib.Dec.{T}
use lib.ListN.{length-set, set}
use lib.Seq.{get_or-set_other, get_or-set_same}
use Rattle.sets.specs.Set.{Apart, Depots, Nonempty, ◌∖◌, ◌∪◌, ◌⊆◌, cardinality, has, set_of, weigh}
use Rattle.sets.proofs.Member.{has-none}
use Rattle.sets.proofs.Test.{fails, is_true}
use Rattle.sets.proofs.Weigh.{cardinality-le}
use Rattle.density.specs.Network.{Network, Valid, litres, size, within}
use Rattle.density.proofs.Litres.{size-pos}
use Rattle.density.proofs.Split.{Threshold, threshold-falls}
use Rattle.residual.specs.Array.{at}
use Rattle.residual.specs.Search.{Linked}
use Rattle.residual.proofs.Laws.{below?}
use Rattle.attempt.specs.Arrays.{Begun, Grouped, Holds, Tables, arc}
use Rattle.attempt.specs.Attempt.{Attempted, Stage}
use Rattle.attempt.proofs.Building.{built-begins, built-kept, built-more, built-plan}
use Rattle.attempt.proofs.Built.{shares_of}
use Rattle.attempt.proofs.Finishing.{finished}
use Rattle.attempt.proofs.Making.{Loop, Making}
use Rattle.attempt.proofs.Stacking.{at_new, candidate, finish-stacked, grows, inner, join, kept-shares, split-less, split-low, split-stacked, stage, tried-has, tried-lt}

pub making-begins : {ends : List ℕ} {listed : ℕ} {stack share groups : List ℕ} (N : Network) → Begun ends listed stack share groups → Making N ends listed stack share groups 0 0 0
making-begins {ends} {listed} {stack} {share} {groups} N s = record {
  shares = s.shares;
  stacked = record {
    wide = s.wide;
    low = omega arith;
    base = s.base;
    old = omega arith;
    bits = λ k l. let e : k ≡ 0 = omega arith in rw (e, s.base) s.bits;
    within = λ k l d t. let e : k ≡ 0 = omega arith in subst (λ (x : ℕ). T (has x d)) (ap (at stack) e ∙ s.base) t;
    room = λ k l. let e : k ≡ 0 = omega arith in rw (e, s.base) (omega (arith, cardinality-le (has listed) 64));
    nested = λ k l. absurd (omega arith);
    strict = λ k l. absurd (omega arith);
    cuts = λ k l. absurd (omega arith);
    under = λ d t. absurd (fails (has 0 d) (has-none d) t);
    proper = λ z. absurd (omega arith);
  };
  places = s.places;
  few = omega arith;
  beyond = λ k l. s.empty k;
  sets = λ k l. absurd (omega arith);
  built = built-begins N (shares_of share) groups (at stack 0);
}

-- there is room for one group more
pub room : {N : Network} {ends : List ℕ} {listed : ℕ} {stack share groups : List ℕ} {top n b : ℕ} → Making N ends listed stack share groups top n b
    → (b ≡ listed → ⊥) → n < 64
room {top = top} m more = omega (arith, m.few, grows m.stacked more, m.stacked.room top (omega arith))

-- one turn of the loop, with the set x that it tries
module _ {N : Network} (ok : Valid N) {ends litres' crews : List ℕ} {listed : ℕ} (h : Holds N ends litres' crews listed) {stack share groups : List ℕ} {top n b : ℕ}
    (m : Making N ends listed stack share groups top n b) (more : b ≡ listed → ⊥) {x q r : ℕ} {share' : List ℕ} (is : x ≡ set_of (has (at stack top) ∖ has b) 64)
    (a : Attempted ends litres' crews x b q share r share') (scale : q ≡ weigh (at crews) (has x) 64) (fits : r < 2 ^ 64) where
  kept : (e : Bool) (i : ℕ) → i < N.count → T (within (has b) (N.site i)) → shares_of share' e i ≡ shares_of share e i
  kept e i l t =
      side e (a.kept i (omega (arith, h.few)) (λ z. rw (h.depot true i l, h.depot false i l) (is_true (has b (N.site i).first && has b (N.site i).second) t)))
    where
      side : (e : Bool) → (at share' i ≡ at share i) × (at share' (512 + i) ≡ at share (512 + i)) → at share' (arc e i) ≡ at share (arc e i)
      side true p = p.0
      side false p = p.1

  pub making-split : (r ≡ x → ⊥) → {y : ℕ} → y ≡ set_of (has b ∪ has r) 64 → Making N ends listed (set stack (top + 1) y) share' groups (top + 1) n b
  making-split differs {y} new = record {
    shares = kept-shares m.stacked more is ok h a scale fits;
    stacked = split-stacked m.stacked more is ok h a scale fits differs new;
    places = m.places;
    few = m.few;
    beyond = m.beyond;
    sets = m.sets;
    built = built-kept m.built (shares_of share') _ (omega (arith, m.places, room m more)) kept
        (λ d t. inner m.stacked more is ok h a scale fits differs new d
        (subst (λ (z : ℕ). T (has z d)) (at_new m.stacked more is ok h a scale fits differs new (top + 1) refl) t));
  }

  -- what is left of the set below the top is less dense than the top
  fall : (Y : Depots) → Y ⊆ has (at stack (top - 1)) → Apart Y (has (at stack top)) → Nonempty Y
      → litres N Y (has (at stack top)) * size N (has x) < litres N (has x) (has b) * size N Y
  fall Y y apart s = ⊎_elim
      (λ (z : 0 < top).
      let e : suc (top - 1) ≡ top = omega arith in
      let c = candidate m.stacked more is h.list in
      let w : (has (at stack top) ∖ has b) ≡ has x = fun_ext (λ d. sym (tried-has m.stacked more is d)) in
      subst (λ (X : Depots). litres N Y (has (at stack top)) * size N X < litres N X (has b) * size N Y) w
      (threshold-falls (subst (λ (k : ℕ). Threshold N (has (at stack (top - 1))) (has (at stack k)) (has b)) e (m.stacked.cuts (top - 1) (omega arith)))
      m.stacked.under
      (subst (λ (X : Depots). 0 < size N X) (sym w) (size-pos N ok _ c.listed c.some))
      Y y apart s))
      (λ (z : top ≤ 0). let e : top - 1 ≡ top = omega arith in absurd (apart s.0 s.1 (subst (λ (k : ℕ). T (has (at stack k) s.0)) e (y _ s.1))))
      (below? 0 top)

  pub making-finish : r ≡ x → Making N ends listed stack share' (set groups n x) (top - 1) (n + 1) (at stack top)
  making-finish e = record {
    shares = kept-shares m.stacked more is ok h a scale fits;
    stacked = finish-stacked m.stacked more;
    places = simp length-set m.places;
    few = omega (arith, m.few, grows m.stacked more);
    beyond = λ k l. get_or-set_other groups n k x 0 (λ y. omega arith) ∙ m.beyond k (omega arith);
    sets = λ k l. ⊎_elim
        (λ (z : k < n). rw (get_or-set_other groups n k x 0 (λ y. omega arith)) (m.sets k z))
        (λ (z : n ≤ k). let y : k ≡ n = omega arith in rw (y, get_or-set_same groups n x 0 (omega (arith, m.places, room m more))) (tried-lt m.stacked more is))
        (below? k n);
    built =
        built-more
        (built-kept m.built (shares_of share') (at stack top) (omega (arith, m.places, room m more)) kept (λ d t. t))
        x (at stack (top - 1)) (omega (arith, m.places, room m more))
        (finished h ok a (candidate m.stacked more is h.list) scale fits (λ d t. subst (λ (z : ℕ). T (has z d)) (sym e) t))
        (join m.stacked more is) fall;
  }

-- what falls in the loop: a finish groups more, a split makes the top smaller
abbrev pub left : List ℕ → ℕ → ℕ → ℕ
left stack top b = 65 * (64 - cardinality (has b) 64) + cardinality (has (at stack top)) 64

-- the invariant at the network of the tables
pub here : {ends litres crews : List ℕ} {listed : ℕ} {stack share groups : List ℕ} {top n b : ℕ} (t : Tables ends litres crews listed)
    → Loop ends litres crews listed stack share groups top n b → Making t.network ends listed stack share groups top n b
here t loop = loop t.network t.valid t.holds

pub making-ends : {ends litres crews : List ℕ} {listed : ℕ} {stack share groups : List ℕ} {top n b : ℕ} → Tables ends litres crews listed
    → Loop ends litres crews listed stack share groups top n b → b ≡ listed → Grouped ends litres crews listed share groups n
making-ends {ends} {litres} {crews} {listed} {stack} {share} {groups} {top} {n} {b} t loop e =
    let few : n ≤ 64 = omega (arith, (here t loop).few, cardinality-le (has b) 64) in
    record {
      few = few;
      size = (here t loop).shares.size;
      plan = λ N ok h.
          let m = loop N ok h in
          built-plan ok h share m.built m.shares.size (omega (arith, m.places, few))
          (λ d t. subst (λ (x : ℕ). T (has x d)) (sym e) (subst T (sym (h.list d)) t)) m.sets;
      beyond = (here t loop).beyond;
    }

pub turn-stage : {ends chain litres crews : List ℕ} {listed : ℕ} {stack share groups : List ℕ} {top n b x q : ℕ} (t : Tables ends litres crews listed)
    → Making t.network ends listed stack share groups top n b → (b ≡ listed → ⊥) → Linked ends chain → x ≡ set_of (has (at stack top) ∖ has b) 64
    → q ≡ weigh (at crews) (has x) 64 → Stage ends chain litres crews x b q share
turn-stage t m more l is scale = stage m.stacked more is t l m.shares scale

module _ {ends litres' crews : List ℕ} {listed : ℕ} {stack share groups : List ℕ} {top n b : ℕ} (t : Tables ends litres' crews listed)
    (loop : Loop ends litres' crews listed stack share groups top n b)
    (more : b ≡ listed → ⊥) {x q r : ℕ} {share' : List ℕ} (is : x ≡ set_of (has (at stack top) ∖ has b) 64) (scale : q ≡ weigh (at crews) (has x) 64)
    (a : Attempted ends litres' crews x b q share r share') (fits : r < 2 ^ 64) where
  m : Making t.network ends listed stack share groups top n b
  m = here t loop

  module _ {below : ℕ} (same : r ≡ x) (f : below ≡ top - 1) where
    pub turn-finish : Loop ends litres' crews listed stack share' (set groups n x) below (n + 1) (at stack top)
    turn-finish N ok h = rw f (making-finish ok h (loop N ok h) more is a scale fits same)

    pub finish-less : left stack below (at stack top) < left stack top b
    finish-less = rw f (omega (arith, grows m.stacked more, m.stacked.room (top - 1) (omega arith), m.stacked.room top (omega arith)))

  module _ {y : ℕ} (differs : r ≡ x → ⊥) (new : y ≡ set_of (has b ∪ has r) 64) where
    pub turn_low : top + 1 < 64
    turn_low = split-low m.stacked more is t.valid t.holds a scale fits differs new

    pub turn-split : Loop ends litres' crews listed (set stack (top + 1) y) share' groups (top + 1) n b
    turn-split N ok h = making-split ok h (loop N ok h) more is a scale fits differs new

    pub turn-less : left (set stack (top + 1) y) (top + 1) b < left stack top b
    turn-less =
        rw (at_new m.stacked more is t.valid t.holds a scale fits differs new (top + 1) refl)
        (omega (arith, split-less m.stacked more is t.valid t.holds a scale fits differs new))
