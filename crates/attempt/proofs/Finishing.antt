-- What an attempt shows of the network: its shares can be moved no further, and where no depot was reached the set is finished. Assumes nothing.
use mathlib.Core.Bool.{Bool, false, not, true}
use mathlib.Core.List.{List}
use mathlib.Core.Logic.{◌⊎◌, inl, inr, ⊎_elim}
use mathlib.Core.Path.{◌∙◌, ◌≡◌, ap, ap₂, refl, subst, sym}
use Prim.Native.Nat.{◌*◌, ◌+◌, ◌<◌, ◌^◌, ◌≤◌, ℕ}
use native.Mathlib.Nat.{mul_comm}
use native.Mathlib.Omega.{arith}
use borrow.Author.Tests.{eq-eqb, eqb-true}
use lib.Dec.{T, T_not, eqb, eqb→eq, not_T}
use Rattle.sets.specs.Set.{Depots, ◌∖◌, ◌∪◌, has, weigh}
use Rattle.sets.specs.Sum.{when}
use Rattle.sets.proofs.Member.{has-set_of, member-lt}
use Rattle.sets.proofs.Sum.{sum-cong, sum-cut}
use Rattle.sets.proofs.Test.{T?, and_i, and_l, and_r, is_false, is_true, or_cases, or_l, or_r, passes, when-off, when-on, when-zero}
use Rattle.density.specs.Groups.{Candidate}
use Rattle.density.specs.Network.{Network, Valid, counts, litres, size, touches, within, end}
use Rattle.density.proofs.Lists.{end-small}
use Rattle.density.proofs.Level.{Spread, load_of, touches-cases, touches-end, within_end, within-ends}
use Rattle.density.proofs.Split.{Onward, Settled, level}
use Rattle.residual.specs.Array.{arc_load, at}
use Rattle.residual.specs.Search.{reverse}
use Rattle.residual.proofs.Laws.{below?}
use Rattle.attempt.specs.Arrays.{Holds, arc}
use Rattle.attempt.specs.Attempt.{Attempted}
use Rattle.attempt.proofs.Built.{Finished, shares_of}
use Rattle.attempt.proofs.Held.{arc-is, arc-lt, litres-held, reverse-arc, size-held}
use Rattle.attempt.proofs.Laws.{arc-load, not-both}
use Rattle.attempt.proofs.AllLaid.{Side, side}
use Rattle.residual.specs.Rounds as rounds

-- only the shares of the sites that X carries matter
pub finished-kept : (N : Network) (h g : Bool → ℕ → ℕ) (B X : Depots) → Finished N h B X
    → ((e : Bool) (i : ℕ) → i < N.count → T (counts X B (N.site i)) → g e i ≡ h e i) → Finished N g B X
unfolding load_of
finished-kept N h g B X f k = record {
  candidate = f.candidate;
  spread = record {
    whole = λ i l t. omega (arith, k true i l t, k false i l t, f.spread.whole i l t);
    free = λ e i l t b. k e i l t ∙ f.spread.free e i l t b;
  };
  level = λ d t. sum-cong _ _ N.count (λ i l. same d i l (T? (counts X B (N.site i)))) ∙ f.level d t;
  own = λ i l t e. k false i l t ∙ f.own i l t e;
}
  where
    same : (d i : ℕ) → i < N.count → T (counts X B (N.site i)) ⊎ (T (counts X B (N.site i)) → ⊥)
        → when (counts X B (N.site i)) (when (eqb (N.site i).first d) (g true i) + when (eqb (N.site i).second d) (g false i))
        ≡ when (counts X B (N.site i)) (when (eqb (N.site i).first d) (h true i) + when (eqb (N.site i).second d) (h false i))
    same d i l (inl t) = rw (k true i l t, k false i l t) refl
    same d i l (inr n) = when-off (counts X B (N.site i)) _ n ∙ sym (when-off (counts X B (N.site i)) _ n)

module _ {N : Network} {ends litre crews : List ℕ} {listed : ℕ} (h : Holds N ends litre crews listed) (ok : Valid N)
    {set before q : ℕ} {share : List ℕ} {r : ℕ} {share' : List ℕ} (a : Attempted ends litre crews set before q share r share')
    (cand : Candidate N (has before) (has set)) (scale : q ≡ weigh (at crews) (has set) 64) where
  low : (i : ℕ) → i < N.count → i < 512
  low i l = omega (arith, h.few)

  end-at : (e : Bool) (i : ℕ) → i < N.count → at ends (arc e i) < 64
  end-at e i l = rw (h.depot e i l) (end-small N ok e i l)

  far : (e : Bool) (i : ℕ) → i < N.count → at ends (reverse (arc e i)) ≡ end (not e) (N.site i)
  far e i l = ap (at ends) (reverse-arc e i (low i l)) ∙ h.depot (not e) i l

  rank-in : (d : ℕ) → d < 64 → T (has set d) → at a.rank d ≤ 64
  rank-in d l t = ⊎_elim (λ (o : 64 < at a.rank d). absurd (not-both _ (is_true _ t) (a.outside d l o))) (λ z. z) (below? 64 (at a.rank d))

  rank-out : (d : ℕ) → d < 64 → (T (has set d) → ⊥) → 64 < at a.rank d
  rank-out d l n = ⊎_elim (λ z. z) (λ (o : at a.rank d ≤ 64). absurd (n (passes _ (a.inside d l o)))) (below? 64 (at a.rank d))

  whole-arc : (e : Bool) (i : ℕ) → i < N.count → T (has set (end e (N.site i))) → T (has set (end (not e) (N.site i))) ⊎ T (has before (end (not e) (N.site i)))
      → at share' (arc e i) + at share' (arc (not e) i) ≡ (N.site i).litres * size N (has set)
  whole-arc e i l t u =
      let w = a.outcome.whole (arc e i) i (arc-lt e i (low i l)) (end-at e i l) (arc-is e i) (low i l)
      (rw (h.depot e i l) (rank-in _ (end-small N ok e i l) t))
      (⊎_elim (λ p. inl (rw (far e i l) (rank-in _ (end-small N ok (not e) i l) p))) (λ p. inr (rw (far e i l) (is_true _ p))) u) in
      ap (λ (j : ℕ). at share' (arc e i) + at share' j) (sym (reverse-arc e i (low i l)))
      ∙ w
      ∙ ap₂ ◌*◌ (scale ∙ size-held h (has set)) (h.litre i l)
      ∙ mul_comm (size N (has set)) (N.site i).litres

  pub spread : Spread N (has before) (has set) (shares_of share')
  spread = record {
    whole = λ i l t.
        let w = within_end (has set ∪ has before) (N.site i) (and_l (within (has set ∪ has before) (N.site i)) (touches (has set) (N.site i)) t) in
        ⊎_elim
        (λ p. whole-arc true i l p (or_cases (has set (N.site i).second) (has before (N.site i).second) (w false)))
        (λ p. omega (arith, whole-arc false i l p (or_cases (has set (N.site i).first) (has before (N.site i).first) (w true))))
        (or_cases (has set (N.site i).first) (has set (N.site i).second) (and_r (within (has set ∪ has before) (N.site i)) (touches (has set) (N.site i)) t));
    free = λ e i l t b.
        ⊎_elim
        (λ p. absurd (cand.free _ p b))
        (λ p.
        a.outcome.grouped (arc e i) (arc-lt e i (low i l))
        (rw (h.depot e i l) (rank-out _ (end-small N ok e i l) (λ z. cand.free _ z b)))
        (rw (far e i l) (rank-in _ (end-small N ok (not e) i l) p)))
        (touches-cases (has set) (N.site i) (and_r (within (has set ∪ has before) (N.site i)) (touches (has set) (N.site i)) t) e);
  }

  -- a depot of the set has nothing of a site that the set does not carry
  nothing : (d : ℕ) → T (has set d) → (i : ℕ) → i < N.count → (T (counts (has set) (has before) (N.site i)) → ⊥) → (e : Bool)
      → when (eqb (end e (N.site i)) d) (at share' (arc e i)) ≡ 0
  nothing d t i l n e = ⊎_elim on (when-off (eqb (end e (N.site i)) d) (at share' (arc e i))) (T? (eqb (end e (N.site i)) d))
    where
      on : T (eqb (end e (N.site i)) d) → when (eqb (end e (N.site i)) d) (at share' (arc e i)) ≡ 0
      on k =
          let p : T (has set (end e (N.site i))) = subst (λ (x : ℕ). T (has set x)) (sym (eqb→eq _ d k)) t in
          let out : T ((has set ∪ has before) (end (not e) (N.site i))) → ⊥ = λ u.
          n (and_i (within (has set ∪ has before) (N.site i)) (touches (has set) (N.site i))
          (within-ends (has set ∪ has before) (N.site i) e (or_l (has set (end e (N.site i))) (has before (end e (N.site i))) p) u)
          (touches-end (has set) (N.site i) e p)) in
          when-on (eqb (end e (N.site i)) d) (at share' (arc e i)) k
          ∙ a.outcome.beyond (arc e i) (arc-lt e i (low i l))
          (rw (h.depot e i l) (rank-in _ (end-small N ok e i l) p))
          (rw (far e i l) (rank-out _ (end-small N ok (not e) i l) (λ z. out (or_l (has set (end (not e) (N.site i))) (has before (end (not e) (N.site i))) z))))
          (rw (far e i l) (is_false _ (λ z. out (or_r (has set (end (not e) (N.site i))) (has before (end (not e) (N.site i))) z))))

  load-held : (d : ℕ) → T (has set d) → arc_load ends d share' ≡ load_of N (has before) (has set) (shares_of share') d
  unfolding load_of
  load-held d t = arc-load ends share' d ∙ sum-cut _ _ 512 N.count h.few term rest
    where
      part : (e : Bool) (i : ℕ) → i < N.count → when (eqb (at ends (arc e i)) d) (at share' (arc e i)) ≡ when (eqb (end e (N.site i)) d) (at share' (arc e i))
      part e i l = rw (h.depot e i l) refl

      term : (i : ℕ) → i < N.count → when (eqb (at ends i) d) (at share' i) + when (eqb (at ends (512 + i)) d) (at share' (512 + i))
          ≡ when (counts (has set) (has before) (N.site i)) (when (eqb (N.site i).first d) (at share' i) + when (eqb (N.site i).second d) (at share' (512 + i)))
      term i l = ⊎_elim
          (λ k. ap₂ ◌+◌ (part true i l) (part false i l) ∙ sym (when-on (counts (has set) (has before) (N.site i)) _ k))
          (λ k. ap₂ ◌+◌ (part true i l ∙ nothing d t i l k true) (part false i l ∙ nothing d t i l k false) ∙ sym (when-off (counts (has set) (has before) (N.site i)) _ k))
          (T? (counts (has set) (has before) (N.site i)))

      none : (e : Bool) (i : ℕ) → N.count ≤ i → i < 512 → when (eqb (at ends (arc e i)) d) (at share' (arc e i)) ≡ 0
      none e i l m = rw (a.outcome.blank (arc e i) (arc-lt e i m) (h.blank e i l m)) (when-zero (eqb (at ends (arc e i)) d))

      rest : (i : ℕ) → N.count ≤ i → i < 512 → when (eqb (at ends i) d) (at share' i) + when (eqb (at ends (512 + i)) d) (at share' (512 + i)) ≡ 0
      rest i l m = ap₂ ◌+◌ (none true i l m) (none false i l m)

  target : (d : ℕ) → d < 64 → a.w * at crews d ≡ N.crews d * litres N (has set) (has before)
  target d l = ap₂ ◌*◌ (a.litre ∙ litres-held h (has set) (has before)) (h.crew d l) ∙ mul_comm (litres N (has set) (has before)) (N.crews d)

  load_is : (d : ℕ) → T (has set d) → at a.load d ≡ load_of N (has before) (has set) (shares_of share') d
  load_is d t = let l = ok.small d (cand.listed d t) in a.outcome.sums d l (rank-in d l t) ∙ load-held d t

  module _ (fits : r < 2 ^ 64) where
    dense : (d : ℕ) → d < 64 → has r d ≡ eqb (at a.rank d) 64
    dense d l = ap (λ (x : ℕ). has x d) a.dense ∙ has-set_of 64 (λ d. eqb (at a.rank d) 64) d l

    full-rank : (d : ℕ) → d < 64 → T (has r d) → at a.rank d ≡ 64
    full-rank d l t = eqb-true _ _ (sym (dense d l) ∙ is_true _ t)

    part : (d : ℕ) → T (has r d) → T (has set d)
    part d t = let l = member-lt 64 d fits t in passes _ (a.inside d l (omega (arith, full-rank d l t)))

    -- a depot of the set that is not in r has a place in the order
    rest-rank : (d : ℕ) → T ((has set ∖ has r) d) → at a.rank d < 64
    rest-rank d t =
        let s = and_l (has set d) (not (has r d)) t in
        let l = ok.small d (cand.listed d s) in
        ⊎_elim (λ z. z)
        (λ (z : 64 ≤ at a.rank d). absurd (T_not (has r d) (and_r (has set d) (not (has r d)) t) (passes _ (dense d l ∙ eq-eqb (at a.rank d) 64 (omega (arith, rank-in d l s))))))
        (below? (at a.rank d) 64)

    rest_in : (d : ℕ) → d < 64 → at a.rank d < 64 → T ((has set ∖ has r) d)
    rest_in d l o = and_i (has set d) (not (has r d)) (passes _ (a.inside d l (omega arith))) (not_T (has r d) (λ t. omega (arith, full-rank d l t)))

    onward : (d : ℕ) → T (has set d) → (w : rounds.Onward ends share' a.rank d) → at a.rank d < 64 → Side w.arc → Onward N (has before) (has set) (shares_of share') (has r) (at a.rank) d
    onward d t w o p = ⊎_elim (λ z. go true p.site p.is z.0) (λ z. go false p.site p.is z.0) p.which
      where
        go : (e : Bool) (i : ℕ) → i < 512 → w.arc ≡ arc e i → Onward N (has before) (has set) (shares_of share') (has r) (at a.rank) d
        go e i m z =
            let low : d < 64 = ok.small d (cand.listed d t) in
            let from : at ends (arc e i) ≡ d = ap (at ends) (sym z) ∙ w.from in
            let l : i < N.count = ⊎_elim (λ y. y) (λ (y : N.count ≤ i). absurd (omega (arith, h.blank e i y m))) (below? i N.count) in
            let other : at ends (reverse w.arc) ≡ end (not e) (N.site i) = ap (λ (j : ℕ). at ends (reverse j)) z ∙ far e i l in
            let ahead : at a.rank (end (not e) (N.site i)) < at a.rank d = omega (arith, w.earlier, ap (at a.rank) other) in
            let here : T (has set (end e (N.site i))) = subst (λ (x : ℕ). T (has set x)) (sym (sym (h.depot e i l) ∙ from)) t in
            let there = rest_in (end (not e) (N.site i)) (end-small N ok (not e) i l) (omega arith) in
            record {
              site = i;
              number = l;
              carried = and_i (within (has set ∪ has before) (N.site i)) (touches (has set) (N.site i))
                  (within-ends (has set ∪ has before) (N.site i) e (or_l (has set (end e (N.site i))) (has before (end e (N.site i))) here)
                  (or_l (has set (end (not e) (N.site i))) (has before (end (not e) (N.site i))) (and_l (has set (end (not e) (N.site i))) (not (has r (end (not e) (N.site i)))) there)))
                  (touches-end (has set) (N.site i) e here);
              side = e;
              from = sym (h.depot e i l) ∙ from;
              gives = rw (← z) w.gives;
              to = there;
              earlier = ahead;
            }

    pub settled : Settled N (has before) (has set) (shares_of share') (has r) (at a.rank)
    settled = record {
      part = part;
      heavy = λ d t.
          let l = member-lt 64 d fits t in
          omega (arith, a.outcome.high d l (full-rank d l t), load_is d (part d t), target d l);
      light = λ d t.
          let s = and_l (has set d) (not (has r d)) t in
          let l = ok.small d (cand.listed d s) in
          omega (arith, a.outcome.low d l (rest-rank d t), load_is d s, target d l);
      closed = λ e i l t p k.
          ⊎_elim
          (λ (z : 0 < at share' (arc e i)).
          absurd (a.outcome.closed (end (not e) (N.site i)) (record { depot = end-small N ok (not e) i l; within = rest-rank _ k }) (arc e i) (arc-lt e i (low i l)) z (far e i l)
          (rw (h.depot e i l) (full-rank _ (end-small N ok e i l) p))))
          (λ (z : at share' (arc e i) ≤ 0). omega arith)
          (below? 0 (at share' (arc e i)));
      onward = λ d t.
          let s = and_l (has set d) (not (has r d)) t in
          let l = ok.small d (cand.listed d s) in
          ⊎_elim (λ z. inl (omega (arith, load_is d s, target d l))) (λ w. inr (onward d s w (rest-rank d t) (side w.arc w.is))) (a.outcome.onward d l (rest-rank d t));
    }

    -- an attempt that reached no depot finishes its set
    pub finished : ((d : ℕ) → T (has set d) → T (has r d)) → Finished N (shares_of share') (has before) (has set)
    finished all = record {
      candidate = cand;
      spread = spread;
      level = level N ok (has before) (has set) (shares_of share') spread cand (has r) (at a.rank) settled all;
      own = λ i l t e.
          a.own i (low i l) (end-at true i l) (h.depot true i l ∙ e ∙ sym (h.depot false i l))
          (rw (h.depot true i l) (is_true _ (⊎_elim (λ p. p) (λ p. subst (λ (x : ℕ). T (has set x)) (sym e) p)
          (or_cases (has set (N.site i).first) (has set (N.site i).second) (and_r (within (has set ∪ has before) (N.site i)) (touches (has set) (N.site i)) t)))));
    }
