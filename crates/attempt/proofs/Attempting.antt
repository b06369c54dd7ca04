-- One attempt: each call's requirements, and the outcome. Assumes nothing.
use mathlib.Core.Bool.{Bool, ◌&&◌, cond, false, true}
use mathlib.Core.List.{List}
use mathlib.Core.Logic.{⊎_elim}
use mathlib.Core.Path.{◌∙◌, ◌≡◌, ap, refl, sym}
use Prim.Native.Nat.{◌*◌, ◌+◌, ◌<◌, ◌^◌, ◌≤◌, ℕ}
use native.Mathlib.Nat.{mul-le-mul_left, mul-le-mul_right, mul-zero}
use native.Mathlib.Omega.{arith}
use lib.Dec.{eqb}
use lib.ListN.{length, replicate}
use Rattle.sets.specs.Set.{has, set_of}
use Rattle.sets.specs.Sum.{sum}
use Rattle.sets.proofs.Sum.{sum-grows, sum_mono, sum_more, sum-zero}
use Rattle.sets.proofs.Test.{when-≤}
use Rattle.residual.specs.Array.{at, total_load}
use Rattle.residual.specs.Moves.{Loaded}
use Rattle.residual.proofs.Laws.{below?}
use Rattle.attempt.specs.Attempt.{Attempted, Stage}
use Rattle.attempt.specs.Lay.{Aiming, Laying}
use Rattle.attempt.specs.Outcome.{brings, litres_of}
use Rattle.attempt.proofs.Aiming.{aimed}
use Rattle.attempt.proofs.Laid.{Laid, leaves, outcome, takes}
use Rattle.attempt.proofs.Laws.{both_true, zero-at}
use Rattle.attempt.proofs.AllLaid.{lay-laid, second_none, side, side-first, side-second}
use Rattle.attempt.proofs.Laying.{brings-most}
use Rattle.residual.specs.Rounds as rounds

pub zero-total : total_load (replicate 64 0) ≡ 0
zero-total = sum-zero (at (replicate 64 0)) 64 (λ d l. zero-at 64 d)

module _ {ends chain litres crews : List ℕ} {set before q : ℕ} {share₀ : List ℕ} (t : Stage ends chain litres crews set before q share₀) where
  pub attempt-lay : (load : List ℕ) → length load ≡ 64 → total_load load ≡ 0 → ((d : ℕ) → at load d ≡ 0)
      → Laying ends litres (has set) (has before) q share₀ 0 share₀ load 0
  unfolding sum
  attempt-lay load size none-all none = record {
    shares = t.shares;
    sizes = size;
    low = omega arith;
    sum_is = none-all ∙ sym (mul-zero q);
    litre = refl;
    loads = λ d h e. none d;
    kept = λ k h e. (refl, refl);
    laid = λ k h. absurd (omega arith);
  }

  pub attempt-aim : {w : ℕ} (target rank : List ℕ) → length target ≡ 64 → length rank ≡ 64 → Aiming crews set w target rank 0
  attempt-aim target rank h l = record { targets = h; ranks = l; low = omega arith; done = λ x m. absurd (omega arith) }

  module _ {w : ℕ} {share load : List ℕ} (l : Laying ends litres (has set) (has before) q share₀ w share load 512) where
    few : w ≤ sum (at litres) 512
    few = omega (arith, l.litre, sum_mono _ _ 512 (λ k h. brings-most ends litres (has set) (has before) k))

    pub attempt-heavy : (d : ℕ) → d < 64 → w * at crews d < 2 ^ 64
    attempt-heavy d h = omega (arith, t.heavy d h, mul-le-mul_right (at crews d) few)

    -- a site that was laid anew holds what it brings
    new-fits : (k : ℕ) → k < 512 → at ends k < 64 → (has before (at ends k) && has before (at ends (512 + k))) ≡ false → at share k + at share (512 + k) < 2 ^ 64
    new-fits k h e a =
        let x : ℕ = brings ends litres (has set) (has before) k in
        let below : x ≤ sum (at litres) 512 = omega (arith, brings-most ends litres (has set) (has before) k, sum_more (at litres) k, sum-grows (at litres) 512 (k + 1) (omega arith)) in
        omega (arith, (l.laid k h e a).0, (l.laid k h e a).1, when-≤ (has set (at ends k)) (q * x), mul-le-mul_left q below, t.ready.fits)

    site-fits : (k : ℕ) → k < 512 → at share k + at share (512 + k) < 2 ^ 64
    site-fits k h = ⊎_elim
        (λ e. go e ((has before (at ends k) && has before (at ends (512 + k)))) refl)
        (λ e. old (λ z. absurd (omega arith)))
        (below? (at ends k) 64)
      where
        old : (at ends k < 64 → (has before (at ends k) && has before (at ends (512 + k))) ≡ true) → at share k + at share (512 + k) < 2 ^ 64
        old e = omega (arith, (l.kept k h e).0, (l.kept k h e).1, t.sites k (omega arith), ap (at share₀) (side-first k h))

        go : at ends k < 64 → (b : Bool) → (has before (at ends k) && has before (at ends (512 + k))) ≡ b → at share k + at share (512 + k) < 2 ^ 64
        go e true z = old (λ y. z)
        go e false z = new-fits k h e z

    pub attempt-loaded : Loaded ends share load
    attempt-loaded = record {
      arcs = t.paired.size;
      shares = l.shares;
      loads = l.sizes;
      sites = λ j h. let s = side j h in ⊎_elim
          (λ z. omega (arith, site-fits s.site s.is, ap (at share) z.0, ap (at share) z.1))
          (λ z. omega (arith, site-fits s.site s.is, ap (at share) z.0, ap (at share) z.1))
          s.which;
      fits = omega (arith, l.sum_is, mul-le-mul_left q few, t.ready.fits);
    }

    module _ {target rank₀ : List ℕ} (a : Aiming crews set w target rank₀ 64) where
      pub attempt-start : (order : List ℕ) → length order ≡ 64 → rounds.Start ends chain target order rank₀
      attempt-start order size = record {
        paired = t.paired;
        linked = t.linked;
        targets = a.targets;
        orders = size;
        ranks = a.ranks;
      }

      laid : Laid ends litres share load (has set) (has before) q
      laid = lay-laid t.ready l t.paired t.most t.blank

      -- the pushes keep the shares of sites between grouped depots, and of none
      still : {n : ℕ} {rank share' load' : List ℕ} → rounds.Relaxed ends target rank₀ share load n rank share' load' → (k : ℕ) → k < 512
          → (at ends k < 64 → (has before (at ends k) && has before (at ends (512 + k))) ≡ true) → (at share' k ≡ at share k) × (at share' (512 + k) ≡ at share (512 + k))
      still x k h e = ⊎_elim
          (λ m. let z = both_true _ _ (e m) in (
            x.preserved.outside k (omega arith) m (out (at ends k) m z.0),
            x.preserved.outside (512 + k) (omega arith) (t.ready.listed.pair k h m) (out (at ends (512 + k)) (t.ready.listed.pair k h m) z.1),
          ))
          (λ m. let n = t.ready.listed.none k h m in (
            x.preserved.own k (omega arith) (omega (arith, t.most k (omega arith), t.most (512 + k) (omega arith), ap (at ends) (side-first k h))),
            x.preserved.own (512 + k) (omega arith) (omega (arith, t.most k (omega arith), t.most (512 + k) (omega arith), ap (at ends) (side-second k h))),
          ))
          (below? (at ends k) 64)
        where
          out : (d : ℕ) → d < 64 → has before d ≡ true → 64 < at rank₀ d
          out d h z = omega (arith, (a.done d h).1 ∙ ap (λ (s : Bool). cond s 64 65) (t.ready.apart d h z))

      litre : w ≡ litres_of ends litres (has set) (has before)
      unfolding litres_of
      litre = l.litre

      pub attempted : {n : ℕ} {rank share' load' : List ℕ} {r : ℕ} → rounds.Relaxed ends target rank₀ share load n rank share' load' → r ≡ set_of (λ d. eqb (at rank d) 64) 64
          → Attempted ends litres crews set before q share₀ r share'
      attempted {n} {rank} {share'} {load'} {r} x g = record {
        rank = rank;
        load = load';
        w = w;
        litre = litre;
        outcome = outcome laid (aimed a) x;
        inside = takes laid (aimed a) x;
        outside = λ d h o. (leaves laid (aimed a) x d h o).0;
        dense = g;
        sites = x.preserved.loaded.sites;
        own = λ k h e o s. x.preserved.own (512 + k) (omega arith) (sym (ap (at ends) (side-second k h) ∙ o)) ∙ second_none t.ready l k h e s;
        kept = λ k h e. ((still x k h e).0 ∙ (l.kept k h e).0, (still x k h e).1 ∙ (l.kept k h e).1);
      }
