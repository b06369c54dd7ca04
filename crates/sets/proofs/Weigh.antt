-- Weights of sets, how many depots they have, and the lowest. Assumes nothing.
use mathlib.Core.Path.{◌≡◌, refl, sym, ap, ap₂, ◌∙◌}
use mathlib.Core.Bool.{Bool, true, false, not, cond, ◌&&◌, ◌||◌}
use mathlib.Core.Logic.{⊎_elim}
use Prim.Native.Nat.{ℕ, zero, suc, ◌+◌, ◌*◌, ◌/◌, ◌^◌, ◌≤◌, ◌<◌, zero-le, suc-le-suc}
use native.Mathlib.Nat.{add-zero, le_trans, not-suc-le-zero, le_of_suc-le-suc, zero-lt-suc}
use native.Mathlib.Numerals.{add-one}
use native.Mathlib.Omega.{arith}
use lib.Count.{ones, ones_step, ones-le, count_trailing_zeros, under}
use lib.Dec.{T, eqb, ltb, ltb→lt, nltb→le, T_not, not_T}
use Rattle.sets.specs.Sum.{when, sum, any}
use Rattle.sets.specs.Set.{Depots, only, ◌∪◌, ◌∩◌, ◌∖◌, ◌⊆◌, Apart, has, weigh, cardinality, lowest}
use Rattle.sets.proofs.Test.{T?, and_l, and_r, passes, eqb_swap, cond-on, when-on, when-off, when-≤, when-mono, when-cong}
use Rattle.sets.proofs.Sum.{any_at, sum-cong, sum_mono, sum_lt, sum-zero, sum-add, sum-cong₂, sum-pick, sum-shift, sum-≤}
use Rattle.sets.proofs.Member.{half_lt, low_bit, has-suc}
use Rattle.sets.proofs.Set.{subset→, ⊆-antisym}

when-∪ : (a b : Bool) (n : ℕ) → when (a || b) n + when (a && b) n ≡ when a n + when b n
when-∪ true true n = refl
when-∪ true false n = refl
when-∪ false true n = omega arith
when-∪ false false n = refl

when-∖ : (a b : Bool) (n : ℕ) → when (a && b) n + when (a && not b) n ≡ when a n
when-∖ true true n = omega arith
when-∖ true false n = omega arith
when-∖ false b n = refl

module _ (c : ℕ → ℕ) (X Y : Depots) (k : ℕ) where
  pub weigh-cong : ((d : ℕ) → d < k → X d ≡ Y d) → weigh c X k ≡ weigh c Y k
  unfolding weigh
  weigh-cong e = sum-cong (λ d. when (X d) (c d)) (λ d. when (Y d) (c d)) k (λ d l. when-cong (X d) (Y d) (c d) (e d l))

  pub weigh-mono : X ⊆ Y → weigh c X k ≤ weigh c Y k
  unfolding weigh
  weigh-mono s = sum_mono (λ d. when (X d) (c d)) (λ d. when (Y d) (c d)) k (λ d l. when-mono (X d) (Y d) (c d) (s d))

  -- a depot more, of some weight
  pub weigh-lt : X ⊆ Y → (d : ℕ) → d < k → T (Y d) → (T (X d) → ⊥) → 0 < c d → weigh c X k < weigh c Y k
  unfolding weigh
  weigh-lt s d l y n p =
      sum_lt (λ e. when (X e) (c e)) (λ e. when (Y e) (c e)) k (λ e m. when-mono (X e) (Y e) (c e) (s e)) d l
      (omega (arith, when-off (X d) (c d) n, when-on (Y d) (c d) y))

  pub weigh-modular : weigh c (X ∪ Y) k + weigh c (X ∩ Y) k ≡ weigh c X k + weigh c Y k
  unfolding weigh
  weigh-modular =
      sum-cong₂ (λ d. when (X d || Y d) (c d)) (λ d. when (X d && Y d) (c d)) (λ d. when (X d) (c d) + when (Y d) (c d)) k (λ d l. when-∪ (X d) (Y d) (c d))
      ∙ sum-add (λ d. when (X d) (c d)) (λ d. when (Y d) (c d)) k

  -- what of Y is in X, and the rest
  pub weigh-split : weigh c Y k ≡ weigh c (Y ∩ X) k + weigh c (Y ∖ X) k
  unfolding weigh
  weigh-split =
      sym (sum-cong₂ (λ d. when (Y d && X d) (c d)) (λ d. when (Y d && not (X d)) (c d)) (λ d. when (Y d) (c d)) k (λ d l. when-∖ (Y d) (X d) (c d)))

pub weigh-empty : (c : ℕ → ℕ) (X : Depots) (k : ℕ) → ((d : ℕ) → d < k → T (X d) → ⊥) → weigh c X k ≡ 0
unfolding weigh
weigh-empty c X k h = sum-zero (λ d. when (X d) (c d)) k (λ d l. when-off (X d) (c d) (h d l))

pub weigh-apart : (c : ℕ → ℕ) (X Y : Depots) (k : ℕ) → Apart X Y → weigh c (X ∪ Y) k ≡ weigh c X k + weigh c Y k
weigh-apart c X Y k a =
    omega (arith, weigh-modular c X Y k, weigh-empty c (X ∩ Y) k (λ d l t. a d (and_l (X d) (Y d) t) (and_r (X d) (Y d) t)))

pub weigh-only : (c : ℕ → ℕ) (d k : ℕ) → d < k → weigh c (only d) k ≡ c d
unfolding weigh
weigh-only c d k l = weigh-cong c (only d) (λ e. eqb d e) k (λ e m. eqb_swap e d) ∙ sum-pick c d k l

pub weigh-le : (c : ℕ → ℕ) (X : Depots) (k m : ℕ) → ((d : ℕ) → d < k → c d ≤ m) → weigh c X k ≤ k * m
unfolding weigh
weigh-le c X k m h = sum-≤ (λ d. when (X d) (c d)) m k (λ d l. le_trans (when-≤ (X d) (c d)) (h d l))

-- where each depot has the weight 1, it is how many there are
pub weigh-ones : (c : ℕ → ℕ) (X : Depots) (k : ℕ) → ((d : ℕ) → d < k → c d ≡ 1) → cardinality X k ≡ weigh c X k
unfolding cardinality weigh
weigh-ones c X k one = sum-cong _ _ k (λ d l. ap (when (X d)) (sym (one d l)))

-- ---- a step of a loop over the depots

pub weigh-start : (c : ℕ → ℕ) (X : Depots) → weigh c X 0 ≡ 0
unfolding weigh sum
weigh-start c X = refl

module _ (c : ℕ → ℕ) (X : Depots) (k : ℕ) where
  step : weigh c X (k + 1) ≡ weigh c X k + when (X k) (c k)
  unfolding weigh sum
  step = ap (weigh c X) (add-one k)

  pub weigh-take : X k ≡ true → weigh c X (k + 1) ≡ weigh c X k + c k
  weigh-take e = step ∙ ap (λ (b : Bool). weigh c X k + when b (c k)) e

  pub weigh-skip : X k ≡ false → weigh c X (k + 1) ≡ weigh c X k
  weigh-skip e = step ∙ ap (λ (b : Bool). weigh c X k + when b (c k)) e ∙ add-zero (weigh c X k)

-- ---- how many

pub cardinality-ones : (k x : ℕ) → x < 2 ^ k → cardinality (has x) k ≡ ones x
unfolding cardinality weigh sum
cardinality-ones zero x h = omega (arith, ones-le 0 x h)
cardinality-ones (suc k) x h =
    sum-shift (λ d. when (has x d) 1) k
    ∙ ap₂ ◌+◌ (sym (low_bit x)) (weigh-cong (λ d. 1) (λ d. has x (suc d)) (has (x / 2)) k (λ d l. has-suc x d) ∙ cardinality-ones k (x / 2) (half_lt k h))
    ∙ sym (ones_step x)

-- a part of a set that is not all of it has fewer depots
pub cardinality-lt : {x y : ℕ} → y < 2 ^ 64 → has x ⊆ has y → (x ≡ y → ⊥) → cardinality (has x) 64 < cardinality (has y) 64
unfolding cardinality
cardinality-lt {x} {y} h s n =
    ⊎_elim
    (λ t.
    let r = any_at (has y ∖ has x) 64 t in
    weigh-lt (λ d. 1) (has x) (has y) 64 s r.0 r.1 (and_l (has y r.0) (not (has x r.0)) r.2)
    (T_not (has x r.0) (and_r (has y r.0) (not (has x r.0)) r.2)) (omega arith))
    (λ f. absurd (n (⊆-antisym x y s (subset→ 64 x h (not_T (any (has y ∖ has x) 64) f)))))
    (T? (any (has y ∖ has x) 64))

pub cardinality-le : (X : Depots) (k : ℕ) → cardinality X k ≤ k
unfolding cardinality
cardinality-le X k = omega (arith, weigh-le (λ d. 1) X k 1 (λ d l. suc-le-suc zero-le))

-- ---- the lowest

pub lowest-le : (X : Depots) (k : ℕ) → lowest X k ≤ k
unfolding lowest
lowest-le X zero = zero-le
lowest-le X (suc k) = go (X 0) (lowest-le (λ d. X (suc d)) k)
  where
    go : (b : Bool) {n : ℕ} → n ≤ k → cond b 0 (suc n) ≤ suc k
    go true l = zero-le
    go false l = suc-le-suc l

-- no depot of X is below it
pub lowest-least : (X : Depots) (k d : ℕ) → d < lowest X k → T (X d) → ⊥
unfolding lowest
lowest-least X zero d l t = not-suc-le-zero l
lowest-least X (suc k) zero l t = not-suc-le-zero (rw (cond-on (X 0) 0 (suc (lowest (λ e. X (suc e)) k)) t) at l)
lowest-least X (suc k) (suc d) l t = lowest-least (λ e. X (suc e)) k d (go (X 0) l) t
  where
    go : (b : Bool) {n : ℕ} → suc d < cond b 0 (suc n) → d < n
    go true m = absurd (not-suc-le-zero m)
    go false m = le_of_suc-le-suc m

-- it is one of X, if X has one below k
pub lowest-has : (X : Depots) (k d : ℕ) → d < k → T (X d) → T (X (lowest X k))
unfolding lowest
lowest-has X zero d l t = absurd (not-suc-le-zero l)
lowest-has X (suc k) zero l t = rw (cond-on (X 0) 0 (suc (lowest (λ e. X (suc e)) k)) t) t
lowest-has X (suc k) (suc d) l t = go (X 0) (lowest (λ e. X (suc e)) k) refl (lowest-has (λ e. X (suc e)) k d (le_of_suc-le-suc l) t)
  where
    go : (b : Bool) (n : ℕ) → X 0 ≡ b → T (X (suc n)) → T (X (cond b 0 (suc n)))
    go true n e u = passes (X 0) e
    go false n e u = u

pub lowest-hit : (X : Depots) (k : ℕ) → lowest X k < k → T (X (lowest X k))
unfolding lowest
lowest-hit X zero h = absurd (not-suc-le-zero h)
lowest-hit X (suc k) h = go (X 0) (lowest (λ e. X (suc e)) k) refl h (lowest-hit (λ e. X (suc e)) k)
  where
    go : (b : Bool) (n : ℕ) → X 0 ≡ b → cond b 0 (suc n) < suc k → (n < k → T (X (suc n))) → T (X (cond b 0 (suc n)))
    go true n e l f = passes (X 0) e
    go false n e l f = f (le_of_suc-le-suc l)

-- it is the depot before which X has none, and k where X has none
pub lowest-first : (X : Depots) (k d : ℕ) → d < k → T (X d) → ((e : ℕ) → e < d → T (X e) → ⊥) → lowest X k ≡ d
lowest-first X k d l t none =
    let low = lowest X k in
    ⊎_elim (λ u. absurd (none low (ltb→lt low d u) (lowest-has X k d l t)))
    (λ n.
    ⊎_elim (λ u. absurd (lowest-least X k d (ltb→lt d low u) t))
    (λ m. let a = nltb→le low d (not_T (ltb low d) n) in let b = nltb→le d low (not_T (ltb d low) m) in omega arith) (T? (ltb d low)))
    (T? (ltb low d))

pub lowest-none : (X : Depots) (k : ℕ) → ((e : ℕ) → e < k → T (X e) → ⊥) → lowest X k ≡ k
lowest-none X k none =
    let low = lowest X k in
    ⊎_elim (λ u. let l = ltb→lt low k u in absurd (none low l (lowest-hit X k l)))
    (λ n. let a = nltb→le low k (not_T (ltb low k) n) in let b = lowest-le X k in omega arith) (T? (ltb low k))

pub lowest-cong : (X Y : Depots) (k : ℕ) → ((d : ℕ) → d < k → X d ≡ Y d) → lowest X k ≡ lowest Y k
unfolding lowest
lowest-cong X Y zero e = refl
lowest-cong X Y (suc k) e =
    cc (e 0 (zero-lt-suc k), lowest-cong (λ d. X (suc d)) (λ d. Y (suc d)) k (λ d l. e (suc d) (suc-le-suc l)))

pub lowest-trailing : (k x : ℕ) → lowest (has x) k ≡ count_trailing_zeros k x
unfolding lowest count_trailing_zeros
lowest-trailing zero x = refl
lowest-trailing (suc k) x =
    ap (λ (n : ℕ). cond (has x 0) 0 (suc n)) (lowest-cong (λ d. has x (suc d)) (has (x / 2)) k (λ d l. has-suc x d) ∙ lowest-trailing k (x / 2))
    ∙ sym (ap (λ (n : ℕ). under n (count_trailing_zeros k (x / 2))) (low_bit x) ∙ turn (has x 0) (count_trailing_zeros k (x / 2)))
  where
    turn : (b : Bool) (n : ℕ) → under (when b 1) n ≡ cond b 0 (suc n)
    turn true n = refl
    turn false n = refl
