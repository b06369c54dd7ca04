-- Laws of finite sums. Assumes nothing.
use mathlib.Core.Path.{◌≡◌, refl, sym, ap, ◌∙◌}
use mathlib.Core.Logic.{⊎_elim, ◌≢◌}
use mathlib.Core.Bool.{Bool, true, false}
use Prim.Native.Nat.{ℕ, zero, suc, ◌+◌, ◌*◌, ◌≤◌, ◌<◌}
use native.Mathlib.Nat.{add-zero, add-suc, le_trans, le_of_eq, le_refl, le_step, add-le-add, eq-or-lt_of_le, le_of_suc-le-suc}
use native.Mathlib.Numerals.{add-one}
use native.Mathlib.Omega.{arith}
use lib.Dec.{T, eqb, eqb→eq}
use Rattle.sets.specs.Sum.{when, sum, all, any}
use Rattle.sets.proofs.Test.{or_l, or_r, or_cases, and_i, and_l, and_r, eq→eqb, when-on, when-off}

pub sum-cong : (f g : ℕ → ℕ) (n : ℕ) → ((i : ℕ) → i < n → f i ≡ g i) → sum f n ≡ sum g n
unfolding sum
sum-cong f g zero h = refl
sum-cong f g (suc n) h = cc (sum-cong f g n (λ i l. h i (le_step l)), h n (le_refl (suc n)))

pub sum_mono : (f g : ℕ → ℕ) (n : ℕ) → ((i : ℕ) → i < n → f i ≤ g i) → sum f n ≤ sum g n
unfolding sum
sum_mono f g zero h = le_refl 0
sum_mono f g (suc n) h = add-le-add (sum_mono f g n (λ i l. h i (le_step l))) (h n (le_refl (suc n)))

-- a sum of terms that are at most those of another, one of them less
pub sum_lt : (f g : ℕ → ℕ) (n : ℕ) → ((i : ℕ) → i < n → f i ≤ g i) → (k : ℕ) → k < n → f k < g k → sum f n < sum g n
unfolding sum
sum_lt f g zero h k l s = omega arith
sum_lt f g (suc n) h k l s =
    ⊎_elim
    (λ (e : k ≡ n). let t : f n < g n = rw e at s in omega (arith, sum_mono f g n (λ i m. h i (le_step m))))
    (λ (m : k < n). omega (arith, sum_lt f g n (λ i m. h i (le_step m)) k m s, h n (le_refl (suc n))))
    (eq-or-lt_of_le (le_of_suc-le-suc l))

pub sum-zero : (f : ℕ → ℕ) (n : ℕ) → ((i : ℕ) → i < n → f i ≡ 0) → sum f n ≡ 0
unfolding sum
sum-zero f zero h = refl
sum-zero f (suc n) h = omega (arith, sum-zero f n (λ i l. h i (le_step l)), h n (le_refl (suc n)))

pub sum-add : (f g : ℕ → ℕ) (n : ℕ) → sum (λ i. f i + g i) n ≡ sum f n + sum g n
unfolding sum
sum-add f g zero = refl
sum-add f g (suc n) = omega (arith, sum-add f g n)

pub sum-mul : (f : ℕ → ℕ) (k n : ℕ) → sum (λ i. f i * k) n ≡ sum f n * k
unfolding sum
sum-mul f k zero = omega arith
sum-mul f k (suc n) = omega (arith, sum-mul f k n)

pub sum-swap : (f : ℕ → ℕ → ℕ) (n m : ℕ) → sum (λ i. sum (f i) m) n ≡ sum (λ j. sum (λ i. f i j) n) m
unfolding sum
sum-swap f zero m = sym (sum-zero (λ j. 0) m (λ j l. refl))
sum-swap f (suc n) m = omega (arith, sum-swap f n m, sum-add (λ j. sum (λ i. f i j) n) (f n) m)

-- the one term of a sum whose number is k
pub sum-pick : (f : ℕ → ℕ) (k n : ℕ) → k < n → sum (λ i. when (eqb k i) (f i)) n ≡ f k
unfolding sum
sum-pick f k zero l = omega arith
sum-pick f k (suc n) l =
    ⊎_elim
    (λ (e : k ≡ n).
    omega (
      arith,
      sum-zero (λ i. when (eqb k i) (f i)) n (λ i m. when-off (eqb k i) (f i) (λ t. let z = eqb→eq k i t in omega arith)),
      when-on (eqb k n) (f n) (eq→eqb k n e),
      ap f e,
    ))
    (λ (m : k < n). omega (arith, sum-pick f k n m, when-off (eqb k n) (f n) (λ t. let z = eqb→eq k n t in omega arith)))
    (eq-or-lt_of_le (le_of_suc-le-suc l))

pub sum-when : (b : Bool) (f : ℕ → ℕ) (n : ℕ) → sum (λ i. when b (f i)) n ≡ when b (sum f n)
sum-when true f n = refl
sum-when false f n = sum-zero (λ i. 0) n (λ i l. refl)

-- a test of every number below n, and what it says of each
pub all-at : (f : ℕ → Bool) (n : ℕ) → T (all f n) → (i : ℕ) → i < n → T (f i)
unfolding all
all-at f zero t i l = absurd (let z : ⊥ = omega arith in z)
all-at f (suc n) t i l =
    ⊎_elim (λ e. rw e (and_r (all f n) (f n) t)) (λ m. all-at f n (and_l (all f n) (f n) t) i m)
    (eq-or-lt_of_le (le_of_suc-le-suc l))

pub all_from : (f : ℕ → Bool) (n : ℕ) → ((i : ℕ) → i < n → T (f i)) → T (all f n)
unfolding all
all_from f zero h = tt
all_from f (suc n) h = and_i (all f n) (f n) (all_from f n (λ i l. h i (le_step l))) (h n (le_refl (suc n)))

-- two sums together against one, and against two
pub sum-cong₂ : (f g h : ℕ → ℕ) (n : ℕ) → ((i : ℕ) → i < n → f i + g i ≡ h i) → sum f n + sum g n ≡ sum h n
sum-cong₂ f g h n p = sym (sum-add f g n) ∙ sum-cong (λ i. f i + g i) h n p

pub sum-mono₂ : (f g h k : ℕ → ℕ) (n : ℕ) → ((i : ℕ) → i < n → f i + g i ≤ h i + k i) → sum f n + sum g n ≤ sum h n + sum k n
sum-mono₂ f g h k n p = omega (arith, sum_mono (λ i. f i + g i) (λ i. h i + k i) n p, sum-add f g n, sum-add h k n)

pub any_at : (f : ℕ → Bool) (n : ℕ) → T (any f n) → (i : ℕ) × (i < n) × T (f i)
unfolding any
any_at f zero t = absurd t
any_at f (suc n) t =
    ⊎_elim (λ u. let r = any_at f n u in (r.0, le_step r.1, r.2)) (λ u. (n, le_refl (suc n), u)) (or_cases (any f n) (f n) t)

pub any-from : (f : ℕ → Bool) (n i : ℕ) → i < n → T (f i) → T (any f n)
unfolding any
any-from f zero i l t = absurd (let z : ⊥ = omega arith in z)
any-from f (suc n) i l t =
    ⊎_elim (λ e. or_r (any f n) (f n) (rw e at t)) (λ m. or_l (any f n) (f n) (any-from f n i m t)) (eq-or-lt_of_le (le_of_suc-le-suc l))

pub any-cong : (f g : ℕ → Bool) (n : ℕ) → ((i : ℕ) → i < n → f i ≡ g i) → any f n ≡ any g n
unfolding any
any-cong f g zero h = refl
any-cong f g (suc n) h = cc (any-cong f g n (λ i l. h i (le_step l)), h n (le_refl (suc n)))

-- the first term apart
pub sum-shift : (f : ℕ → ℕ) (n : ℕ) → sum f (suc n) ≡ f 0 + sum (λ i. f (suc i)) n
unfolding sum
sum-shift f zero = omega arith
sum-shift f (suc n) = omega (arith, sum-shift f n)

pub sum-const : (c n : ℕ) → sum (λ i. c) n ≡ n * c
unfolding sum
sum-const c zero = omega arith
sum-const c (suc n) = omega (arith, sum-const c n)

pub sum-≤ : (f : ℕ → ℕ) (c n : ℕ) → ((i : ℕ) → i < n → f i ≤ c) → sum f n ≤ n * c
sum-≤ f c n h = le_trans (sum_mono f (λ i. c) n h) (le_of_eq (sum-const c n))

pub sum-term : (f : ℕ → ℕ) (k n : ℕ) → k < n → f k ≤ sum f n
unfolding sum
sum-term f k zero l = omega arith
sum-term f k (suc n) l =
    ⊎_elim (λ (e : k ≡ n). omega (arith, ap f e)) (λ (m : k < n). omega (arith, sum-term f k n m)) (eq-or-lt_of_le (le_of_suc-le-suc l))

-- two sums whose terms differ at k alone
pub sum-change : (f g : ℕ → ℕ) (k n : ℕ) → k < n → ((i : ℕ) → i ≢ k → f i ≡ g i) → sum f n + g k ≡ sum g n + f k
unfolding sum
sum-change f g k zero l h = absurd (let z : ⊥ = omega arith in z)
sum-change f g k (suc n) l h =
    ⊎_elim
    (λ (e : k ≡ n).
    omega (arith, sum-cong f g n (λ i m. h i (λ q. let z : ⊥ = omega arith in z)), ap f e, ap g e))
    (λ (m : k < n). omega (arith, sum-change f g k n m h, h n (λ q. let z : ⊥ = omega arith in z)))
    (eq-or-lt_of_le (le_of_suc-le-suc l))

-- one term more, and more terms
pub sum_more : (f : ℕ → ℕ) (n : ℕ) → sum f (n + 1) ≡ sum f n + f n
unfolding sum
sum_more f n = rw (add-one n)

pub sum-split : (f : ℕ → ℕ) (m n : ℕ) → sum f (m + n) ≡ sum f m + sum (λ i. f (m + i)) n
unfolding sum
sum-split f m zero = rw (add-zero m) (omega arith)
sum-split f m (suc n) = rw (add-suc m n) (omega (arith, sum-split f m n))

pub sum-grows : (f : ℕ → ℕ) (n k : ℕ) → k ≤ n → sum f k ≤ sum f n
unfolding sum
sum-grows f zero k l = let z : k ≡ 0 = omega arith in rw z (omega arith)
sum-grows f (suc n) k l =
    ⊎_elim (λ (e : k ≡ suc n). rw e (omega arith)) (λ (m : k < suc n). omega (arith, sum-grows f n k (le_of_suc-le-suc m))) (eq-or-lt_of_le l)

-- the first n terms are the same, and the others are 0
pub sum-cut : (f g : ℕ → ℕ) (m n : ℕ) → n ≤ m → ((i : ℕ) → i < n → f i ≡ g i) → ((i : ℕ) → n ≤ i → i < m → f i ≡ 0) → sum f m ≡ sum g n
unfolding sum
sum-cut f g zero n h e z = ap (sum g) (let k : 0 ≡ n = omega arith in k)
sum-cut f g (suc m) n h e z =
    ⊎_elim (λ (k : n ≡ suc m). sum-cong f g (suc m) (λ i a. e i (omega arith)) ∙ ap (sum g) (sym k))
    (λ (l : n < suc m). omega (arith, z m (le_of_suc-le-suc l) (omega arith), sum-cut f g m n (le_of_suc-le-suc l) e (λ i a b. z i a (omega arith))))
    (eq-or-lt_of_le h)
