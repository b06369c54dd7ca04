-- Numbers by their bits: a number is settled by its depots, and each bit operation by what it does to them. Assumes nothing.
use mathlib.Core.Path.{◌≡◌, refl, sym, ap, ap₂, ◌∙◌}
use mathlib.Core.Bool.{Bool, true, false, not, ◌&&◌, ◌||◌}
use mathlib.Core.Logic.{⊎_elim}
use Prim.Native.Nat.{ℕ, zero, suc, ◌+◌, ◌-◌, ◌*◌, ◌/◌, ◌%◌, ◌^◌, ◌≤◌, ◌<◌, zero-le, suc-le-suc}
use native.Mathlib.Nat.{mod-lt, div-one, pow-suc, div-add-mod', div-eq_of_lt, lt_of_lt_of_le, le-add_left, le-add_right, zero-lt-suc, not-suc-le-zero, le_of_suc-le-suc, lt_of_not-le}
use native.Mathlib.Numerals.{one-add}
use native.Mathlib.Omega.{arith}
use lib.Arith.{lt-one}
use lib.Bits.{bit_and, bit_or, and_shr, and_mod, or_shr, or_mod}
use lib.Dec.{T, eqb, eqb-zero-suc, eqb-suc-zero, eqb-suc-suc}
use lib.Pow.{pow_mono, shr-shr}
use Rattle.sets.specs.Sum.{when}
use Rattle.sets.specs.Set.{Depots, only, Nonempty, has, set_of}
use Rattle.sets.proofs.Test.{T?, T-ext, when-off, when-cong}

-- a binary digit, by the test that it is 1
digit : (n : ℕ) → n < 2 → n ≡ when (eqb n 1) 1
digit zero h = refl
digit (suc zero) h = refl
digit (suc (suc n)) h = absurd (not-suc-le-zero (le_of_suc-le-suc (le_of_suc-le-suc h)))

-- the lowest bit
pub has-zero : (x : ℕ) → has x 0 ≡ eqb (x % 2) 1
unfolding has
has-zero x = ap (λ (n : ℕ). eqb (n % 2) 1) (div-one x)

pub low_bit : (x : ℕ) → x % 2 ≡ when (has x 0) 1
low_bit x = digit (x % 2) (mod-lt x (zero-lt-suc 1)) ∙ when-cong _ _ 1 (sym (has-zero x))

-- and the others
pub has-suc : (x d : ℕ) → has x (suc d) ≡ has (x / 2) d
unfolding has
has-suc x d = ap (λ (n : ℕ). eqb (n % 2) 1) (ap (λ (n : ℕ). x / 2 ^ n) (sym (one-add d)) ∙ sym (shr-shr x 1 d))

pub half_lt : {x : ℕ} (k : ℕ) → x < 2 ^ suc k → x / 2 < 2 ^ k
half_lt k h = omega (arith, pow-suc 2 k)

-- numbers with the same depots are equal
pub ext-below : (k : ℕ) {x y : ℕ} → x < 2 ^ k → y < 2 ^ k → ((d : ℕ) → d < k → has x d ≡ has y d) → x ≡ y
ext-below zero hx hy e = lt-one hx ∙ sym (lt-one hy)
ext-below (suc k) {x} {y} hx hy e =
    let high : x / 2 ≡ y / 2 = ext-below k (half_lt k hx) (half_lt k hy) (λ d h. sym (has-suc x d) ∙ e (suc d) (suc-le-suc h) ∙ has-suc y d) in
    let low : x % 2 ≡ y % 2 = low_bit x ∙ when-cong (has x 0) (has y 0) 1 (e 0 (suc-le-suc zero-le)) ∙ sym (low_bit y) in
    omega (arith, div-add-mod' x 2, div-add-mod' y 2)

lt-pow : (n : ℕ) → n < 2 ^ n
lt-pow zero = suc-le-suc zero-le
lt-pow (suc n) = omega (arith, lt-pow n, pow-suc 2 n)

pub ext : (x y : ℕ) → ((d : ℕ) → has x d ≡ has y d) → x ≡ y
ext x y e = ext-below (x + y) (within x (le-add_right x y)) (within y (le-add_left y x)) (λ d l. e d)
  where
    within : (z : ℕ) → z ≤ x + y → z < 2 ^ (x + y)
    within z l = lt_of_lt_of_le (lt-pow z) (pow_mono l)

-- a number below 2 ^ k has only depots below k
pub has_above : (k : ℕ) {x : ℕ} (d : ℕ) → x < 2 ^ k → k ≤ d → has x d ≡ false
unfolding has
has_above k d h l = ap (λ (n : ℕ). eqb (n % 2) 1) (div-eq_of_lt (lt_of_lt_of_le h (pow_mono l)))

pub member-lt : (k : ℕ) {x : ℕ} (d : ℕ) → x < 2 ^ k → T (has x d) → d < k
member-lt k d h t = lt_of_not-le (λ l. rw (has_above k d h l) at t)

pub has-none : (d : ℕ) → has 0 d ≡ false
has-none d = has_above 0 d (suc-le-suc zero-le) zero-le

-- a number that is not 0 has a depot
pub has_some : (k x : ℕ) → x < 2 ^ k → (x ≡ 0 → ⊥) → Nonempty (has x)
has_some zero x h n = absurd (n (lt-one h))
has_some (suc k) x h n =
    ⊎_elim (λ t. (0, t))
    (λ f.
    let low : x % 2 ≡ 0 = low_bit x ∙ when-off (has x 0) 1 f in
    let r = has_some k (x / 2) (half_lt k h) (λ e. n (omega (arith, div-add-mod' x 2))) in
    (suc r.0, rw (has-suc x r.0) r.1))
    (T? (has x 0))

-- ---- the bit operations

-- an operation that works on each bit apart
module _ (op : ℕ → ℕ → ℕ) (f : Bool → Bool → Bool)
    (shr : (x y k : ℕ) → op x y / 2 ^ k ≡ op (x / 2 ^ k) (y / 2 ^ k))
    (low : (x y k : ℕ) → op x y % 2 ^ k ≡ op (x % 2 ^ k) (y % 2 ^ k))
    (table : (a b : Bool) → eqb (op (when a 1) (when b 1)) 1 ≡ f a b) where
  has-op : (x y d : ℕ) → has (op x y) d ≡ f (has x d) (has y d)
  unfolding has
  has-op x y d =
      ap (λ (n : ℕ). eqb (n % 2) 1) (shr x y d)
      ∙ ap (λ (n : ℕ). eqb n 1) (low (x / 2 ^ d) (y / 2 ^ d) 1 ∙ ap₂ op (digit _ (mod-lt _ (zero-lt-suc 1))) (digit _ (mod-lt _ (zero-lt-suc 1))))
      ∙ table (has x d) (has y d)

or-table : (a b : Bool) → eqb (bit_or (when a 1) (when b 1)) 1 ≡ (a || b)
or-table true true = refl
or-table true false = refl
or-table false true = refl
or-table false false = refl

and-table : (a b : Bool) → eqb (bit_and (when a 1) (when b 1)) 1 ≡ (a && b)
and-table true true = refl
and-table true false = refl
and-table false true = refl
and-table false false = refl

pub has-or : (x y d : ℕ) → has (bit_or x y) d ≡ (has x d || has y d)
has-or = has-op bit_or ◌||◌ or_shr or_mod or-table

pub has-and : (x y d : ℕ) → has (bit_and x y) d ≡ (has x d && has y d)
has-and = has-op bit_and ◌&&◌ and_shr and_mod and-table

pub has-pow : (e d : ℕ) → has (2 ^ e) d ≡ only e d
unfolding has
has-pow zero zero = refl
has-pow zero (suc d) = has-suc 1 d ∙ has-none d ∙ sym (eqb-suc-zero d)
has-pow (suc e) zero = has-zero (2 ^ suc e) ∙ ap (λ (n : ℕ). eqb n 1) even ∙ sym (eqb-zero-suc e)
  where
    even : 2 ^ suc e % 2 ≡ 0
    even = omega (arith, pow-suc 2 e)
has-pow (suc e) (suc d) = has-suc (2 ^ suc e) d ∙ ap (λ (n : ℕ). has n d) half ∙ has-pow e d ∙ sym (eqb-suc-suc d e)
  where
    half : 2 ^ suc e / 2 ≡ 2 ^ e
    half = omega (arith, pow-suc 2 e)

-- the complement within the depots below k, `!x` at k bits
pub has-not : (k : ℕ) {x : ℕ} (d : ℕ) → x < 2 ^ k → d < k → has (2 ^ k - 1 - x) d ≡ not (has x d)
has-not zero d h l = absurd (not-suc-le-zero l)
has-not (suc k) {x} zero h l = has-zero (2 ^ suc k - 1 - x) ∙ ap (λ (n : ℕ). eqb n 1) flip ∙ turn (has x 0)
  where
    bit : x % 2 ≡ when (has x 0) 1
    bit = low_bit x

    flip : (2 ^ suc k - 1 - x) % 2 ≡ 1 - when (has x 0) 1
    flip = omega (arith, bit, pow-suc 2 k)

    turn : (b : Bool) → eqb (1 - when b 1) 1 ≡ not b
    turn true = refl
    turn false = refl
has-not (suc k) {x} (suc d) h l =
    has-suc (2 ^ suc k - 1 - x) d ∙ ap (λ (n : ℕ). has n d) half ∙ has-not k d (half_lt k h) (le_of_suc-le-suc l) ∙ ap not (sym (has-suc x d))
  where
    half : (2 ^ suc k - 1 - x) / 2 ≡ 2 ^ k - 1 - x / 2
    half = omega (arith, pow-suc 2 k)

-- ---- the number of a set

bit-lt : (b : Bool) → when b 1 < 2
bit-lt true = suc-le-suc (suc-le-suc zero-le)
bit-lt false = suc-le-suc zero-le

pub set_of-lt : (k : ℕ) (X : Depots) → set_of X k < 2 ^ k
unfolding set_of
set_of-lt zero X = suc-le-suc zero-le
set_of-lt (suc k) X = omega (arith, pow-suc 2 k, set_of-lt k (λ d. X (suc d)), bit-lt (X 0))

bit_test : (b : Bool) → eqb (when b 1) 1 ≡ b
bit_test true = refl
bit_test false = refl

-- it has the depots of the set below k
pub has-set_of : (k : ℕ) (X : Depots) (d : ℕ) → d < k → has (set_of X k) d ≡ X d
unfolding set_of
has-set_of zero X d l = absurd (not-suc-le-zero l)
has-set_of (suc k) X zero l = has-zero (set_of X (suc k)) ∙ ap (λ (n : ℕ). eqb n 1) low ∙ bit_test (X 0)
  where
    low : (when (X 0) 1 + set_of (λ d. X (suc d)) k * 2) % 2 ≡ when (X 0) 1
    low = omega (arith, bit-lt (X 0))
has-set_of (suc k) X (suc d) l =
    has-suc (set_of X (suc k)) d ∙ ap (λ (n : ℕ). has n d) high ∙ has-set_of k (λ e. X (suc e)) d (le_of_suc-le-suc l)
  where
    high : (when (X 0) 1 + set_of (λ e. X (suc e)) k * 2) / 2 ≡ set_of (λ e. X (suc e)) k
    high = omega (arith, bit-lt (X 0))

pub of-set_of : (k : ℕ) (X : Depots) (d : ℕ) → T (has (set_of X k) d) → (d < k) × T (X d)
of-set_of k X d t = let l = member-lt k d (set_of-lt k X) t in (l, rw (has-set_of k X d l) at t)

-- all its depots, where they are below k
pub has-set : (k : ℕ) (X : Depots) → ((d : ℕ) → T (X d) → d < k) → (d : ℕ) → has (set_of X k) d ≡ X d
has-set k X h d = T-ext (has (set_of X k) d) (X d) (λ t. (of-set_of k X d t).1) (λ t. rw (has-set_of k X d (h d t)) t)

-- the number is settled by its depots
pub set_of-is : (k : ℕ) {x : ℕ} (X : Depots) → x < 2 ^ k → ((d : ℕ) → d < k → has x d ≡ X d) → x ≡ set_of X k
set_of-is k X h e = ext-below k h (set_of-lt k X) (λ d l. e d l ∙ sym (has-set_of k X d l))

-- sets with the same depots have the same number
pub set_of-cong : (X Y : Depots) (k : ℕ) → ((d : ℕ) → d < k → X d ≡ Y d) → set_of X k ≡ set_of Y k
set_of-cong X Y k e = set_of-is k Y (set_of-lt k X) (λ d l. has-set_of k X d l ∙ e d l)

pub set_of-has : (k : ℕ) {x : ℕ} → x < 2 ^ k → set_of (has x) k ≡ x
set_of-has k {x} h = sym (set_of-is k (has x) h (λ d l. refl))
