-- The bit operations as the code has them, and the sets and tests that they are. Assumes nothing.
use mathlib.Core.Path.{◌≡◌, refl, ap, ◌∙◌}
use mathlib.Core.Bool.{Bool, not, ◌&&◌, ◌||◌}
use Prim.Native.Nat.{ℕ, ◌-◌, ◌*◌, ◌/◌, ◌%◌, ◌^◌, ◌<◌}
use native.Mathlib.Nat.{one-mul, lt_of_le_of_lt}
use native.Mathlib.Omega.{arith}
use lib.Bits.{bit_and, bit_or, and_mask, and_le_l, or_lt}
use lib.Dec.{eqb, eqb→eq, lit<}
use lib.Pow.{shl_exact, pow-lt}
use Rattle.sets.specs.Set.{Depots, only, ◌∪◌, ◌∩◌, ◌∖◌, has, set_of, is_empty}
use Rattle.sets.proofs.Test.{T-ext, eq→eqb}
use Rattle.sets.proofs.Sum.{any-cong}
use Rattle.sets.proofs.Member.{has-or, has-and, has-pow, has-not, set_of-is}
use Rattle.sets.proofs.Set.{empty→zero, zero→empty}

-- `(x >> d) & 1 == 1`
pub bit_is : (x d : ℕ) → eqb (bit_and (x / 2 ^ d) 1) 1 ≡ has x d
unfolding has
bit_is x d = ap (λ (n : ℕ). eqb n 1) (and_mask (x / 2 ^ d) 1)

-- `1 << d`, which is 2 ^ d
pow-is : (k d : ℕ) → d < k → 1 * 2 ^ d % 2 ^ k ≡ 2 ^ d
pow-is k d l = shl_exact 1 d k (lit< tt) (omega arith) ∙ one-mul (2 ^ d)

pub shl_is : (k d : ℕ) → d < k → 1 * 2 ^ d % 2 ^ k ≡ set_of (only d) k
shl_is k d l = pow-is k d l ∙ set_of-is k (only d) (pow-lt l) (λ e m. has-pow d e)

-- `x | y`
pub or_is : (k : ℕ) {x y : ℕ} → x < 2 ^ k → y < 2 ^ k → bit_or x y ≡ set_of (has x ∪ has y) k
or_is k {x} {y} hx hy = set_of-is k (has x ∪ has y) (or_lt k x y hx hy) (λ d l. has-or x y d)

-- `x | (1 << d)`
pub or-single-is : (k : ℕ) {x : ℕ} (d : ℕ) → x < 2 ^ k → d < k → bit_or x (1 * 2 ^ d % 2 ^ k) ≡ set_of (has x ∪ only d) k
or-single-is k {x} d h l =
    ap (bit_or x) (pow-is k d l)
    ∙ set_of-is k (has x ∪ only d) (or_lt k x (2 ^ d) h (pow-lt l)) (λ e m. has-or x (2 ^ d) e ∙ ap (λ (b : Bool). has x e || b) (has-pow d e))

-- `x & y` and `x & !y`
and_lt : (k : ℕ) {x : ℕ} (y : ℕ) → x < 2 ^ k → bit_and x y < 2 ^ k
and_lt k {x} y h = lt_of_le_of_lt (and_le_l x y) h

has-and-not : (k : ℕ) (x : ℕ) {y : ℕ} → y < 2 ^ k → (d : ℕ) → d < k → has (bit_and x (2 ^ k - 1 - y)) d ≡ (has x d && not (has y d))
has-and-not k x {y} h d l = has-and x (2 ^ k - 1 - y) d ∙ ap (λ (b : Bool). has x d && b) (has-not k d h l)

pub and-not-is : (k : ℕ) {x y : ℕ} → x < 2 ^ k → y < 2 ^ k → bit_and x (2 ^ k - 1 - y) ≡ set_of (has x ∖ has y) k
and-not-is k {x} {y} hx hy = set_of-is k (has x ∖ has y) (and_lt k (2 ^ k - 1 - y) hx) (has-and-not k x hy)

-- `x == 0`, for an x that has the depots of X
zero_of : (k : ℕ) {x : ℕ} (X : Depots) → x < 2 ^ k → ((d : ℕ) → d < k → has x d ≡ X d) → eqb x 0 ≡ is_empty X k
zero_of k {x} X h e =
    T-ext (eqb x 0) (is_empty (has x) k) (λ t. zero→empty k x (eqb→eq x 0 t)) (λ t. eq→eqb x 0 (empty→zero k h t))
    ∙ ap not (any-cong (has x) X k e)

pub zero_is : (k : ℕ) {x : ℕ} → x < 2 ^ k → eqb x 0 ≡ is_empty (has x) k
zero_is k {x} h = zero_of k (has x) h (λ d l. refl)

-- `x & y == 0`
pub and-zero-is : (k : ℕ) {x : ℕ} (y : ℕ) → x < 2 ^ k → eqb (bit_and x y) 0 ≡ is_empty (has x ∩ has y) k
and-zero-is k {x} y h = zero_of k (has x ∩ has y) (and_lt k y h) (λ d l. has-and x y d)
