-- What the functions' results say of depots. Assumes nothing.
use mathlib.Core.Path.{◌≡◌, refl, sym, ap, ap₂, ◌∙◌}
use mathlib.Core.Bool.{Bool, true, false, not, ◌&&◌, ◌||◌, and-true, and-false, or-false}
use mathlib.Core.Logic.{⊎_elim}
use Prim.Native.Nat.{ℕ, ◌+◌, ◌^◌, ◌<◌}
use native.Mathlib.Nat.{le_of_suc-le-suc, lt_of_lt_of_le, eq-or-lt_of_le}
use native.Mathlib.Numerals.{add-one}
use native.Mathlib.Omega.{arith}
use lib.Dec.{T, eqb, eqb→eq, T_not, not_T}
use lib.Pow.{pow_mono, pow_pos}
use Rattle.sets.specs.Sum.{all, any}
use Rattle.sets.specs.Set.{Depots, only, ◌∪◌, ◌∩◌, ◌∖◌, ◌⊆◌, Apart, has, set_of, is_empty}
use Rattle.sets.proofs.Test.{or_l, or_r, or_cases, and_i, and_l, and_r, is_true, is_false, passes, fails, T?, T-ext, eq→eqb}
use Rattle.sets.proofs.Sum.{all-at, any_at, any-from}
use Rattle.sets.proofs.Member.{ext, ext-below, member-lt, has-none, set_of-lt, has-set_of, of-set_of, has-set, set_of-is}

-- ---- the depots of a result

pub has-union : (k : ℕ) {x y : ℕ} → x < 2 ^ k → y < 2 ^ k → (d : ℕ) → has (set_of (has x ∪ has y) k) d ≡ (has x d || has y d)
has-union k {x} {y} hx hy = has-set k (has x ∪ has y) (λ d t. ⊎_elim (member-lt k d hx) (member-lt k d hy) (or_cases (has x d) (has y d) t))

pub has-without : (k : ℕ) {x : ℕ} (y : ℕ) → x < 2 ^ k → (d : ℕ) → has (set_of (has x ∖ has y) k) d ≡ (has x d && not (has y d))
has-without k {x} y h = has-set k (has x ∖ has y) (λ d t. member-lt k d h (and_l (has x d) (not (has y d)) t))

pub has-single : (k e : ℕ) → e < k → (d : ℕ) → has (set_of (only e) k) d ≡ eqb d e
has-single k e l = has-set k (only e) (λ d t. rw (eqb→eq d e t) l)

pub has-with : (k : ℕ) {x : ℕ} (e : ℕ) → x < 2 ^ k → e < k → (d : ℕ) → has (set_of (has x ∪ only e) k) d ≡ (has x d || eqb d e)
has-with k {x} e h l = has-set k (has x ∪ only e) (λ d t. ⊎_elim (member-lt k d h) (λ u. rw (eqb→eq d e u) l) (or_cases (has x d) (eqb d e) t))

-- ---- tests

pub empty→ : (X : Depots) (k : ℕ) → T (is_empty X k) → (d : ℕ) → d < k → T (X d) → ⊥
empty→ X k t d l u = T_not (any X k) t (any-from X k d l u)

pub →empty : (X : Depots) (k : ℕ) → ((d : ℕ) → d < k → T (X d) → ⊥) → T (is_empty X k)
→empty X k h = not_T (any X k) (λ t. let r = any_at X k t in h r.0 r.1 r.2)

-- of a set of depots below k
pub none→ : (X : Depots) (k : ℕ) → ((d : ℕ) → T (X d) → d < k) → T (is_empty X k) → (d : ℕ) → T (X d) → ⊥
none→ X k b e d t = empty→ X k e d (b d t) t

pub subset-of : (X Y : Depots) (k : ℕ) → ((d : ℕ) → T (X d) → d < k) → T (is_empty (X ∖ Y) k) → X ⊆ Y
subset-of X Y k b e d t =
    ⊎_elim (λ p. p) (λ n. absurd (empty→ (X ∖ Y) k e d (b d t) (and_i (X d) (not (Y d)) t (not_T (Y d) n)))) (T? (Y d))

-- the number of the empty set is 0
pub empty→zero : (k : ℕ) {x : ℕ} → x < 2 ^ k → T (is_empty (has x) k) → x ≡ 0
empty→zero k {x} h t = ext-below k h (pow_pos k) (λ d l. is_false (has x d) (empty→ (has x) k t d l) ∙ sym (has-none d))

pub zero→empty : (k x : ℕ) → x ≡ 0 → T (is_empty (has x) k)
zero→empty k x e = →empty (has x) k (λ d l. fails (has x d) (ap (λ (n : ℕ). has n d) e ∙ has-none d))

-- no depot in common; back, over all sets
pub disjoint→ : (k : ℕ) {x : ℕ} (y : ℕ) → x < 2 ^ k → T (is_empty (has x ∩ has y) k) → Apart (has x) (has y)
disjoint→ k {x} y h t d p q = empty→ (has x ∩ has y) k t d (member-lt k d h p) (and_i (has x d) (has y d) p q)

pub →disjoint : (X Y : Depots) (k : ℕ) → Apart X Y → T (is_empty (X ∩ Y) k)
→disjoint X Y k a = →empty (X ∩ Y) k (λ d l t. a d (and_l (X d) (Y d) t) (and_r (X d) (Y d) t))

-- every depot of one in the other
pub subset→ : (k : ℕ) {x : ℕ} (y : ℕ) → x < 2 ^ k → T (is_empty (has x ∖ has y) k) → has x ⊆ has y
subset→ k {x} y h = subset-of (has x) (has y) k (λ d. member-lt k d h)

pub →subset : (X Y : Depots) (k : ℕ) → X ⊆ Y → T (is_empty (X ∖ Y) k)
→subset X Y k s = →empty (X ∖ Y) k (λ d l t. T_not (Y d) (and_r (X d) (not (Y d)) t) (s d (and_l (X d) (not (Y d)) t)))

pub ⊆-antisym : (x y : ℕ) → has x ⊆ has y → has y ⊆ has x → x ≡ y
⊆-antisym x y p q = ext x y (λ d. T-ext (has x d) (has y d) (p d) (q d))

-- ---- a step of a loop that gathers the depots of X below k

pub set_of-start : (X : Depots) → set_of X 0 ≡ 0
unfolding set_of
set_of-start X = refl

-- the depots below k + 1 are those below k, and k if it is in X
next : (X : Depots) (k d : ℕ) → has (set_of X (k + 1)) d ≡ (has (set_of X k) d || eqb d k && X k)
next X k d =
    T-ext (has (set_of X (k + 1)) d) (has (set_of X k) d || eqb d k && X k)
    (λ t.
    let p = of-set_of (k + 1) X d t in
    ⊎_elim (λ (e : d ≡ k). or_r (has (set_of X k) d) (eqb d k && X k) (and_i (eqb d k) (X k) (eq→eqb d k e) (rw e at p.1)))
    (λ (l : d < k). or_l (has (set_of X k) d) (eqb d k && X k) (rw (has-set_of k X d l) p.1))
    (eq-or-lt_of_le (le_of_suc-le-suc (rw add-one at p.0))))
    (λ t.
    ⊎_elim (λ u. let p = of-set_of k X d u in rw (has-set_of (k + 1) X d (omega arith)) p.1)
    (λ u.
    let e : d ≡ k = eqb→eq d k (and_l (eqb d k) (X k) u) in
    rw (has-set_of (k + 1) X d (omega arith)) (rw e (and_r (eqb d k) (X k) u)))
    (or_cases (has (set_of X k) d) (eqb d k && X k) t))

-- k is in X, and `with` adds it at a width w
pub set_of-take : (X : Depots) (k w : ℕ) → k < w → X k ≡ true → set_of X (k + 1) ≡ set_of (has (set_of X k) ∪ only k) w
set_of-take X k w l e =
    set_of-is w (has (set_of X k) ∪ only k) (lt_of_lt_of_le (set_of-lt (k + 1) X) (pow_mono (omega arith)))
    (λ d m. next X k d ∙ ap (λ (b : Bool). has (set_of X k) d || eqb d k && b) e ∙ ap (λ (b : Bool). has (set_of X k) d || b) (and-true (eqb d k)))

pub set_of-skip : (X : Depots) (k : ℕ) → X k ≡ false → set_of X (k + 1) ≡ set_of X k
set_of-skip X k e =
    ext (set_of X (k + 1)) (set_of X k)
    (λ d.
    next X k d ∙ ap (λ (b : Bool). has (set_of X k) d || eqb d k && b) e ∙ ap (λ (b : Bool). has (set_of X k) d || b) (and-false (eqb d k)) ∙ or-false (has (set_of X k) d))

-- ---- a step of a loop that tests the depots below k: all pass, or some does

pub all_start : (f : ℕ → Bool) → all f 0 ≡ true
unfolding all
all_start f = refl

pub all_more : (f : ℕ → Bool) (k : ℕ) → all f k ≡ true → f k ≡ true → all f (k + 1) ≡ true
unfolding all
all_more f k h e = ap (all f) (add-one k) ∙ ap₂ ◌&&◌ h e

pub all-fails : (f : ℕ → Bool) (k d : ℕ) → d < k → f d ≡ false → all f k ≡ false
all-fails f k d l e = is_false (all f k) (λ t. fails (f d) e (all-at f k t d l))

pub any-start : (f : ℕ → Bool) → any f 0 ≡ false
unfolding any
any-start f = refl

pub any-more : (f : ℕ → Bool) (k : ℕ) → any f k ≡ false → f k ≡ false → any f (k + 1) ≡ false
unfolding any
any-more f k h e = ap (any f) (add-one k) ∙ ap₂ ◌||◌ h e

pub any_here : (f : ℕ → Bool) (k d : ℕ) → d < k → f d ≡ true → any f k ≡ true
any_here f k d l e = is_true (any f k) (any-from f k d l (passes (f d) e))
