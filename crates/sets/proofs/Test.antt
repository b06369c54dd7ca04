-- Tests: what a passed or failed test of Bool says. Assumes nothing.
use mathlib.Core.Path.{◌≡◌, refl, sym, ap}
use mathlib.Core.Logic.{◌⊎◌, inl, inr}
use mathlib.Core.Bool.{Bool, true, false, cond, ◌&&◌, ◌||◌, not}
use Prim.Native.Nat.{ℕ, ◌+◌, ◌≤◌, zero-le}
use native.Mathlib.Nat.{le_refl, le_of_eq}
use lib.Dec.{T, eqb, eqb→eq, eqb_refl}
use Rattle.sets.specs.Sum.{when}

pub or_l : (a b : Bool) → T a → T (a || b)
or_l true b t = tt
or_l false b t = absurd t

pub or_r : (a b : Bool) → T b → T (a || b)
or_r true b t = tt
or_r false b t = t

pub or_cases : (a b : Bool) → T (a || b) → T a ⊎ T b
or_cases true b t = inl tt
or_cases false b t = inr t

pub or_swap : (a b : Bool) → T (a || b) → T (b || a)
or_swap true b t = or_r b true tt
or_swap false b t = or_l b false t

pub and_i : (a b : Bool) → T a → T b → T (a && b)
and_i true b s t = t
and_i false b s t = s

pub and_l : (a b : Bool) → T (a && b) → T a
and_l true b t = tt
and_l false b t = t

pub and_r : (a b : Bool) → T (a && b) → T b
and_r true b t = t
and_r false b t = absurd t

pub and_mono : (a b a' b' : Bool) → (T a → T b) → (T a' → T b') → T (a && a') → T (b && b')
and_mono true b a' b' f g t = and_i b b' (f tt) (g t)
and_mono false b a' b' f g t = absurd t

pub T? : (b : Bool) → T b ⊎ (T b → ⊥)
T? true = inl tt
T? false = inr (λ t. t)

-- a test as a type, and as an equation: a branch of the code has the equation
pub is_true : (b : Bool) → T b → b ≡ true
is_true true t = refl
is_true false t = absurd t

pub is_false : (b : Bool) → (T b → ⊥) → b ≡ false
is_false true f = absurd (f tt)
is_false false f = refl

pub passes : (b : Bool) → b ≡ true → T b
passes b e = rw e tt

pub fails : (b : Bool) → b ≡ false → T b → ⊥
fails b e t = rw e at t

pub T-ext : (a b : Bool) → (T a → T b) → (T b → T a) → a ≡ b
T-ext true true f g = refl
T-ext true false f g = absurd (f tt)
T-ext false true f g = absurd (g tt)
T-ext false false f g = refl

pub eq→eqb : (m n : ℕ) → m ≡ n → T (eqb m n)
eq→eqb m n e = rw e (eqb_refl n)

pub eqb_swap : (m n : ℕ) → eqb m n ≡ eqb n m
eqb_swap m n = T-ext (eqb m n) (eqb n m) (λ t. eq→eqb n m (sym (eqb→eq m n t))) (λ t. eq→eqb m n (sym (eqb→eq n m t)))

pub when-on : (b : Bool) (n : ℕ) → T b → when b n ≡ n
when-on true n t = refl
when-on false n t = absurd t

pub when-off : (b : Bool) (n : ℕ) → (T b → ⊥) → when b n ≡ 0
when-off true n f = absurd (f tt)
when-off false n f = refl

pub when-≤ : (b : Bool) (n : ℕ) → when b n ≤ n
when-≤ true n = le_refl n
when-≤ false n = zero-le

pub when-mono : (a b : Bool) (n : ℕ) → (T a → T b) → when a n ≤ when b n
when-mono true b n f = le_of_eq (sym (when-on b n (f tt)))
when-mono false b n f = zero-le

pub when-zero : (b : Bool) → when b 0 ≡ 0
when-zero true = refl
when-zero false = refl

pub when-cong : (a b : Bool) (n : ℕ) → a ≡ b → when a n ≡ when b n
when-cong a b n e = ap (λ c. when c n) e

pub when-cong-on : (b : Bool) {m n : ℕ} → (T b → m ≡ n) → when b m ≡ when b n
when-cong-on true f = f tt
when-cong-on false f = refl

pub cond-on {ℓ} : {A : Type ℓ} (b : Bool) (x y : A) → T b → cond b x y ≡ x
cond-on true x y t = refl
cond-on false x y t = absurd t

pub cond-off {ℓ} : {A : Type ℓ} (b : Bool) (x y : A) → (T b → ⊥) → cond b x y ≡ y
cond-off true x y f = absurd (f tt)
cond-off false x y f = refl

pub when-add : (b : Bool) (m n : ℕ) → when b (m + n) ≡ when b m + when b n
when-add true m n = refl
when-add false m n = refl

-- a test of an implication
pub implies-at : (a b : Bool) → T (not a || b) → T a → T b
implies-at true b t u = t
implies-at false b t u = absurd u

pub implies-from : (a b : Bool) → (T a → T b) → T (not a || b)
implies-from true b h = h tt
implies-from false b h = tt
