-- The litres inside a set are supermodular, its size is modular. The litres of X given G are those inside X ∪ G less those inside G, so that
-- whatever is shown of `litres` follows from these two. Assumes nothing.
use mathlib.Core.Path.{◌≡◌}
use mathlib.Core.Logic.{◌⊎◌, inl, inr, ⊎_elim}
use mathlib.Core.Bool.{Bool, true, false, ◌&&◌, ◌||◌, not}
use Prim.Native.Nat.{ℕ, ◌+◌, ◌≤◌, ◌<◌}
use native.Mathlib.Nat.{le_refl}
use native.Mathlib.Omega.{arith}
use lib.Dec.{T, T_not}
use Rattle.sets.specs.Sum.{when, sum, any}
use Rattle.sets.specs.Set.{Depots, ∅, ◌∪◌, ◌∩◌, ◌∖◌, ◌⊆◌, Apart, Nonempty}
use Rattle.density.specs.Network.{Network, Valid, within, litres, size}
use Rattle.sets.proofs.Test.{or_l, or_r, or_swap, or_cases, and_l, and_r, T?, when-≤, when-mono, and_mono}
use Rattle.sets.proofs.Sum.{sum_mono, sum-cong₂, sum-mono₂, any_at, any-from}
use Rattle.sets.proofs.Weigh.{weigh-mono, weigh-modular, weigh-split, weigh-empty, weigh-lt}

-- the litres of the sites whose depots all lie in S
pub inside : Network → Depots → ℕ
inside N S = sum (λ i. when (within S (N.site i)) (N.site i).litres) N.count

given-tests : (x g x' g' : Bool) (w : ℕ) → (T x → T g → ⊥) → (T x' → T g' → ⊥)
    → when (((x || g) && (x' || g')) && (x || x')) w + when (g && g') w ≡ when ((x || g) && (x' || g')) w
given-tests true true x' g' w p q = absurd (p tt tt)
given-tests true false true g' w p q = omega arith
given-tests true false false true w p q = omega arith
given-tests true false false false w p q = omega arith
given-tests false true true true w p q = absurd (q tt tt)
given-tests false true true false w p q = omega arith
given-tests false true false true w p q = omega arith
given-tests false true false false w p q = omega arith
given-tests false false x' g' w p q = omega arith

pub super-tests : (a b a' b' : Bool) (w : ℕ)
    → when (a && a') w + when (b && b') w ≤ when ((a || b) && (a' || b')) w + when ((a && b) && (a' && b')) w
super-tests true b true b' w = le_refl (w + when (b && b') w)
super-tests true true false b' w = omega arith
super-tests true false false b' w = omega arith
super-tests false true true b' w = omega (arith, when-≤ b' w)
super-tests false false true b' w = omega arith
super-tests false b false b' w = omega arith

join-test : (x y g : Bool) → T ((x || g) || (y || g)) → T ((x || y) || g)
join-test true y g t = tt
join-test false true g t = tt
join-test false false true t = tt
join-test false false false t = t

meet-test : (x y g : Bool) → T ((x || g) && (y || g)) → T ((x && y) || g)
meet-test true y g t = t
meet-test false y g t = and_l g (y || g) t

rest-test : (x y g : Bool) → T ((y || g) || (g || x)) → T ((y && not x) || (g || x))
rest-test true true g t = or_r g true tt
rest-test true false g t = or_r g true tt
rest-test false true g t = tt
rest-test false false true t = tt
rest-test false false false t = t

part-test : (x y g : Bool) → T ((y || g) && (g || x)) → T ((y && x) || g)
part-test x true g t = or_swap g x t
part-test x false g t = and_l g (g || x) t

all-test : (x y g : Bool) → T (y || (g || x)) → T ((x || y) || g)
all-test true y g t = tt
all-test false true g t = tt
all-test false false true t = tt
all-test false false false t = t

module _ (N : Network) where
  pub inside-mono : (A B : Depots) → A ⊆ B → inside N A ≤ inside N B
  unfolding inside
  inside-mono A B h =
      sum_mono _ _ N.count
      (λ i l. let s = N.site i in when-mono (within A s) (within B s) s.litres (and_mono (A s.first) (B s.first) (A s.second) (B s.second) (h _) (h _)))

  pub inside-super : (A B : Depots) → inside N A + inside N B ≤ inside N (A ∪ B) + inside N (A ∩ B)
  unfolding inside
  inside-super A B = sum-mono₂ _ _ _ _ N.count (λ i l. super-tests (A _) (B _) (A _) (B _) _)

  pub litres-inside : (X G : Depots) → Apart X G → litres N X G + inside N G ≡ inside N (X ∪ G)
  unfolding inside litres
  litres-inside X G h = sum-cong₂ _ _ _ N.count (λ i l. given-tests (X _) (G _) (X _) (G _) _ (h _) (h _))

  pub size_mono : (A B : Depots) → A ⊆ B → size N A ≤ size N B
  unfolding size
  size_mono A B = weigh-mono N.crews A B 64

  pub size-modular : (A B : Depots) → size N (A ∪ B) + size N (A ∩ B) ≡ size N A + size N B
  unfolding size
  size-modular A B = weigh-modular N.crews A B 64

  pub litres-empty : (X G : Depots) → ((d : ℕ) → T (X d) → ⊥) → litres N X G ≡ 0
  litres-empty X G h =
      omega (
        arith,
        litres-inside X G (λ d t. absurd (h d t)),
        inside-mono (X ∪ G) G (λ d t. ⊎_elim (λ x. absurd (h d x)) (λ g. g) (or_cases (X d) (G d) t)),
      )

  -- the litres of two sets, given the same depots, are at most those of their union and their intersection
  pub litres-super : (X Y G : Depots) → Apart X G → Apart Y G → litres N X G + litres N Y G ≤ litres N (X ∪ Y) G + litres N (X ∩ Y) G
  litres-super X Y G x y =
      omega (
        arith,
        litres-inside X G x,
        litres-inside Y G y,
        litres-inside (X ∪ Y) G (λ d t. ⊎_elim (x d) (y d) (or_cases (X d) (Y d) t)),
        litres-inside (X ∩ Y) G (λ d t. x d (and_l (X d) (Y d) t)),
        inside-super (X ∪ G) (Y ∪ G),
        inside-mono ((X ∪ G) ∪ (Y ∪ G)) ((X ∪ Y) ∪ G) (λ d. join-test (X d) (Y d) (G d)),
        inside-mono ((X ∪ G) ∩ (Y ∪ G)) ((X ∩ Y) ∪ G) (λ d. meet-test (X d) (Y d) (G d)),
      )

  -- the litres of Y are at most those of its part in X, and those of the rest given X too
  pub litres-split : (X Y G : Depots) → Apart X G → Apart Y G → litres N Y G ≤ litres N (Y ∩ X) G + litres N (Y ∖ X) (G ∪ X)
  litres-split X Y G x y =
      omega (
        arith,
        litres-inside Y G y,
        litres-inside (Y ∩ X) G (λ d t. y d (and_l (Y d) (X d) t)),
        litres-inside (Y ∖ X) (G ∪ X) (λ d t u. ⊎_elim (y d (and_l (Y d) _ t)) (T_not (X d) (and_r (Y d) _ t)) (or_cases (G d) (X d) u)),
        inside-super (Y ∪ G) (G ∪ X),
        inside-mono ((Y ∪ G) ∪ (G ∪ X)) ((Y ∖ X) ∪ (G ∪ X)) (λ d. rest-test (X d) (Y d) (G d)),
        inside-mono ((Y ∪ G) ∩ (G ∪ X)) ((Y ∩ X) ∪ G) (λ d. part-test (X d) (Y d) (G d)),
      )

  -- two sets one after the other
  pub litres-join : (X Y G : Depots) → Apart X G → Apart Y (G ∪ X) → litres N X G + litres N Y (G ∪ X) ≤ litres N (X ∪ Y) G
  litres-join X Y G x y =
      omega (
        arith,
        litres-inside X G x,
        litres-inside Y (G ∪ X) y,
        litres-inside (X ∪ Y) G (λ d t g. ⊎_elim (λ t. x d t g) (λ t. y d t (or_l (G d) (X d) g)) (or_cases (X d) (Y d) t)),
        inside-mono (X ∪ G) (G ∪ X) (λ d. or_swap (X d) (G d)),
        inside-mono (Y ∪ (G ∪ X)) ((X ∪ Y) ∪ G) (λ d. all-test (X d) (Y d) (G d)),
      )

  pub size-split : (X Y : Depots) → size N Y ≡ size N (Y ∩ X) + size N (Y ∖ X)
  unfolding size
  size-split X Y = weigh-split N.crews X Y 64

  pub size-empty : (X : Depots) → ((d : ℕ) → T (X d) → ⊥) → size N X ≡ 0
  unfolding size
  size-empty X h = weigh-empty N.crews X 64 (λ d l. h d)

  module _ (ok : Valid N) where
    -- one more listed depot makes a set larger
    pub size-lt : (A B : Depots) → A ⊆ B → (d : ℕ) → T (N.listed d) → T (B d) → (T (A d) → ⊥) → size N A < size N B
    unfolding size
    size-lt A B h d l b a = weigh-lt N.crews A B 64 h d (ok.small d l) b a (ok.crewed d l)

    pub size-pos : (X : Depots) → X ⊆ N.listed → Nonempty X → 0 < size N X
    size-pos X h s = omega (arith, size-lt ∅ X (λ d t. absurd t) s.0 (h _ s.1) s.1 (λ t. t))

    -- a set of listed depots has one, or is empty
    pub some? : (X : Depots) → X ⊆ N.listed → Nonempty X ⊎ ((d : ℕ) → T (X d) → ⊥)
    some? X h =
        ⊎_elim (λ t. let r = any_at X 64 t in inl (r.0, r.2)) (λ n. inr (λ d t. n (any-from X 64 d (ok.small d (h d t)) t))) (T? (any X 64))
