-- The next group: the union of two densest sets is one too, so that the largest is unique; the group after it is strictly less dense.
-- Assumes nothing.
use mathlib.Core.Path.{◌≡◌, sym, ap, fun_ext}
use mathlib.Core.Logic.{⊎_elim}
use mathlib.Core.Bool.{◌&&◌, ◌||◌}
use Prim.Native.Nat.{ℕ, ◌*◌, ◌≤◌, ◌<◌}
use native.Mathlib.Nat.{le_trans, le_of_eq, le_of_lt, le_of_mul-le-mul_right, mul-le-mul_right, lt_irrefl, lt_of_not-le}
use native.Mathlib.Omega.{arith}
use lib.Dec.{T, not_T, eqb, ltb, eqb→eq, ltb→lt, nltb→le}
use Rattle.sets.specs.Set.{Depots, ◌∪◌, ◌∩◌, ◌⊆◌, Apart}
use Rattle.density.specs.Network.{Network, Valid, litres, size}
use Rattle.density.specs.Groups.{Candidate, exceeds, Next, Densest}
use Rattle.sets.proofs.Test.{or_l, or_r, or_cases, and_i, and_l, and_r, T?, T-ext, eq→eqb}
use Rattle.density.proofs.Litres.{size-modular, size-lt, size-pos, some?, litres-empty, litres-super, litres-join}

-- ---- the comparison of two sets

-- Y has no more litres per depot than X and, where it has as many, is not larger
pub record AtMost (N : Network) (G Y X : Depots) : Type 0 where
  pub no-denser : litres N Y G * size N X ≤ litres N X G * size N Y
  pub no-larger : litres N Y G * size N X ≡ litres N X G * size N Y → size N Y ≤ size N X

-- the test of two fractions, as it computes: passed, failed, and failed again
more : (a b x y : ℕ) → T (ltb a b || (eqb a b && ltb x y)) → (a ≤ b) × (a ≡ b → x ≤ y)
more a b x y t =
    ⊎_elim (λ l. let p = ltb→lt a b l in (omega arith, λ e. omega arith))
    (λ r. (le_of_eq (eqb→eq a b (and_l (eqb a b) (ltb x y) r)), λ e. le_of_lt (ltb→lt x y (and_r (eqb a b) (ltb x y) r))))
    (or_cases (ltb a b) (eqb a b && ltb x y) t)

no_more : (a b x y : ℕ) → (T (ltb a b || (eqb a b && ltb x y)) → ⊥) → (b ≤ a) × (b ≡ a → y ≤ x)
no_more a b x y h = (
  nltb→le a b (not_T (ltb a b) (λ t. h (or_l (ltb a b) _ t))),
  λ e. nltb→le x y (not_T (ltb x y) (λ t. h (or_r (ltb a b) (eqb a b && ltb x y) (and_i (eqb a b) (ltb x y) (eq→eqb a b (sym e)) t)))),
)

not_more : (a b x y : ℕ) → b ≤ a → (b ≡ a → y ≤ x) → T (ltb a b || (eqb a b && ltb x y)) → ⊥
not_more a b x y l h t =
    ⊎_elim (λ s. let p = ltb→lt a b s in omega arith)
    (λ s.
    let e = eqb→eq a b (and_l (eqb a b) (ltb x y) s) in
    let p = ltb→lt x y (and_r (eqb a b) (ltb x y) s) in
    let q : y ≤ x = h (sym e) in
    omega arith)
    (or_cases (ltb a b) (eqb a b && ltb x y) t)

module _ (N : Network) (G X Y : Depots) where
  pub exceeds→ : T (exceeds N G X Y) → AtMost N G Y X
  unfolding exceeds
  exceeds→ t = let r = more _ _ _ _ t in record { no-denser = r.0; no-larger = r.1 }

  pub exceeds-not : (T (exceeds N G X Y) → ⊥) → AtMost N G X Y
  unfolding exceeds
  exceeds-not f = let r = no_more _ _ _ _ f in record { no-denser = r.0; no-larger = r.1 }

  pub not-exceeds : AtMost N G X Y → T (exceeds N G X Y) → ⊥
  unfolding exceeds
  not-exceeds m = not_more _ _ _ _ m.no-denser m.no-larger

pub at_most : (N : Network) (G X : Depots) → Next N G X → (Y : Depots) → Candidate N G Y → AtMost N G Y X
at_most N G X x Y y = exceeds-not N G Y X (x.most Y y)

-- ---- densest sets

pub next-densest : (N : Network) (G X : Depots) → Next N G X → Densest N G X
next-densest N G X x = record { candidate = x.candidate; no-denser = λ Y y. (at_most N G X x Y y).no-denser }

pub union-candidate : (N : Network) (G X Y : Depots) → Candidate N G X → Y ⊆ N.listed → Apart Y G → Candidate N G (X ∪ Y)
union-candidate N G X Y x l f =
    record {
      some = (x.some.0, or_l (X _) (Y _) x.some.1);
      listed = λ d t. ⊎_elim (x.listed d) (l d) (or_cases (X d) (Y d) t);
      free = λ d t. ⊎_elim (x.free d) (f d) (or_cases (X d) (Y d) t);
    }

module _ (N : Network) (ok : Valid N) where
  -- also the empty set has no more litres per depot
  pub density : (G X : Depots) → Densest N G X → (Z : Depots) → Z ⊆ N.listed → Apart Z G → litres N Z G * size N X ≤ litres N X G * size N Z
  density G X x Z l f =
      ⊎_elim (λ s. x.no-denser Z (record { some = s; listed = l; free = f })) (λ e. rw (litres-empty N Z G e) (omega arith)) (some? N ok Z l)

  -- "Their union is also such a set"
  pub union-densest : (G X Y : Depots) → Densest N G X → Densest N G Y → Densest N G (X ∪ Y)
  union-densest G X Y x y =
      record {
        candidate = union-candidate N G X Y a b.listed b.free;
        no-denser = λ Z z.
            le_of_mul-le-mul_right (omega (arith, mul-le-mul_right (size N (X ∪ Y)) (x.no-denser Z z), mul-le-mul_right (size N Z) dense))
            (size-pos N ok X a.listed a.some);
      }
    where
      a : Candidate N G X
      a = x.candidate

      b : Candidate N G Y
      b = y.candidate

      dense : litres N X G * size N (X ∪ Y) ≤ litres N (X ∪ Y) G * size N X
      dense =
          omega (
            arith,
            mul-le-mul_right (size N X) (litres-super N X Y G a.free b.free),
            y.no-denser X a,
            density G X x (X ∩ Y) (λ d t. a.listed d (and_l (X d) (Y d) t)) (λ d t. a.free d (and_l (X d) (Y d) t)),
            ap (λ n. litres N X G * n) (size-modular N X Y),
          )

  -- ---- "so the largest is unique"

  unique-⊆ : (G X Y : Depots) → Next N G X → Next N G Y → Y ⊆ X
  unique-⊆ G X Y x y d t = ⊎_elim (λ p. p) (λ p. absurd (lt_irrefl (size N X) (le_trans (larger p) largest))) (T? (X d))
    where
      u : Densest N G (X ∪ Y)
      u = union-densest G X Y (next-densest N G X x) (next-densest N G Y y)

      m : AtMost N G (X ∪ Y) X
      m = at_most N G X x (X ∪ Y) u.candidate

      largest : size N (X ∪ Y) ≤ size N X
      largest = m.no-larger (omega (arith, m.no-denser, u.no-denser X x.candidate))

      larger : (T (X d) → ⊥) → size N X < size N (X ∪ Y)
      larger p = size-lt N ok X (X ∪ Y) (λ e s. or_l (X e) (Y e) s) d (y.candidate.listed d t) (or_r (X d) (Y d) t) p

  pub unique : (G X Y : Depots) → Next N G X → Next N G Y → X ≡ Y
  unique G X Y x y = fun_ext (λ d. T-ext (X d) (Y d) (unique-⊆ G Y X y x d) (unique-⊆ G X Y x y d))

  -- X and then Y together are a candidate larger than X, and so less dense
  pub falls : (G X Y : Depots) → Next N G X → Next N (G ∪ X) Y → litres N Y (G ∪ X) * size N X < litres N X G * size N Y
  falls G X Y x y = lt_of_not-le (λ h. lt_irrefl (size N X) (le_trans larger (u.no-larger (equal h))))
    where
      a : Candidate N (G ∪ X) Y
      a = y.candidate

      u : AtMost N G (X ∪ Y) X
      u = at_most N G X x (X ∪ Y) (union-candidate N G X Y x.candidate a.listed (λ d t g. a.free d t (or_l (G d) (X d) g)))

      larger : size N X < size N (X ∪ Y)
      larger =
          size-lt N ok X (X ∪ Y) (λ e s. or_l (X e) (Y e) s) a.some.0 (a.listed _ a.some.1) (or_r (X _) (Y _) a.some.1)
          (λ t. a.free _ a.some.1 (or_r (G _) (X _) t))

      equal : litres N X G * size N Y ≤ litres N Y (G ∪ X) * size N X → litres N (X ∪ Y) G * size N X ≡ litres N X G * size N (X ∪ Y)
      equal h =
          omega (
            arith,
            u.no-denser,
            mul-le-mul_right (size N X) (litres-join N X Y G x.candidate.free a.free),
            ap (λ n. litres N X G * n) (size-modular N X Y),
          )
