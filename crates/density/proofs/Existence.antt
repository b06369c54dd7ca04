-- The computed groups are the decomposition, whatever the width k at which every set of depots is looked at. Assumes nothing.
use mathlib.Core.Path.{◌≡◌, ap, subst, subst⁻¹, fun_ext}
use mathlib.Core.Logic.{⊎_elim}
use mathlib.Core.Bool.{Bool, true, cond, ◌&&◌, ◌||◌, not}
use mathlib.Core.List.{List}
use Prim.Native.Nat.{ℕ, zero, suc, ◌*◌, ◌≤◌, ◌<◌, ◌^◌}
use native.Mathlib.Nat.{le_refl, le_trans, eq-zero-or-pos, eq-or-lt_of_le, mul-le-mul_right, le_of_mul-le-mul_right, eq_of_mul-eq-mul_right, le_of_suc-le-suc, le_of_suc-le}
use native.Mathlib.Omega.{arith}
use lib.Dec.{T, T_not, not_T}
use Rattle.sets.specs.Set.{Depots, ∅, ◌∪◌, ◌∖◌, ◌⊆◌, Nonempty, has, set_of, is_empty}
use Rattle.density.specs.Network.{Network, Valid, litres, size}
use Rattle.density.specs.Groups.{exceeds, Next, Follow, Decomposition, best, next_group, groups_from, groups_of}
use Rattle.sets.proofs.Test.{or_l, or_r, and_i, and_l, and_r, and_mono, T?, cond-on, cond-off}
use Rattle.sets.proofs.Member.{set_of-lt, has-set, member-lt, has-none}
use Rattle.sets.proofs.Set.{→empty, none→, subset-of, →subset}
use Rattle.density.proofs.Litres.{size-lt, size-pos, some?, litres-empty, size_mono, size-empty}
use Rattle.density.proofs.Next.{AtMost, exceeds→, exceeds-not, not-exceeds}
use Rattle.density.proofs.Unique.{decomposition-unique}

-- the comparison of two fractions w / q, and where they are equal of the divisors, is transitive; a fraction 0 / 0 is below all
fraction-trans : (w₁ q₁ w₂ q₂ w₃ q₃ : ℕ) → (q₁ ≡ 0 → w₁ ≡ 0) → (q₂ ≡ 0 → w₂ ≡ 0) → (q₃ ≡ 0 → w₃ ≡ 0)
    → w₁ * q₂ ≤ w₂ * q₁ → (w₁ * q₂ ≡ w₂ * q₁ → q₁ ≤ q₂) → w₂ * q₃ ≤ w₃ * q₂ → (w₂ * q₃ ≡ w₃ * q₂ → q₂ ≤ q₃)
    → (w₁ * q₃ ≤ w₃ * q₁) × (w₁ * q₃ ≡ w₃ * q₁ → q₁ ≤ q₃)
fraction-trans w₁ q₁ w₂ q₂ w₃ q₃ z₁ z₂ z₃ d₁ l₁ d₂ l₂ = ⊎_elim none some (eq-zero-or-pos q₁)
  where
    none : q₁ ≡ 0 → (w₁ * q₃ ≤ w₃ * q₁) × (w₁ * q₃ ≡ w₃ * q₁ → q₁ ≤ q₃)
    none e = (rw (z₁ e) (omega arith), λ _. omega arith)

    some : 0 < q₁ → (w₁ * q₃ ≤ w₃ * q₁) × (w₁ * q₃ ≡ w₃ * q₁ → q₁ ≤ q₃)
    some p₁ = (
      le_of_mul-le-mul_right (omega (arith, m₁, m₂)) p₂,
      λ e.
          le_trans (l₁ (eq_of_mul-eq-mul_right q₃ p₃ _ _ (omega (arith, m₁, m₂, ap (λ n. n * q₂) e))))
          (l₂ (eq_of_mul-eq-mul_right q₁ p₁ _ _ (omega (arith, m₁, m₂, ap (λ n. n * q₂) e)))),
    )
      where
        m₁ : w₁ * q₂ * q₃ ≤ w₂ * q₁ * q₃
        m₁ = mul-le-mul_right q₃ d₁

        m₂ : w₂ * q₃ * q₁ ≤ w₃ * q₂ * q₁
        m₂ = mul-le-mul_right q₁ d₂

        p₂ : 0 < q₂
        p₂ = ⊎_elim (λ e. absurd (let z : ⊥ = omega (arith, l₁ (rw (e, z₂ e) (omega arith))) in z)) (λ p. p) (eq-zero-or-pos q₂)

        p₃ : 0 < q₃
        p₃ = ⊎_elim (λ e. absurd (let z : ⊥ = omega (arith, p₂, l₂ (rw (e, z₃ e) (omega arith))) in z)) (λ p. p) (eq-zero-or-pos q₃)

-- the listed depots not yet grouped
abbrev ungrouped : Network → Depots → Depots
ungrouped N G = N.listed ∖ G

module _ (N : Network) (ok : Valid N) (k : ℕ) (wide : k ≤ 64) (below : (d : ℕ) → T (N.listed d) → d < k) where
  module _ (G : Depots) where
    free-listed : (X : Depots) → X ⊆ ungrouped N G → X ⊆ N.listed
    free-listed X h d t = and_l (N.listed d) (not (G d)) (h d t)

    zero-size : (X : Depots) → X ⊆ N.listed → size N X ≡ 0 → litres N X G ≡ 0
    zero-size X h e =
        ⊎_elim (λ s. absurd (let z : ⊥ = omega (arith, size-pos N ok X h s) in z)) (litres-empty N X G) (some? N ok X h)

    at-most-trans : (X Y Z : Depots) → X ⊆ N.listed → Y ⊆ N.listed → Z ⊆ N.listed → AtMost N G X Y → AtMost N G Y Z → AtMost N G X Z
    at-most-trans X Y Z x y z p q =
        let r = fraction-trans _ _ _ _ _ _ (zero-size X x) (zero-size Y y) (zero-size Z z) p.no-denser p.no-larger q.no-denser q.no-larger in
        record { no-denser = r.0; no-larger = r.1 }

    at-most-refl : (X : Depots) → AtMost N G X X
    at-most-refl X = record { no-denser = le_refl _; no-larger = λ e. le_refl _ }

    -- set n is one of ungrouped depots
    abbrev free : ℕ → Bool
    free n = is_empty (has n ∖ ungrouped N G) 64

    free→ : (n : ℕ) → n < 2 ^ k → T (free n) → has n ⊆ ungrouped N G
    free→ n l = subset-of (has n) (ungrouped N G) 64 (λ d t. le_trans (member-lt k d l t) wide)

    -- and better than those before it
    abbrev taken : ℕ → Bool
    taken n = free n && exceeds N G (has n) (has (best N G n))

    -- set m is one of ungrouped depots, and those numbered below n are at most it
    abbrev Best : ℕ → ℕ → Type 0
    Best n m = (has m ⊆ ungrouped N G) × ((y : ℕ) → y < n → has y ⊆ ungrouped N G → AtMost N G (has y) (has m))

    best-suc : (n : ℕ) → n < 2 ^ k → Best n (best N G n) → Best (suc n) (best N G (suc n))
    unfolding best
    best-suc n l b = ⊎_elim take leave (T? (taken n))
      where
        B : Depots
        B = has (best N G n)

        take : T (taken n) → Best (suc n) (cond (taken n) n (best N G n))
        take t =
            let f = free→ n l (and_l (free n) (exceeds N G (has n) B) t) in
            subst⁻¹ (Best (suc n)) (cond-on (taken n) n (best N G n) t) (
              f,
              λ y j u.
                  ⊎_elim (λ e. subst (λ m. AtMost N G (has y) (has m)) e (at-most-refl (has y)))
                  (λ j.
                  at-most-trans (has y) B (has n) (free-listed (has y) u) (free-listed B b.0) (free-listed (has n) f) (b.1 y j u)
                  (exceeds→ N G (has n) B (and_r (free n) (exceeds N G (has n) B) t)))
                  (eq-or-lt_of_le (le_of_suc-le-suc j)),
            )

        left : (T (taken n) → ⊥) → has n ⊆ ungrouped N G → AtMost N G (has n) B
        left f u = exceeds-not N G (has n) B (λ x. f (and_i (free n) (exceeds N G (has n) B) (→subset (has n) (ungrouped N G) 64 u) x))

        leave : (T (taken n) → ⊥) → Best (suc n) (cond (taken n) n (best N G n))
        leave f =
            subst⁻¹ (Best (suc n)) (cond-off (taken n) n (best N G n) f) (
              b.0,
              λ y j u.
                  ⊎_elim (λ (e : y ≡ n). subst⁻¹ (λ m. AtMost N G (has m) B) e (left f (subst (λ m. has m ⊆ ungrouped N G) e u))) (λ j. b.1 y j u)
                  (eq-or-lt_of_le (le_of_suc-le-suc j)),
            )

    best-is : (n : ℕ) → n ≤ 2 ^ k → Best n (best N G n)
    unfolding best
    best-is zero l = (λ d t. absurd (subst T (has-none d) t), λ y m. absurd (let z : ⊥ = omega arith in z))
    best-is (suc n) l = best-suc n l (best-is n (le_of_suc-le l))

    module _ (s : Nonempty (ungrouped N G)) where
      abbrev found : Depots
      found = has (next_group N k G)

      is-best : Best (2 ^ k) (next_group N k G)
      unfolding next_group
      is-best = best-is (2 ^ k) (le_refl (2 ^ k))

      found-most : (Y : Depots) → Y ⊆ ungrouped N G → AtMost N G Y found
      found-most Y y =
          let e : has (set_of Y k) ≡ Y = fun_ext (has-set k Y (λ d t. below d (free-listed Y y d t))) in
          rw e at (is-best.1 (set_of Y k) (set_of-lt k Y) (rw e y))

      -- a set of one free depot is larger than the empty one
      found_some : Nonempty found
      found_some =
          ⊎_elim (λ p. p)
          (λ e.
          absurd
          (let z : ⊥ =
          omega (
            arith,
            m.no-larger (rw (litres-empty N found G e, size-empty N found e) (omega arith)),
            size-empty N found e,
            size-pos N ok (ungrouped N G) (free-listed (ungrouped N G) (λ d t. t)) s,
          ) in
          z))
          (some? N ok found (free-listed found is-best.0))
        where
          m : AtMost N G (ungrouped N G) found
          m = found-most (ungrouped N G) (λ d t. t)

      pub next-group : Next N G found
      next-group =
          record {
            candidate =
                record {
                  some = found_some;
                  listed = free-listed found is-best.0;
                  free = λ d t. T_not (G d) (and_r (N.listed d) (not (G d)) (is-best.0 d t));
                };
            most = λ Y y.
                not-exceeds N G Y found (found-most Y (λ d t. and_i (N.listed d) (not (G d)) (y.listed d t) (not_T (G d) (y.free d t))));
          }

  ungrouped-⊆ : (G : Depots) → ungrouped N G ⊆ N.listed
  ungrouped-⊆ G d t = and_l (N.listed d) (not (G d)) t

  covered : (G : Depots) → ((d : ℕ) → T (ungrouped N G d) → ⊥) → N.listed ⊆ G
  covered G h d t = ⊎_elim (λ g. g) (λ n. absurd (h d (and_i (N.listed d) (not (G d)) t (not_T (G d) n)))) (T? (G d))

  smaller : (G X : Depots) → Next N G X → size N (ungrouped N (G ∪ X)) < size N (ungrouped N G)
  smaller G X x =
      let d : ℕ = x.candidate.some.0 in
      let t = x.candidate.some.1 in
      let l = x.candidate.listed d t in
      size-lt N ok (ungrouped N (G ∪ X)) (ungrouped N G)
      (λ e. and_mono (N.listed e) (N.listed e) (not (G e || X e)) (not (G e)) (λ u. u)
      (λ u. not_T (G e) (λ g. T_not (G e || X e) u (or_l (G e) (X e) g))))
      d l (and_i (N.listed d) (not (G d)) l (not_T (G d) (x.candidate.free d t)))
      (λ u. T_not (G d || X d) (and_r (N.listed d) (not (G d || X d)) u) (or_r (G d) (X d) t))

  pub follow-groups : (n : ℕ) (G : Depots) → size N (ungrouped N G) ≤ n → Follow N G (groups_from N k G n)
  unfolding groups_from Follow
  follow-groups zero G h = covered G (λ d t. let z : ⊥ = omega (arith, size-pos N ok (ungrouped N G) (ungrouped-⊆ G) (d, t)) in z)
  follow-groups (suc n) G h =
      ⊎_elim
      (λ s. subst⁻¹ (λ gs. Follow N G gs) (cond-off (is_empty (ungrouped N G) 64) _ _
      (λ t. none→ (ungrouped N G) 64 (λ d u. ok.small d (ungrouped-⊆ G d u)) t s.0 s.1))
      (next-group G s, follow-groups n (G ∪ has (next_group N k G)) (le_of_suc-le-suc (le_trans (smaller G (has (next_group N k G)) (next-group G s)) h))))
      (λ e. subst⁻¹ (λ gs. Follow N G gs) (cond-on (is_empty (ungrouped N G) 64) _ _ (→empty (ungrouped N G) 64 (λ d l. e d))) (covered G e))
      (some? N ok (ungrouped N G) (ungrouped-⊆ G))

  pub computed-at : Decomposition N (groups_from N k ∅ (size N N.listed))
  unfolding Decomposition
  computed-at = follow-groups (size N N.listed) ∅ (size_mono N (ungrouped N ∅) N.listed (λ d t. and_l (N.listed d) true t))

module _ (N : Network) (ok : Valid N) where
  -- the function computes the decomposition
  pub computed : Decomposition N (groups_of N)
  unfolding groups_of
  computed = computed-at N ok 64 (le_refl 64) ok.small

  pub decomposition-is : (gs : List ℕ) → Decomposition N gs → gs ≡ groups_of N
  decomposition-is gs h = decomposition-unique N ok gs (groups_of N) h computed

  -- the groups found at a width that the listed depots keep to: small networks can be run
  pub run_is : (k : ℕ) → k ≤ 64 → ((d : ℕ) → T (N.listed d) → d < k) → groups_from N k ∅ (size N N.listed) ≡ groups_of N
  run_is k w b = decomposition-is (groups_from N k ∅ (size N N.listed)) (computed-at N ok k w b)
