-- The maker's mathematics. A set S of depots, after B, whose shares can be moved no further is level, or splits into the depots A that no
-- depot below its target reaches and the rest; A is strictly denser than the rest. Assumes nothing.
use mathlib.Core.Path.{◌≡◌, refl, sym, ap, ◌∙◌, subst, fun_ext}
use mathlib.Core.Logic.{◌⊎◌, ⊎_elim}
use mathlib.Core.Bool.{Bool, true, false, ◌&&◌, ◌||◌, not}
use Prim.Native.Nat.{ℕ, zero, suc, ◌+◌, ◌*◌, ◌≤◌, ◌<◌, zero-le}
use native.Mathlib.Nat.{mul_comm, le_trans, le_of_eq, lt_of_le_of_lt, lt_of_lt_of_le, mul-le-mul_right, mul-lt-mul_of_pos_right, lt_of_mul-lt-mul_right, lt_irrefl, eq-or-lt_of_le}
use native.Mathlib.Omega.{arith}
use lib.Dec.{T, T_not, not_T}
use Rattle.sets.specs.Sum.{when, sum}
use Rattle.sets.specs.Set.{Depots, ◌∪◌, ◌∖◌, ◌⊆◌, Apart, Nonempty, weigh}
use Rattle.density.specs.Network.{Network, Valid, touches, within, counts, litres, size, end}
use Rattle.density.specs.declared.Site.{Site}
use Rattle.sets.proofs.Test.{or_l, or_r, or_cases, and_i, and_l, and_r, T?, T-ext, when-on, when-off, when-≤}
use Rattle.sets.proofs.Sum.{sum_mono, sum_lt, sum-mul}
use Rattle.density.specs.Groups.{Candidate}
use Rattle.density.proofs.Level.{sides, within_end, within-ends, touches-end, touches-cases, Spread, load_of, loads_of, shares_at, loads-by-site, litres-≤-loads, litres-<-loads, counts-mono}

-- Depot d has share of a site of S that leads to an earlier depot of S outside A.
pub record Onward (N : Network) (B S : Depots) (h : Bool → ℕ → ℕ) (A : Depots) (rank : ℕ → ℕ) (d : ℕ) : Type 0 where
  pub site : ℕ
  pub number : site < N.count
  pub carried : T (counts S B (N.site site))
  pub side : Bool
  pub from : end side (N.site site) ≡ d
  pub gives : 0 < h side site
  pub to : T ((S ∖ A) (end (not side) (N.site site)))
  pub earlier : rank (end (not side) (N.site site)) < rank d

-- Shares of S that can be moved no further: A is full and gives nothing to the rest; of the rest each depot lacks share, or has some of a site to an earlier one.
pub record Settled (N : Network) (B S : Depots) (h : Bool → ℕ → ℕ) (A : Depots) (rank : ℕ → ℕ) : Type 0 where
  pub part : A ⊆ S
  pub heavy : (d : ℕ) → T (A d) → N.crews d * litres N S B ≤ load_of N B S h d
  pub light : (d : ℕ) → T ((S ∖ A) d) → load_of N B S h d ≤ N.crews d * litres N S B
  pub closed : (e : Bool) (i : ℕ) → i < N.count → T (counts S B (N.site i)) → T (A (end e (N.site i))) → T ((S ∖ A) (end (not e) (N.site i)))
      → h e i ≡ 0
  pub onward : (d : ℕ) → T ((S ∖ A) d) → (load_of N B S h d < N.crews d * litres N S B) ⊎ Onward N B S h A rank d

-- A threshold w / q between v and the rest of u: what is added to v from u is sparser, what v adds to a part of it, from b on, is no sparser.
pub record Threshold (N : Network) (u v b : Depots) : Type 0 where
  pub q : ℕ
  pub w : ℕ
  pub sparse : (Y : Depots) → Y ⊆ u → Apart Y v → Nonempty Y → litres N Y v * q < size N Y * w
  pub dense : (c : Depots) → b ⊆ c → c ⊆ v → size N (v ∖ c) * w ≤ litres N (v ∖ c) c * q

when-mul-≤ : (z : Bool) (n c w : ℕ) → (T z → n ≤ c * w) → when z n ≤ when z c * w
when-mul-≤ true n c w k = k tt
when-mul-≤ false n c w k = zero-le

mul-when-≤ : (z : Bool) (n c w : ℕ) → (T z → c * w ≤ n) → when z c * w ≤ when z n
mul-when-≤ true n c w k = k tt
mul-when-≤ false n c w k = omega arith

-- the litres of X given H, at S's scale, site by site
litres-by-site : (N : Network) (X H S : Depots) → sum (λ i. when (counts X H (N.site i)) (N.site i).litres * size N S) N.count ≡ litres N X H * size N S
unfolding litres
litres-by-site N X H S = sum-mul _ (size N S) N.count

module _ (N : Network) (B S : Depots) (h : Bool → ℕ → ℕ) where
  loads-≤ : (Z : Depots) (w : ℕ) → ((d : ℕ) → T (Z d) → load_of N B S h d ≤ N.crews d * w) → loads_of N B S h Z ≤ size N Z * w
  unfolding loads_of size weigh
  loads-≤ Z w k = le_trans (sum_mono _ _ 64 (λ d l. when-mul-≤ (Z d) _ (N.crews d) w (k d))) (le_of_eq (sum-mul _ w 64))

  ≤-loads : (Z : Depots) (w : ℕ) → ((d : ℕ) → T (Z d) → N.crews d * w ≤ load_of N B S h d) → size N Z * w ≤ loads_of N B S h Z
  unfolding loads_of size weigh
  ≤-loads Z w k = le_trans (le_of_eq (sym (sum-mul _ w 64))) (sum_mono _ _ 64 (λ d l. mul-when-≤ (Z d) _ (N.crews d) w (k d)))

  <-loads : (Z : Depots) (w : ℕ) → ((d : ℕ) → T (Z d) → N.crews d * w ≤ load_of N B S h d)
      → (d : ℕ) → T (Z d) → d < 64 → N.crews d * w < load_of N B S h d → size N Z * w < loads_of N B S h Z
  unfolding loads_of size weigh
  <-loads Z w k d t l o =
      lt_of_le_of_lt (le_of_eq (sym (sum-mul _ w 64)))
      (sum_lt _ _ 64 (λ d l. mul-when-≤ (Z d) _ (N.crews d) w (k d)) d l (rw (when-on (Z d) (N.crews d) t, when-on (Z d) (load_of N B S h d) t) o))

  loads-< : (Z : Depots) (w : ℕ) → ((d : ℕ) → T (Z d) → load_of N B S h d ≤ N.crews d * w)
      → (d : ℕ) → T (Z d) → d < 64 → load_of N B S h d < N.crews d * w → loads_of N B S h Z < size N Z * w
  unfolding loads_of size weigh
  loads-< Z w k d t l o =
      lt_of_lt_of_le
      (sum_lt _ _ 64 (λ d l. when-mul-≤ (Z d) _ (N.crews d) w (k d)) d l (rw (when-on (Z d) (N.crews d) t, when-on (Z d) (load_of N B S h d) t) o))
      (le_of_eq (sum-mul _ w 64))

module _ (N : Network) (ok : Valid N) (B S : Depots) (h : Bool → ℕ → ℕ) (v : Spread N B S h) (x : Candidate N B S) (A : Depots) (rank : ℕ → ℕ)
    (c : Settled N B S h A rank) where
  -- a part of the rest: all that its sites have is its own
  module _ (Y : Depots) (y : Y ⊆ (S ∖ A)) where
    in-S : Y ⊆ S
    in-S d t = and_l (S d) (not (A d)) (y d t)

    up : (B ∪ A) ⊆ (S ∪ B)
    up d t = ⊎_elim (or_r (S d) (B d)) (λ u. or_l (S d) (B d) (c.part d u)) (or_cases (B d) (A d) t)

    free : (e : Bool) (i : ℕ) → i < N.count → T (counts Y (B ∪ A) (N.site i)) → T ((B ∪ A) (end e (N.site i))) → h e i ≡ 0
    free e i l t k =
        let s = N.site i in
        let j = counts-mono S B Y (B ∪ A) s in-S up t in
        ⊎_elim (v.free e i l j)
        (λ u.
        ⊎_elim (λ p. absurd (T_not (A (end e s)) (and_r (S (end e s)) (not (A (end e s))) (y _ p)) u)) (λ p. c.closed e i l j u (y _ p))
        (touches-cases Y s (and_r (within (Y ∪ (B ∪ A)) s) (touches Y s) t) e))
        (or_cases (B (end e s)) (A (end e s)) k)

    -- a site to a depot of the rest outside Y does not count, and Y has some of it
    leaving : (d : ℕ) (w : Onward N B S h A rank d) → T (Y d) → (T (Y (end (not w.side) (N.site w.site))) → ⊥)
        → litres N Y (B ∪ A) * size N S < loads_of N B S h Y
    unfolding shares_at
    leaving d w t n =
        let s = N.site w.site in
        litres-<-loads N ok B S h v Y (B ∪ A) in-S up free w.site w.number
        (rw (when-off (counts Y (B ∪ A) s) s.litres uncounted, when-on (counts S B s) (when (Y s.first) (h true w.site) + when (Y s.second) (h false w.site)) w.carried)
        (omega (
          arith,
          w.gives,
          sides (λ k. when (Y (end k s)) (h k w.site)) w.side,
          when-on (Y (end w.side s)) (h w.side w.site) (subst (λ k. T (Y k)) (sym w.from) t),
        )))
      where
        uncounted : T (counts Y (B ∪ A) (N.site w.site)) → ⊥
        uncounted k =
            let s = N.site w.site in
            let g = end (not w.side) s in
            ⊎_elim n
            (λ z. ⊎_elim (x.free g (and_l (S g) (not (A g)) w.to)) (T_not (A g) (and_r (S g) (not (A g)) w.to)) (or_cases (B g) (A g) z))
            (or_cases (Y g) ((B ∪ A) g) (within_end (Y ∪ (B ∪ A)) s (and_l (within (Y ∪ (B ∪ A)) s) (touches Y s) k) (not w.side)))

    pub light-bound : (n d : ℕ) → T (Y d) → rank d < n → litres N Y (B ∪ A) * size N S < size N Y * litres N S B
    light-bound zero d t l = absurd (omega arith)
    light-bound (suc n) d t l =
        ⊎_elim
        (λ o.
        lt_of_le_of_lt (litres-≤-loads N ok B S h v Y (B ∪ A) in-S up free)
        (loads-< N B S h Y (litres N S B) (λ e k. c.light e (y e k)) d t (ok.small d (x.listed d (in-S d t))) o))
        (λ w. ⊎_elim (λ k. light-bound n (end (not w.side) (N.site w.site)) k (omega (arith, w.earlier)))
        (λ k. lt_of_lt_of_le (leaving d w t k) (loads-≤ N B S h Y (litres N S B) (λ e k. c.light e (y e k))))
        (T? (Y (end (not w.side) (N.site w.site)))))
        (c.onward d (y d t))

  -- a part of A: its sites have all that it has
  module _ (X : Depots) (xa : X ⊆ A) where
    abbrev H : Depots
    H = B ∪ (A ∖ X)

    inside-A : (d : ℕ) → T ((A ∪ B) d) → T ((X ∪ H) d)
    inside-A d t =
        ⊎_elim
        (λ p. ⊎_elim (or_l (X d) (H d)) (λ n. or_r (X d) (H d) (or_r (B d) ((A ∖ X) d) (and_i (A d) (not (X d)) p (not_T (X d) n)))) (T? (X d)))
        (λ p. or_r (X d) (H d) (or_l (B d) ((A ∖ X) d) p))
        (or_cases (A d) (B d) t)

    outside-A : (d : ℕ) → T ((S ∪ B) d) → (T ((X ∪ H) d) → ⊥) → T ((S ∖ A) d)
    outside-A d t n =
        ⊎_elim (λ p. and_i (S d) (not (A d)) p (not_T (A d) (λ u. n (inside-A d (or_l (A d) (B d) u)))))
        (λ p. absurd (n (inside-A d (or_r (A d) (B d) p))))
        (or_cases (S d) (B d) t)

    -- of a site that X, given H, does not count, the depots of X have nothing
    uncounted : (i : ℕ) → i < N.count → T (counts S B (N.site i)) → (T (counts X H (N.site i)) → ⊥) → (e : Bool)
        → when (X (end e (N.site i))) (h e i) ≡ 0
    uncounted i l t n e = ⊎_elim on (when-off (X (end e s)) (h e i)) (T? (X (end e s)))
      where
        s : Site
        s = N.site i

        on : T (X (end e s)) → when (X (end e s)) (h e i) ≡ 0
        on p =
            when-on (X (end e s)) (h e i) p
            ∙ c.closed e i l t (xa _ p)
            (outside-A (end (not e) s) (within_end (S ∪ B) s (and_l (within (S ∪ B) s) (touches S s) t) (not e))
            (λ u. n (and_i (within (X ∪ H) s) (touches X s) (within-ends (X ∪ H) s e (or_l (X (end e s)) (H (end e s)) p) u) (touches-end X s e p))))

    site-upper : (i : ℕ) → i < N.count → shares_at N B S h X i ≤ when (counts X H (N.site i)) (N.site i).litres * size N S
    unfolding shares_at
    site-upper i l =
        let s = N.site i in
        ⊎_elim
        (λ t.
        rw (when-on (counts S B s) (when (X s.first) (h true i) + when (X s.second) (h false i)) t)
        (⊎_elim
        (λ k. rw (when-on (counts X H s) s.litres k) (omega (arith, v.whole i l t, when-≤ (X s.first) (h true i), when-≤ (X s.second) (h false i))))
        (λ n. omega (arith, uncounted i l t n true, uncounted i l t n false))
        (T? (counts X H s))))
        (λ n. rw (when-off (counts S B s) (when (X s.first) (h true i) + when (X s.second) (h false i)) n) zero-le)
        (T? (counts S B s))

    upper : loads_of N B S h X ≤ litres N X H * size N S
    upper = omega (arith, loads-by-site N ok B S h X, sum_mono _ _ N.count site-upper, litres-by-site N X H S)

    pub heavy-bound : size N X * litres N S B ≤ litres N X (B ∪ (A ∖ X)) * size N S
    heavy-bound = le_trans (≤-loads N B S h X (litres N S B) (λ d t. c.heavy d (xa d t))) upper

  -- not every depot is in the rest
  pub full : ((d : ℕ) → T (A d) → ⊥) → ⊥
  full none =
      let all : S ⊆ (S ∖ A) = λ d t. and_i (S d) (not (A d)) t (not_T (A d) (none d)) in
      let s = light-bound S all (suc (rank x.some.0)) x.some.0 x.some.1 (omega arith) in
      lt_irrefl _ (subst (λ n. n < size N S * litres N S B) (mul_comm (litres N S (B ∪ A)) (size N S) ∙ ap (λ (G : Depots). size N S * litres N S G) (fun_ext (λ d. T-ext _ _ (λ t. ⊎_elim (λ p. p) (λ p. absurd (none d p)) (or_cases (B d) (A d) t)) (or_l (B d) (A d))))) s)

  -- where A is all of S, it is level
  pub level : S ⊆ A → (d : ℕ) → T (S d) → load_of N B S h d ≡ N.crews d * litres N S B
  level all d t =
      ⊎_elim sym
      (λ o.
      let less = <-loads N B S h S (litres N S B) (λ e k. c.heavy e (all e k)) d t (ok.small d (x.listed d t)) o in
      let most = upper S all in
      absurd (lt_irrefl _ (lt_of_lt_of_le less (le_trans most (le_of_eq (ap (λ (G : Depots). litres N S G * size N S) same ∙ mul_comm (litres N S B) (size N S)))))))
      (eq-or-lt_of_le (c.heavy d (all d t)))
    where
      same : (B ∪ (A ∖ S)) ≡ B
      same = fun_ext (λ d. T-ext _ _ (λ t. ⊎_elim (λ p. p) (λ p. absurd (T_not (S d) (and_r (A d) (not (S d)) p) (c.part d (and_l (A d) (not (S d)) p)))) (or_cases (B d) ((A ∖ S) d) t)) (or_l (B d) ((A ∖ S) d)))

  rest-test : (a b c : Bool) → (T b → T c) → (T c → T (b || a)) → (b || (a && not ((b || a) && not c))) ≡ c
  rest-test a true true f g = refl
  rest-test a true false f g = absurd (f tt)
  rest-test true false true f g = refl
  rest-test true false false f g = refl
  rest-test false false true f g = absurd (g tt)
  rest-test false false false f g = refl

  pub threshold : (U : Depots) → U ⊆ (B ∪ S) → Threshold N U (B ∪ A) B
  threshold U u = record {
    q = size N S;
    w = litres N S B;
    sparse = λ Y y apart n. light-bound Y
        (λ d t. ⊎_elim (λ p. absurd (apart d t (or_l (B d) (A d) p))) (λ p. and_i (S d) (not (A d)) p (not_T (A d) (λ a. apart d t (or_r (B d) (A d) a)))) (or_cases (B d) (S d) (u d (y d t))))
        (suc (rank n.0)) n.0 n.1 (omega arith);
    dense = λ C b k. subst (λ (G : Depots). size N ((B ∪ A) ∖ C) * litres N S B ≤ litres N ((B ∪ A) ∖ C) G * size N S)
        (fun_ext (λ d. rest-test (A d) (B d) (C d) (b d) (k d)))
        (heavy-bound ((B ∪ A) ∖ C) (λ d t.
        ⊎_elim (λ p. absurd (T_not (C d) (and_r ((B ∪ A) d) (not (C d)) t) (b d p))) (λ p. p) (or_cases (B d) (A d) (and_l ((B ∪ A) d) (not (C d)) t))));
  }

-- the threshold holds from any larger b
pub threshold-more : {N : Network} {U P B C : Depots} → Threshold N U P B → B ⊆ C → Threshold N U P C
threshold-more k up = record { q = k.q; w = k.w; sparse = k.sparse; dense = λ D c v. k.dense D (λ d t. c d (up d t)) v }

-- the group P after B is denser than whatever follows it within U
pub threshold-falls : {N : Network} {U P B : Depots} → Threshold N U P B → B ⊆ P → 0 < size N (P ∖ B) → (Y : Depots) → Y ⊆ U → Apart Y P → Nonempty Y
    → litres N Y P * size N (P ∖ B) < litres N (P ∖ B) B * size N Y
threshold-falls {N} {U} {P} {B} k part pos Y y apart n =
    lt_of_mul-lt-mul_right k.q
    (omega (arith, mul-lt-mul_of_pos_right (k.sparse Y y apart n) pos, mul-le-mul_right (size N Y) (k.dense B (λ d t. t) part)))
