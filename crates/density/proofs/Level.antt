-- Shares at a group's scale: what its depots have from the sites that it carries, against the litres of its subsets. A group whose loads are
-- level is as dense as each of its subsets. Assumes nothing.
use mathlib.Core.Path.{◌≡◌, refl, sym, ap₂, ◌∙◌}
use mathlib.Core.Logic.{◌⊎◌, ⊎_elim}
use mathlib.Core.Bool.{Bool, true, false, not, ◌||◌}
use Prim.Native.Nat.{ℕ, ◌+◌, ◌*◌, ◌≤◌, ◌<◌}
use native.Mathlib.Nat.{add_comm, le_refl, le_trans, le_of_eq}
use native.Mathlib.Omega.{arith}
use lib.Dec.{T, eqb}
use Rattle.sets.specs.Sum.{when, sum}
use Rattle.sets.specs.Set.{Depots, ◌∪◌, ◌⊆◌, weigh}
use Rattle.density.specs.Network.{Network, Valid, end, touches, within, counts, litres, size}
use Rattle.density.specs.declared.Site.{Site}
use Rattle.density.specs.Groups.{Candidate}
use Rattle.sets.proofs.Test.{or_l, or_r, or_cases, or_swap, and_i, and_l, and_r, and_mono, T?, when-on, when-off, when-zero}
use Rattle.sets.proofs.Sum.{sum-cong, sum_mono, sum_lt, sum-zero, sum-add, sum-mul, sum-swap, sum-pick, sum-when}
use Rattle.density.proofs.Sound.{Dense}

pub sides : (g : Bool → ℕ) (e : Bool) → g true + g false ≡ g e + g (not e)
sides g true = refl
sides g false = add_comm (g true) (g false)

pub within_end : (X : Depots) (s : Site) → T (within X s) → (e : Bool) → T (X (end e s))
within_end X s t true = and_l (X s.first) (X s.second) t
within_end X s t false = and_r (X s.first) (X s.second) t

pub touches-end : (X : Depots) (s : Site) (e : Bool) → T (X (end e s)) → T (touches X s)
touches-end X s true t = or_l (X s.first) (X s.second) t
touches-end X s false t = or_r (X s.first) (X s.second) t

pub touches-cases : (X : Depots) (s : Site) → T (touches X s) → (e : Bool) → T (X (end e s)) ⊎ T (X (end (not e) s))
touches-cases X s t true = or_cases (X s.first) (X s.second) t
touches-cases X s t false = or_cases (X s.second) (X s.first) (or_swap (X s.first) (X s.second) t)

pub within-ends : (X : Depots) (s : Site) (e : Bool) → T (X (end e s)) → T (X (end (not e) s)) → T (within X s)
within-ends X s true t u = and_i (X s.first) (X s.second) t u
within-ends X s false t u = and_i (X s.first) (X s.second) u t

-- h true i and h false i are the shares of site i's first and second depot. Those of a site that S carries, given B, are all its litres at the
-- scale of S's size, and a depot of B has none of them.
pub record Spread (N : Network) (B S : Depots) (h : Bool → ℕ → ℕ) : Type 0 where
  pub whole : (i : ℕ) → i < N.count → T (counts S B (N.site i)) → h true i + h false i ≡ (N.site i).litres * size N S
  pub free : (e : Bool) (i : ℕ) → i < N.count → T (counts S B (N.site i)) → T (B (end e (N.site i))) → h e i ≡ 0

-- what depot d has from the sites that S carries
unfoldable pub load_of : Network → Depots → Depots → (Bool → ℕ → ℕ) → ℕ → ℕ
load_of N B S h d =
    sum (λ i. when (counts S B (N.site i)) (when (eqb (N.site i).first d) (h true i) + when (eqb (N.site i).second d) (h false i))) N.count

-- what the depots of Z have together
unfoldable pub loads_of : Network → Depots → Depots → (Bool → ℕ → ℕ) → Depots → ℕ
loads_of N B S h Z = sum (λ d. when (Z d) (load_of N B S h d)) 64

-- what they have of site i
unfoldable pub shares_at : Network → Depots → Depots → (Bool → ℕ → ℕ) → Depots → ℕ → ℕ
shares_at N B S h Z i = when (counts S B (N.site i)) (when (Z (N.site i).first) (h true i) + when (Z (N.site i).second) (h false i))

share-tests : (z p q : Bool) (a b : ℕ) → when z (when p a + when q b) ≡ when p (when z a) + when q (when z b)
share-tests true p q a b = refl
share-tests false p q a b = omega (arith, when-zero p, when-zero q)

at-depots : (Z : Depots) (c : Bool) (f s a b : ℕ) → f < 64 → s < 64
    → sum (λ d. when (Z d) (when c (when (eqb f d) a + when (eqb s d) b))) 64 ≡ when c (when (Z f) a + when (Z s) b)
at-depots Z true f s a b hf hs =
    sum-cong _ (λ d. when (eqb f d) (when (Z d) a) + when (eqb s d) (when (Z d) b)) 64 (λ d l. share-tests (Z d) (eqb f d) (eqb s d) a b)
    ∙ sum-add _ _ 64
    ∙ ap₂ ◌+◌ (sum-pick (λ d. when (Z d) a) f 64 hf) (sum-pick (λ d. when (Z d) b) s 64 hs)
at-depots Z false f s a b hf hs = sum-zero _ 64 (λ d l. when-zero (Z d))

pub counts-mono : (S B Z H : Depots) (s : Site) → Z ⊆ S → H ⊆ (S ∪ B) → T (counts Z H s) → T (counts S B s)
counts-mono S B Z H s z k =
    and_mono (within (Z ∪ H) s) (within (S ∪ B) s) (touches Z s) (touches S s)
    (and_mono ((Z ∪ H) f) ((S ∪ B) f) ((Z ∪ H) e) ((S ∪ B) e) (up f) (up e))
    (λ t. ⊎_elim (λ p. or_l (S f) (S e) (z f p)) (λ p. or_r (S f) (S e) (z e p)) (or_cases (Z f) (Z e) t))
  where
    f : ℕ
    f = s.first

    e : ℕ
    e = s.second

    up : (d : ℕ) → T (Z d || H d) → T (S d || B d)
    up d t = ⊎_elim (λ p. or_l (S d) (B d) (z d p)) (k d) (or_cases (Z d) (H d) t)

share-at : (z k : Bool) (a : ℕ) → T (z || k) → (T k → a ≡ 0) → a ≤ when z a
share-at true k a t f = le_refl a
share-at false k a t f = le_of_eq (f t)

when-mul : (z : Bool) (n c w : ℕ) → (T z → n ≡ c * w) → when z n ≡ when z c * w
when-mul true n c w e = e tt
when-mul false n c w e = omega arith

module _ (N : Network) (ok : Valid N) (B S : Depots) (h : Bool → ℕ → ℕ) where
  pub loads-by-site : (Z : Depots) → loads_of N B S h Z ≡ sum (shares_at N B S h Z) N.count
  unfolding loads_of load_of shares_at
  loads-by-site Z =
      sum-cong _ _ 64 (λ d l. sym (sum-when (Z d) _ N.count))
      ∙ sum-swap _ 64 N.count
      ∙ sum-cong _ _ N.count
      (λ i l. at-depots Z (counts S B (N.site i)) _ _ (h true i) (h false i) (ok.small _ (ok.first-listed i l)) (ok.small _ (ok.second-listed i l)))

  -- the loads of Z where each is its depot's crews times w
  pub loads-level : (Z : Depots) (w : ℕ) → ((d : ℕ) → T (Z d) → load_of N B S h d ≡ N.crews d * w) → loads_of N B S h Z ≡ size N Z * w
  unfolding loads_of size weigh
  loads-level Z w e = sum-cong _ _ 64 (λ d l. when-mul (Z d) _ (N.crews d) w (e d)) ∙ sum-mul _ w 64

  module _ (v : Spread N B S h) where
    -- the litres of Z given H, at S's scale, are among what the depots of Z have, if those of H have no part in them
    module _ (Z H : Depots) (z : Z ⊆ S) (k : H ⊆ (S ∪ B))
        (free : (e : Bool) (i : ℕ) → i < N.count → T (counts Z H (N.site i)) → T (H (end e (N.site i))) → h e i ≡ 0) where
      pub site-bound : (i : ℕ) → i < N.count → when (counts Z H (N.site i)) (N.site i).litres * size N S ≤ shares_at N B S h Z i
      unfolding shares_at
      site-bound i l = ⊎_elim on off (T? (counts Z H s))
        where
          s : Site
          s = N.site i

          off : (T (counts Z H s) → ⊥) → when (counts Z H s) s.litres * size N S ≤ shares_at N B S h Z i
          off p = rw (when-off (counts Z H s) s.litres p) (omega arith)

          on : T (counts Z H s) → when (counts Z H s) s.litres * size N S ≤ shares_at N B S h Z i
          on t =
              let c = counts-mono S B Z H s z k t in
              let w = within_end (Z ∪ H) s (and_l (within (Z ∪ H) s) (touches Z s) t) in
              rw (when-on (counts Z H s) s.litres t, when-on (counts S B s) (when (Z s.first) (h true i) + when (Z s.second) (h false i)) c)
              (omega (
                arith,
                v.whole i l c,
                share-at (Z s.first) (H s.first) (h true i) (w true) (free true i l t),
                share-at (Z s.second) (H s.second) (h false i) (w false) (free false i l t),
              ))

      pub litres-≤-loads : litres N Z H * size N S ≤ loads_of N B S h Z
      unfolding litres
      litres-≤-loads =
          le_trans (le_of_eq (sym (sum-mul _ (size N S) N.count)))
          (le_trans (sum_mono _ _ N.count site-bound) (le_of_eq (sym (loads-by-site Z))))

      -- strictly where they have more of one site
      pub litres-<-loads : (i : ℕ) → i < N.count → when (counts Z H (N.site i)) (N.site i).litres * size N S < shares_at N B S h Z i
          → litres N Z H * size N S < loads_of N B S h Z
      unfolding litres
      litres-<-loads i l lt =
          omega (arith, sum-mul (λ i. when (counts Z H (N.site i)) (N.site i).litres) (size N S) N.count, sum_lt _ _ N.count site-bound i l lt, loads-by-site Z)

    pub dense : ((d : ℕ) → T (S d) → load_of N B S h d ≡ N.crews d * litres N S B) → Candidate N B S → Dense N B S
    dense level x = record { candidate = x; subset = bound }
      where
        up : B ⊆ (S ∪ B)
        up d t = or_r (S d) (B d) t

        bound : (Z : Depots) → Z ⊆ S → litres N Z B * size N S ≤ litres N S B * size N Z
        bound Z z =
            omega (
              arith,
              litres-≤-loads Z B z up (λ e i l t. v.free e i l (counts-mono S B Z B (N.site i) z up t)),
              loads-level Z (litres N S B) (λ d t. level d (z d t)),
            )
