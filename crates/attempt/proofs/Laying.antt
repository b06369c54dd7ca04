-- The loop that lays the sites. Assumes nothing.
use mathlib.Core.Bool.{Bool, ◌&&◌, ◌||◌, false, true}
use mathlib.Core.List.{List}
use mathlib.Core.Logic.{⊎_elim}
use mathlib.Core.Path.{◌∙◌, ◌≡◌, ap, ap₂, refl, sym}
use Prim.Native.Nat.{◌*◌, ◌+◌, ◌-◌, ◌<◌, ◌^◌, ◌≤◌, ℕ}
use native.Mathlib.Nat.{mul-add, mul-le-mul_left}
use native.Mathlib.Omega.{arith}
use borrow.Author.Tests.{eq-eqb, ne_eqb}
use lib.Dec.{eqb}
use lib.ListN.{length, length-set, set}
use lib.Seq.{get_or-set_other, get_or-set_same}
use Rattle.sets.specs.Set.{Depots}
use Rattle.sets.specs.Sum.{sum, when}
use Rattle.sets.proofs.Sum.{sum-cong, sum-grows, sum_mono, sum_more}
use Rattle.sets.proofs.Test.{when-zero, when-≤}
use Rattle.density.specs.Network.{counts}
use Rattle.residual.specs.Array.{at, total_load}
use Rattle.residual.proofs.Laws.{below?, stored}
use Rattle.lay_on.specs.Raise.{raise}
use Rattle.lay_on.proofs.Laws.{raise-total}
use Rattle.attempt.specs.Lay.{Laying, Ready, SiteLaid}
use Rattle.attempt.specs.Outcome.{brings, site_in}
use Rattle.attempt.proofs.Laws.{both_true, not-both}

held-not : (ends : List ℕ) (d j x : ℕ) → (at ends j ≡ d → ⊥) → when (eqb (at ends j) d) x ≡ 0
held-not ends d j x e = rw (ne_eqb (at ends j) d e)

raise-at : (xs : List ℕ) (i m d : ℕ) → i < length xs → at (raise xs i m) d ≡ at xs d + when (eqb i d) m
raise-at xs i m d h = ⊎_elim
    (λ w. rw (eq-eqb i d (sym w.0)) (w.1 ∙ ap (λ (x : ℕ). at xs x + m) (sym w.0)))
    (λ w. rw (ne_eqb i d (λ e. w.0 (sym e))) (omega (arith, w.1)))
    (stored xs i (at xs i + m) d h)

pub brings-most : (ends litres : List ℕ) (s b : Depots) (i : ℕ) → brings ends litres s b i ≤ at litres i
unfolding brings
brings-most ends litres s b i = when-≤ (counts s b (site_in ends litres i)) (at litres i)

-- the litres that a site brings, by the test whether the set carries it
pub brings-is : (ends litres : List ℕ) (s b : Depots) (i : ℕ) {w : ℕ} {t : Bool}
    → t ≡ (((s (at ends i) || b (at ends i)) && (s (at ends (512 + i)) || b (at ends (512 + i)))) && (s (at ends i) || s (at ends (512 + i))))
    → w ≡ when t (at litres i) → w ≡ brings ends litres s b i
unfolding brings
brings-is ends litres s b i e f = f ∙ ap (λ (t : Bool). when t (at litres i)) e

-- the two shares of a site stored
module _ (share : List ℕ) (i f g : ℕ) (size : length share ≡ 1024) (h : i < 512) where
  store-first : at (set (set share i f) (512 + i) g) i ≡ f
  store-first = get_or-set_other (set share i f) (512 + i) i g 0 (omega arith) ∙ get_or-set_same share i f 0 (omega arith)

  store-second : at (set (set share i f) (512 + i) g) (512 + i) ≡ g
  store-second = get_or-set_same (set share i f) (512 + i) g 0 (rw length-set (omega arith))

  store_other : (k : ℕ) → (k ≡ i → ⊥) → (k ≡ 512 + i → ⊥) → at (set (set share i f) (512 + i) g) k ≡ at share k
  store_other k a c = get_or-set_other (set share i f) (512 + i) k g 0 c ∙ get_or-set_other share i k f 0 a

module _ {ends litres : List ℕ} {s b : Depots} {q : ℕ} (r : Ready ends litres s b q) where
  -- a site between grouped depots brings nothing, nor does one that is no site
  old-brings : (i : ℕ) → i < 512 → (at ends i < 64 → (b (at ends i) && b (at ends (512 + i))) ≡ true) → brings ends litres s b i ≡ 0
  unfolding brings
  old-brings i h e = ⊎_elim
      (λ l. let z = both_true _ _ (e l) in
      rw (r.apart (at ends i) l z.0, r.apart (at ends (512 + i)) (r.listed.pair i h l) z.1, z.0, z.1) refl)
      (λ l. rw (r.listed.void i h l) (when-zero (counts s b (site_in ends litres i))))
      (below? (at ends i) 64)

  -- and puts nothing on a depot of the set
  old-held : (i d x y : ℕ) → i < 512 → d < 64 → s d ≡ true → (at ends i < 64 → (b (at ends i) && b (at ends (512 + i))) ≡ true)
      → when (eqb (at ends i) d) x + when (eqb (at ends (512 + i)) d) y ≡ 0
  old-held i d x y h l z e = ⊎_elim
      (λ m. let w : (b (at ends i) ≡ true) × (b (at ends (512 + i)) ≡ true) = both_true _ _ (e m) in
      omega (
        arith,
        held-not ends d i x (λ g. not-both _ z (ap s (sym g) ∙ r.apart (at ends i) m w.0)),
        held-not ends d (512 + i) y (λ g. not-both _ z (ap s (sym g) ∙ r.apart (at ends (512 + i)) (r.listed.pair i h m) w.1)),
      ))
      (λ m. omega (arith, held-not ends d i x (omega arith), held-not ends d (512 + i) y (omega (arith, r.listed.none i h m))))
      (below? (at ends i) 64)

  -- what is laid so far, and the next site, fit
  module _ {share₀ : List ℕ} {w : ℕ} {share load : List ℕ} {i : ℕ} (l : Laying ends litres s b q share₀ w share load i) (h : i < 512) where
    below : w + at litres i ≤ sum (at litres) 512
    below = omega (arith, l.litre, sum_mono _ _ i (λ k m. brings-most ends litres s b k), sum_more (at litres) i, sum-grows (at litres) 512 (i + 1) (omega arith))

    pub lay-fits : total_load load + q * at litres i < 2 ^ 64
    lay-fits = omega (arith, l.sum_is, sym (mul-add q w (at litres i)), r.fits, mul-le-mul_left q below)

    pub lay-total : {x : ℕ} {share' load' : List ℕ} → SiteLaid ends litres s b q i share load x share' load' → w + x < 2 ^ 64
    lay-total o = omega (arith, below, r.all, ⊎_elim (λ e. le-of-eq-zero e.2) (λ e. le_of_eq e.2) o)
      where
        le-of-eq-zero : {x : ℕ} → x ≡ 0 → x ≤ at litres i
        le-of-eq-zero e = omega arith

        le_of_eq : {x : ℕ} → x ≡ brings ends litres s b i → x ≤ at litres i
        le_of_eq e = omega (arith, brings-most ends litres s b i)

  pub lay-goes : {share₀ : List ℕ} {w : ℕ} {share load : List ℕ} {i x : ℕ} {share' load' : List ℕ} → Laying ends litres s b q share₀ w share load i → i < 512
      → SiteLaid ends litres s b q i share load x share' load' → Laying ends litres s b q share₀ (w + x) share' load' (i + 1)
  lay-goes {share₀} {w} {share} {load} {i} {x} {share'} {load'} l h = ⊎_elim old new
    where
      old : (share' ≡ share) × (load' ≡ load) × (x ≡ 0) × ((at ends i < 64 → (b (at ends i) && b (at ends (512 + i))) ≡ true))
          → Laying ends litres s b q share₀ (w + x) share' load' (i + 1)
      old e = rw (e.0, e.1, e.2) (record {
        shares = l.shares;
        sizes = l.sizes;
        low = omega arith;
        sum_is = l.sum_is ∙ ap (λ (y : ℕ). q * y) (omega arith);
        litre = omega (arith, l.litre, sum_more (brings ends litres s b) i, old-brings i h e.3);
        loads = λ d m z. omega (arith, l.loads d m z, sum_more (λ k. when (eqb (at ends k) d) (at share k) + when (eqb (at ends (512 + k)) d) (at share (512 + k))) i, old-held i d (at share i) (at share (512 + i)) h m z e.3);
        kept = l.kept;
        laid = λ k m n z. ⊎_elim (λ y. l.laid k y n z) (λ y. let k≡i : k ≡ i = omega arith in absurd (not-both _ (e.3 (rw k≡i at n)) (rw k≡i at z))) (below? k i);
      })

      new : (at ends i < 64) × ((b (at ends i) && b (at ends (512 + i))) ≡ false) × (x ≡ brings ends litres s b i)
          × (share' ≡ set (set share i (when (s (at ends i)) (q * x))) (512 + i) (q * x - when (s (at ends i)) (q * x)))
          × (load' ≡ raise (raise load (at ends i) (when (s (at ends i)) (q * x))) (at ends (512 + i)) (q * x - when (s (at ends i)) (q * x)))
          → Laying ends litres s b q share₀ (w + x) share' load' (i + 1)
      new e = rw (e.3, e.4) (record {
        shares = simp length-set l.shares;
        sizes = simp length-set l.sizes;
        low = omega arith;
        sum_is = omega (arith, raise-total (raise load u f) v g (simp length-set l.sizes) (omega (arith, r.listed.pair i h e.0)), raise-total load u f l.sizes e.0, l.sum_is, mul-add q w x, when-≤ (s u) (q * x));
        litre = omega (arith, l.litre, sum_more (brings ends litres s b) i, e.2);
        loads = λ d m z. omega (arith, raise-at (raise load u f) v g d (rw length-set v-in), raise-at load u f d u-in, l.loads d m z, sum_more (on d) i, before d, here d);
        kept = λ k m z.
            let k≢i : k ≡ i → ⊥ = λ k≡i. not-both _ (rw (← k≡i) (z (rw k≡i e.0))) e.1 in (
              store_other share i f g l.shares h k k≢i (omega arith) ∙ (l.kept k m z).0,
              store_other share i f g l.shares h (512 + k) (omega arith) (omega arith) ∙ (l.kept k m z).1,
            );
        laid = λ k m n z. ⊎_elim
            (λ y. (
              store_other share i f g l.shares h k (omega arith) (omega arith) ∙ (l.laid k y n z).0,
              store_other share i f g l.shares h (512 + k) (omega arith) (omega arith) ∙ (l.laid k y n z).1,
            ))
            (λ y. let k≡i : k ≡ i = omega arith in rw (k≡i, ← e.2) (store-first share i f g l.shares h, store-second share i f g l.shares h))
            (below? k i);
      })
        where
          u : ℕ
          u = at ends i

          v : ℕ
          v = at ends (512 + i)

          f : ℕ
          f = when (s (at ends i)) (q * x)

          g : ℕ
          g = q * x - when (s (at ends i)) (q * x)

          u-in : at ends i < length load
          u-in = omega (arith, e.0, l.sizes)

          v-in : at ends (512 + i) < length load
          v-in = omega (arith, r.listed.pair i h e.0, l.sizes)

          on : ℕ → ℕ → ℕ
          on d k = when (eqb (at ends k) d) (at (set (set share i f) (512 + i) g) k) + when (eqb (at ends (512 + k)) d) (at (set (set share i f) (512 + i) g) (512 + k))

          before : (d : ℕ) → sum (on d) i ≡ sum (λ k. when (eqb (at ends k) d) (at share k) + when (eqb (at ends (512 + k)) d) (at share (512 + k))) i
          before d = sum-cong _ _ i (λ k m. rw (store_other share i f g l.shares h k (omega arith) (omega arith), store_other share i f g l.shares h (512 + k) (omega arith) (omega arith)) refl)

          here : (d : ℕ) → on d i ≡ when (eqb u d) f + when (eqb v d) g
          here d = ap₂ (λ (y z : ℕ). when (eqb (at ends i) d) y + when (eqb (at ends (512 + i)) d) z) (store-first share i f g l.shares h) (store-second share i f g l.shares h)

  pub lay-ends : {share₀ : List ℕ} {w : ℕ} {share load : List ℕ} {i : ℕ} → Laying ends litres s b q share₀ w share load i → 512 ≤ i → Laying ends litres s b q share₀ w share load 512
  lay-ends {i = i} l h = let z : i ≡ 512 = omega (arith, l.low) in rw z at l
