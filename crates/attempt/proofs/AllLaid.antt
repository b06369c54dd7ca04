-- All sites laid: what the pushes ask. Assumes nothing.
use mathlib.Core.Bool.{Bool, ◌&&◌, ◌||◌, false, true}
use mathlib.Core.List.{List}
use mathlib.Core.Logic.{◌⊎◌, inl, inr, ⊎_elim}
use mathlib.Core.Path.{◌∙◌, ◌≡◌, ap, refl, sym}
use Prim.Native.Nat.{◌*◌, ◌+◌, ◌-◌, ◌<◌, ◌≤◌, ℕ}
use native.Mathlib.Nat.{mul-zero}
use native.Mathlib.Omega.{arith}
use Rattle.sets.specs.Set.{Depots}
use Rattle.sets.specs.Sum.{when}
use Rattle.sets.proofs.Test.{when-≤}
use Rattle.density.specs.Network.{counts}
use Rattle.residual.specs.Array.{arc_load, at}
use Rattle.residual.specs.Search.{Paired, reverse}
use Rattle.residual.proofs.Laws.{below?, reverse-first, reverse-second, sides}
use Rattle.attempt.specs.Lay.{Laying, Ready}
use Rattle.attempt.specs.Outcome.{brings, site_in}
use Rattle.attempt.proofs.Laid.{Laid}
use Rattle.attempt.proofs.Laws.{arc-load, both_false, not-both, not_so}

-- an arc is the first or the second of a site
pub record Side (j : ℕ) : Type 0 where
  pub site : ℕ
  pub is : site < 512
  pub which : ((j ≡ site) × (reverse j ≡ 512 + site)) ⊎ ((j ≡ 512 + site) × (reverse j ≡ site))

pub side-first : (i : ℕ) → i < 512 → reverse i ≡ 512 + i
side-first i h = reverse-first i h ∙ omega arith

pub side-second : (i : ℕ) → i < 512 → reverse (512 + i) ≡ i
side-second i h = reverse-second (512 + i) (omega arith) ∙ omega arith

pub side : (j : ℕ) → j < 1024 → Side j
side j h = ⊎_elim
    (λ l. record { site = j; is = l; which = inl (refl, side-first j l) })
    (λ l. record { site = j - 512; is = omega arith; which = inr (omega arith, reverse-second j l) })
    (sides j)

counted-first : (sa sb ba bb : Bool) → sa ≡ true → (sb ≡ true) ⊎ (bb ≡ true) → (((sa || ba) && (sb || bb)) && (sa || sb)) ≡ true
counted-first true true ba bb e t = refl
counted-first true false ba true e t = refl
counted-first true false ba false e t = absurd (⊎_elim (λ z. not-both _ z refl) (λ z. not-both _ z refl) t)
counted-first false sb ba bb e t = absurd (not-both _ e refl)

counted-second : (sa sb ba bb : Bool) → sb ≡ true → (sa ≡ true) ⊎ (ba ≡ true) → (((sa || ba) && (sb || bb)) && (sa || sb)) ≡ true
counted-second true true ba bb e t = refl
counted-second false true true bb e t = refl
counted-second false true false bb e t = absurd (⊎_elim (λ z. not-both _ z refl) (λ z. not-both _ z refl) t)
counted-second sa false ba bb e t = absurd (not-both _ e refl)

module _ {ends litres : List ℕ} {s b : Depots} {q : ℕ} {share₀ : List ℕ} {w : ℕ} {share load : List ℕ} (r : Ready ends litres s b q)
    (l : Laying ends litres s b q share₀ w share load 512) where
  -- where a site touches the set, its shares are by the rule
  parts : (k : ℕ) → k < 512 → at ends k < 64 → (s (at ends k) ≡ true) ⊎ (s (at ends (512 + k)) ≡ true)
      → (at share k ≡ when (s (at ends k)) (q * brings ends litres s b k)) × (at share (512 + k) ≡ q * brings ends litres s b k - when (s (at ends k)) (q * brings ends litres s b k))
  parts k h e t = l.laid k h e (⊎_elim
      (λ z. ap (λ (x : Bool). (x && (b (at ends (512 + k))))) (not_so _ (λ y. not-both _ z (r.apart _ e y))))
      (λ z. both_false (b (at ends k)) (b (at ends (512 + k))) (not_so _ (λ y. not-both _ z (r.apart _ (r.listed.pair k h e) y))))
      t)

  lay-sums : (d : ℕ) → d < 64 → s d ≡ true → at load d ≡ arc_load ends d share
  lay-sums d h z =
      l.loads d h z ∙ sym (arc-load ends share d)

  first-beyond : (k : ℕ) → k < 512 → at ends k < 64 → s (at ends k) ≡ true → s (at ends (512 + k)) ≡ false → b (at ends (512 + k)) ≡ false → at share k ≡ 0
  unfolding brings
  first-beyond k h e sa sb bb = (parts k h e (inl sa)).0 ∙ rw (sa, sb, bb) (mul-zero q)

  second-beyond : (k : ℕ) → k < 512 → at ends k < 64 → s (at ends (512 + k)) ≡ true → s (at ends k) ≡ false → b (at ends k) ≡ false → at share (512 + k) ≡ 0
  unfolding brings
  second-beyond k h e sb sa ba = (parts k h e (inr sb)).1 ∙ rw (sa, sb, ba) (omega (arith, mul-zero q))

  first-grouped : (k : ℕ) → k < 512 → at ends k < 64 → s (at ends k) ≡ false → s (at ends (512 + k)) ≡ true → at share k ≡ 0
  first-grouped k h e sa sb = (parts k h e (inr sb)).0 ∙ rw sa refl

  pub second_none : (k : ℕ) → k < 512 → at ends k < 64 → s (at ends k) ≡ true → at share (512 + k) ≡ 0
  second_none k h e sa = (parts k h e (inl sa)).1 ∙ rw sa (omega arith)

  -- a site that counts is there whole
  site-whole : (k : ℕ) → k < 512 → at ends k < 64 → counts s b (site_in ends litres k) ≡ true → (s (at ends k) ≡ true) ⊎ (s (at ends (512 + k)) ≡ true) → at share k + at share (512 + k) ≡ q * at litres k
  unfolding brings
  site-whole k h e c t = omega (
    arith,
    (parts k h e t).0,
    (parts k h e t).1,
    when-≤ (s (at ends k)) (q * when (counts s b (site_in ends litres k)) (at litres k)),
    ap (λ (x : Bool). q * when x (at litres k)) c,
  )

  low : (k : ℕ) → k < 512 → at ends (512 + k) < 64 → at ends k < 64
  low k h e = ⊎_elim (λ z. z) (λ z. absurd (omega (arith, r.listed.none k h z))) (below? (at ends k) 64)

  pub lay-laid : Paired ends → ((j : ℕ) → j < 1024 → at ends j ≤ 64) → ((j : ℕ) → j < 1024 → 64 ≤ at ends j → at share₀ j ≡ 0) → Laid ends litres share load s b q
  lay-laid paired most blank = record {
    paired = paired;
    ends-most = most;
    void = r.listed.void;
    blank = λ j h e. let t = side j h in ⊎_elim
        (λ z. omega (arith, blank j h e, ap (at share) z.0, ap (at share₀) z.0, (l.kept t.site t.is (λ y. absurd (omega (arith, ap (at ends) z.0)))).0))
        (λ z. omega (
          arith,
          blank j h e,
          ap (at share) z.0,
          ap (at share₀) z.0,
          (l.kept t.site t.is (λ y. absurd (omega (arith, ap (at ends) z.0, r.listed.pair t.site t.is y)))).1,
        ))
        t.which;
    sums = lay-sums;
    beyond = λ j h e sj so bo. let t = side j h in ⊎_elim
        (λ z. rw z.0 (first-beyond t.site t.is (rw z.0 at e) (rw z.0 at sj) (rw z.1 at so) (rw z.1 at bo)))
        (λ z. rw z.0 (second-beyond t.site t.is (low t.site t.is (rw z.0 at e)) (rw z.0 at sj) (rw z.1 at so) (rw z.1 at bo)))
        t.which;
    grouped = λ j h e sj so. let t = side j h in ⊎_elim
        (λ z. rw z.0 (first-grouped t.site t.is (rw z.0 at e) (rw z.0 at sj) (rw z.1 at so)))
        (λ z. rw z.0 (second_none t.site t.is (low t.site t.is (rw z.0 at e)) (rw z.1 at so)))
        t.which;
    whole = λ j i h e f g sj t. ⊎_elim
        (λ z. let o : reverse j ≡ 512 + i = ap reverse z ∙ side-first i g in
        rw (o, z) (site-whole i g (rw z at e) (counted-first _ _ _ _ (rw z at sj) (rw o at t)) (inl (rw z at sj))))
        (λ z. let o : reverse j ≡ i = ap reverse z ∙ side-second i g in
        rw (o, z) (omega (arith, site-whole i g (low i g (rw z at e)) (counted-second _ _ _ _ (rw z at sj) (rw o at t)) (inr (rw z at sj)))))
        f;
  }
