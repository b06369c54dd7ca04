-- What is laid before the pushes, and that the pushes keep it. Assumes nothing.
use mathlib.Core.Bool.{Bool, false, true}
use mathlib.Core.List.{List}
use mathlib.Core.Logic.{◌⊎◌, inl, inr, ⊎_elim}
use mathlib.Core.Path.{◌∙◌, ◌≡◌, ap, refl}
use Prim.Native.Nat.{◌*◌, ◌+◌, ◌<◌, ◌≤◌, ℕ}
use native.Mathlib.Omega.{arith}
use Rattle.sets.specs.Set.{Depots}
use Rattle.residual.specs.Array.{arc_load, at}
use Rattle.residual.specs.Rounds.{Relaxed}
use Rattle.residual.specs.Search.{Paired, reverse}
use Rattle.residual.proofs.Laws.{below?, reverse-lt, reverse_twice}
use Rattle.attempt.specs.Outcome.{Outcome}

-- The sites of the set s, given b, are laid at the scale q: each one whole on depots of s, no other site on them.
pub record Laid (ends litres share load : List ℕ) (s b : Depots) (q : ℕ) : Type 0 where
  pub paired : Paired ends
  pub ends-most : (j : ℕ) → j < 1024 → at ends j ≤ 64
  pub void : (i : ℕ) → i < 512 → 64 ≤ at ends i → at litres i ≡ 0
  pub blank : (j : ℕ) → j < 1024 → 64 ≤ at ends j → at share j ≡ 0
  pub sums : (d : ℕ) → d < 64 → s d ≡ true → at load d ≡ arc_load ends d share
  pub beyond : (j : ℕ) → j < 1024 → at ends j < 64 → s (at ends j) ≡ true → s (at ends (reverse j)) ≡ false → b (at ends (reverse j)) ≡ false → at share j ≡ 0
  pub grouped : (j : ℕ) → j < 1024 → at ends j < 64 → s (at ends j) ≡ false → s (at ends (reverse j)) ≡ true → at share j ≡ 0
  pub whole : (j i : ℕ) → j < 1024 → at ends j < 64 → (j ≡ i) ⊎ (j ≡ 512 + i) → i < 512 → s (at ends j) ≡ true
      → (s (at ends (reverse j)) ≡ true) ⊎ (b (at ends (reverse j)) ≡ true) → at share j + at share (reverse j) ≡ q * at litres i

-- the depots of s take part, and their target is w for each unit of weight
pub record Aimed (target rank : List ℕ) (s : Depots) (c : ℕ → ℕ) (w : ℕ) : Type 0 where
  pub inside : (d : ℕ) → d < 64 → s d ≡ true → (at rank d ≡ 64) × (at target d ≡ w * c d)
  pub outside : (d : ℕ) → d < 64 → s d ≡ false → (at rank d ≡ 65) × (at target d ≡ 0)

module _ {ends litres target rank₀ share₀ load₀ : List ℕ} {s b : Depots} {c : ℕ → ℕ} {q w n : ℕ} {rank share load : List ℕ}
    (l : Laid ends litres share₀ load₀ s b q) (a : Aimed target rank₀ s c w) (r : Relaxed ends target rank₀ share₀ load₀ n rank share load) where
  -- a depot takes part as it did before
  pub takes : (d : ℕ) → d < 64 → at rank d ≤ 64 → s d ≡ true
  takes d h e = go (s d) refl
    where
      go : (t : Bool) → s d ≡ t → s d ≡ true
      go true z = z
      go false z = absurd (omega (arith, (a.outside d h z).0, r.preserved.sides d h))

  pub leaves : (d : ℕ) → d < 64 → 64 < at rank d → (s d ≡ false) × (64 < at rank₀ d)
  leaves d h e = go (s d) refl
    where
      go : (t : Bool) → s d ≡ t → (s d ≡ false) × (64 < at rank₀ d)
      go true z = absurd (omega (arith, (a.inside d h z).0, r.preserved.sides d h))
      go false z = (z, omega (arith, (a.outside d h z).0))

  -- the share of a depot outside, and of the other end of its site, has not moved
  still : (j : ℕ) → j < 1024 → at ends j < 64 → 64 < at rank (at ends j) → (at share j ≡ at share₀ j) × (at share (reverse j) ≡ at share₀ (reverse j))
  still j h e o =
      let z : at share j ≡ at share₀ j = r.preserved.outside j h e (leaves (at ends j) e o).1 in
      (z, omega (arith, r.preserved.pairs j h))

  -- an arc's end that takes part is a depot, or the arc has no site
  none : (j : ℕ) → j < 1024 → 64 ≤ at ends j → at share j ≡ 0
  none j h e =
      let f : 64 ≤ at ends (reverse j) = ⊎_elim
      (λ z. absurd (omega (arith, l.paired.both (reverse j) (reverse-lt j h) z, ap (at ends) (reverse_twice j h)))) (λ z. z) (below? (at ends (reverse j)) 64) in
      r.preserved.own j h (omega (arith, l.ends-most j h, l.ends-most (reverse j) (reverse-lt j h))) ∙ l.blank j h e

  pub outcome : Outcome ends litres share load rank b c q w
  outcome = record {
    paired = l.paired;
    shares = r.preserved.loaded.shares;
    sums = λ d h e. omega (arith, r.preserved.follows d h, l.sums d h (takes d h e));
    low = λ d h e. omega (arith, r.low d h e, (a.inside d h (takes d h (omega arith))).1);
    high = λ d h e. ⊎_elim
        (λ z.
        let i = a.inside d h (takes d h (omega arith)) in
        absurd (omega (arith, r.high d h (omega (arith, i.0)) (omega (arith, i.1)))))
        (λ z. z)
        (below? (at load d) (w * c d));
    closed = r.closed;
    onward = λ d h e. ⊎_elim (λ z. inl (omega (arith, (a.inside d h (takes d h (omega arith))).1))) inr (r.onward d h e);
    blank = none;
    void = l.void;
    beyond = λ j h e f g. ⊎_elim
        (λ z. let v : at ends (reverse j) < 64 = l.paired.both j h z in
        omega (
          arith,
          (still (reverse j) (reverse-lt j h) v f).1,
          ap (at share) (reverse_twice j h),
          ap (at share₀) (reverse_twice j h),
          l.beyond j h z (takes _ z e) (leaves _ v f).0 g,
        ))
        (λ z. none j h z)
        (below? (at ends j) 64);
    grouped = λ j h e f. ⊎_elim
        (λ z. (still j h z e).0 ∙ l.grouped j h z (leaves _ z e).0 (takes _ (l.paired.both j h z) f))
        (λ z. none j h z)
        (below? (at ends j) 64);
    whole = λ j i h e f g m o. r.preserved.pairs j h ∙ l.whole j i h e f g (takes _ e m) (⊎_elim (λ z. inl (takes _ (l.paired.both j h e) z)) inr o);
  }
