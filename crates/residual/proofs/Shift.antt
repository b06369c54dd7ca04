-- Moving a number from one place of an array to another. Assumes nothing.
use mathlib.Core.Path.{◌≡◌, sym, ap, ◌∙◌}
use mathlib.Core.List.{List}
use mathlib.Core.Logic.{◌⊎◌, inl, inr, ⊎_elim}
use Prim.Native.Nat.{ℕ, ◌+◌, ◌-◌, ◌≤◌, ◌<◌}
use native.Mathlib.Decide.{ℕ_discrete}
use native.Mathlib.Omega.{arith}
use lib.ListN.{length, set, length-set}
use lib.Seq.{get_or-set_same, get_or-set_other}
use Rattle.sets.specs.Sum.{sum}
use Rattle.residual.specs.Array.{at, total_load}
use Rattle.residual.specs.Search.{reverse}
use Rattle.residual.specs.Moves.{shift, Room, Loaded, Movable}
use Rattle.residual.proofs.Laws.{sum-set, sides, reverse-first, reverse-second, reverse-lt}

module _ (xs : List ℕ) (i k m : ℕ) (hi : i < length xs) (hk : k < length xs) (apart : i ≡ k → ⊥) where
  pub shift-length : length (shift xs i k m) ≡ length xs
  shift-length = simp length-set

  kept : at (set xs i (at xs i - m)) k ≡ at xs k
  kept = get_or-set_other xs i k (at xs i - m) 0 (λ e. apart (sym e))

  pub shift_from : at (shift xs i k m) i ≡ at xs i - m
  shift_from = get_or-set_other (set xs i (at xs i - m)) k i _ 0 apart ∙ get_or-set_same xs i (at xs i - m) 0 hi

  pub shift-to : at (shift xs i k m) k ≡ at xs k + m
  shift-to = get_or-set_same (set xs i (at xs i - m)) k _ 0 (rw length-set hk) ∙ ap (λ (x : ℕ). x + m) kept

  pub shift-other : (d : ℕ) → (d ≡ i → ⊥) → (d ≡ k → ⊥) → at (shift xs i k m) d ≡ at xs d
  shift-other d di dk = get_or-set_other (set xs i (at xs i - m)) k d _ 0 dk ∙ get_or-set_other xs i d (at xs i - m) 0 di

  -- a sum changes by its two terms
  pub shift-sum : (f : ℕ → ℕ → ℕ) (n : ℕ) → length xs ≡ n
      → sum (λ d. f d (at (shift xs i k m) d)) n + f i (at xs i) + f k (at xs k) ≡ sum (λ d. f d (at xs d)) n + f i (at xs i - m) + f k (at xs k + m)
  shift-sum f n e =
      omega (
        arith,
        sum-set f xs i (at xs i - m) n hi (omega arith),
        sum-set f (set xs i (at xs i - m)) k (at (set xs i (at xs i - m)) k + m) n (rw length-set hk) (omega arith),
        ap (f k) kept,
        ap (λ (x : ℕ). f k (x + m)) kept,
      )

  -- where a place is after a shift
  pub shifted : (d : ℕ) → (d ≡ i) ⊎ ((d ≡ k) ⊎ ((d ≡ i → ⊥) × (d ≡ k → ⊥)))
  shifted d = go (ℕ_discrete d i) (ℕ_discrete d k)
    where
      go : Dec (d ≡ i) → Dec (d ≡ k) → (d ≡ i) ⊎ ((d ≡ k) ⊎ ((d ≡ i → ⊥) × (d ≡ k → ⊥)))
      go (yes e) z = inl e
      go (no e) (yes z) = inr (inl z)
      go (no e) (no z) = inr (inr (e, z))

-- two depots together have no more than all
pub two : (load : List ℕ) (i k : ℕ) → length load ≡ 64 → i < 64 → k < 64 → (i ≡ k → ⊥) → at load i + at load k ≤ total_load load
two load i k e hi hk apart =
    omega (
      arith,
      sum-set (λ d x. x) load i 0 64 (omega arith) hi,
      sum-set (λ d x. x) (set load i 0) k 0 64 (rw length-set (omega arith)) hk,
      get_or-set_other load i k 0 0 (λ z. apart (sym z)),
    )

pub reverse-apart : (j : ℕ) → j < 1024 → j ≡ reverse j → ⊥
reverse-apart j h e = ⊎_elim (λ l. omega (arith, reverse-first j l)) (λ g. omega (arith, reverse-second j g)) (sides j)

module _ {ends share load : List ℕ} {j m : ℕ} (l : Loaded ends share load) (v : Movable ends share load j m) where
  pub room-share : Room share j (reverse j) m
  room-share = record {
    from = omega (arith, v.arc, l.shares);
    to = omega (arith, reverse-lt j v.arc, l.shares);
    apart = reverse-apart j v.arc;
    has = v.share-has;
    fits = omega (arith, l.sites j v.arc, v.share-has);
  }

  pub room-load : Room load (at ends j) (at ends (reverse j)) m
  room-load = record {
    from = omega (arith, v.from, l.loads);
    to = omega (arith, v.to, l.loads);
    apart = v.apart;
    has = v.load_has;
    fits = omega (arith, two load (at ends j) (at ends (reverse j)) l.loads v.from v.to v.apart, l.fits, v.load_has);
  }
