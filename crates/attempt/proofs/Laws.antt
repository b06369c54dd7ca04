-- Sums and tests of the maker's arrays. Assumes nothing.
use mathlib.Core.Bool.{Bool, ◌&&◌, false, true}
use mathlib.Core.List.{List}
use mathlib.Core.Path.{◌∙◌, ◌≡◌, refl, sym}
use Prim.Native.Nat.{◌*◌, ◌+◌, ◌<◌, ◌^◌, ◌≤◌, suc, zero, ℕ}
use native.Mathlib.Nat.{mul-le-mul_left}
use native.Mathlib.Omega.{arith}
use lib.Dec.{eqb}
use lib.ListN.{replicate}
use Rattle.sets.specs.Sum.{sum, when}
use Rattle.sets.proofs.Sum.{sum-add, sum-split}
use Rattle.sets.proofs.Test.{fails, is_false, is_true, passes, when-≤}
use Rattle.residual.specs.Array.{arc_load, at}

pub not-both : (t : Bool) → t ≡ true → t ≡ false → ⊥
not-both t a b = fails t b (passes t a)

pub not_so : (t : Bool) → (t ≡ true → ⊥) → t ≡ false
not_so t h = is_false t (λ u. h (is_true t u))

pub both_true : (a b : Bool) → (a && b) ≡ true → (a ≡ true) × (b ≡ true)
both_true true b e = (refl, e)
both_true false b e = absurd (not-both _ e refl)

pub both_false : (a b : Bool) → b ≡ false → (a && b) ≡ false
both_false true b e = e
both_false false b e = refl

pub mul-when : (q x : ℕ) (t : Bool) → q * when t x ≤ q * x
mul-when q x t = mul-le-mul_left q (when-≤ t x)

-- the litres that are brought fit where all fit
pub brought-fits : (n q x : ℕ) (t : Bool) {w : ℕ} → w ≡ when t x → n + q * x < 2 ^ 64 → n + q * w < 2 ^ 64
brought-fits n q x t e h = rw e (omega (arith, mul-when q x t))

pub zero-at : (n d : ℕ) → at (replicate n 0) d ≡ 0
zero-at zero d = refl
zero-at (suc n) zero = refl
zero-at (suc n) (suc d) = zero-at n d

-- what a depot has on its arcs, site by site
pub arc-load : (ends share : List ℕ) (d : ℕ)
    → arc_load ends d share ≡ sum (λ i. when (eqb (at ends i) d) (at share i) + when (eqb (at ends (512 + i)) d) (at share (512 + i))) 512
arc-load ends share d =
    sum-split (λ j. when (eqb (at ends j) d) (at share j)) 512 512
    ∙ sym (sum-add (λ i. when (eqb (at ends i) d) (at share i)) (λ i. when (eqb (at ends (512 + i)) d) (at share (512 + i))) 512)
