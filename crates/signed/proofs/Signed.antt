-- Signed machine numbers: a number read back from its bits, and the negation of a small one. Assumes nothing.
use Prim.Native.Nat.{ℕ, zero, suc, ◌<◌, ◌^◌}
use mathlib.Core.Path.{◌≡◌, sym, ap, subst, ◌∙◌}
use native.Mathlib.Omega.{arith}
use lib.IntN.{ℤ, pos, neg_ℤ, ◌-ℤ◌, +ℤ_idl}
use lib.Signed.{mag}
use mir.Syntax.{w64}
use mir.Val.{SFits, to_z, of_z}
use mir.Facts.{to_z_pos, to_z-of_z}

pub read_back : {z : ℤ} → mag z < 2 ^ 63 → to_z w64 (of_z w64 z) ≡ z
read_back l = to_z-of_z {w = w64} (record { sfits = l })

fits : (n : ℕ) → n < 2 ^ 63 → SFits w64 (neg_ℤ (pos n))
fits zero l = record { sfits = l }
fits (suc n) l = record { sfits = omega arith }

module _ {x : ℤ} {n : ℕ} (given : x ≡ pos n) (small : n < 2 ^ 63) where
  is : pos 0 -ℤ to_z w64 (of_z w64 x) ≡ neg_ℤ (pos n)
  is = ap (λ (y : ℤ). pos 0 -ℤ to_z w64 (of_z w64 y)) given ∙ ap (λ (y : ℤ). pos 0 -ℤ y) (to_z_pos w64 small) ∙ +ℤ_idl (neg_ℤ (pos n))

  pub negation-fits : SFits w64 (pos 0 -ℤ to_z w64 (of_z w64 x))
  negation-fits = subst (SFits w64) (sym is) (fits n small)

  pub negation : to_z w64 (of_z w64 (pos 0 -ℤ to_z w64 (of_z w64 x))) ≡ neg_ℤ (pos n)
  negation = to_z-of_z negation-fits ∙ is
