-- Laws of refusals. Assumes nothing.
use Prim.Native.Nat.{ℕ, ◌<◌}
use mathlib.Core.Bool.{Bool, true, false, ◌&&◌, ◌||◌}
use mathlib.Core.List.{List, [], ◌∷◌}
use mathlib.Core.Path.{◌≡◌, refl, ap}
use native.Mathlib.Omega.{arith}
use lib.Dec.{T, ltb, ltb→lt}
use Rattle.sets.proofs.Test.{and_l, and_r}
use Rattle.density.specs.Rows.{Row, row, first_row}
use Rattle.records.specs.declared.Edition.{Edition}
use Rattle.records.specs.Outcome.{Outcome, refused, passed, gate, bind}
use Rattle.records.specs.Format.{list_rows, read_list, layout_rows, read_plan}

-- no row applies
abbrev pub Clear : List Row → Type 0
Clear [] = Unit {0}
Clear (row n t ∷ rows) = (t ≡ false) × Clear rows

module _ {A : Type 0} where
  pub pass : (rows : List Row) {a : A} → Clear rows → gate rows a ≡ passed a
  unfolding first_row
  pass [] h = refl
  pass (row n t ∷ rows) h = rw h.0 (pass rows h.1)

  -- what passed: no row applies, and this was read
  pub clear : (rows : List Row) {a b : A} → gate rows a ≡ passed b → Clear rows × (a ≡ b)
  unfolding first_row
  clear [] h = (tt, cc)
  clear (row n true ∷ rows) h = let z : ◌≡◌ {A = ℕ} 0 1 = cc in absurd (omega arith)
  clear (row n false ∷ rows) h = let k = clear rows h in ((refl, k.0), k.1)

-- ---- no row has the number 0

abbrev numbered : List Row → Bool
numbered [] = true
numbered (row n t ∷ rows) = ltb 0 n && numbered rows

-- so none that refuses has
pub gate-numbered : {A : Type 0} (rows : List Row) → T (numbered rows) → (a : A) (n : ℕ) → gate rows a ≡ refused n → 0 < n
unfolding first_row
gate-numbered [] t a n h = let z : ◌≡◌ {A = ℕ} 0 1 = cc in absurd (omega arith)
gate-numbered (row m true ∷ rows) t a n h = let l = ltb→lt 0 m (and_l (ltb 0 m) (numbered rows) t) in let e : m ≡ n = cc in omega arith
gate-numbered (row m false ∷ rows) t a n h = gate-numbered rows (and_r (ltb 0 m) (numbered rows) t) a n h

pub bind-numbered : {A B : Type 0} (o : Outcome A) (f : A → Outcome B) → ((n : ℕ) → o ≡ refused n → 0 < n) → ((a : A) (n : ℕ) → f a ≡ refused n → 0 < n)
    → (n : ℕ) → bind o f ≡ refused n → 0 < n
bind-numbered (refused m) f h k n e = let z : m ≡ n = cc in h n (ap refused z)
bind-numbered (passed a) f h k n e = k a n e

pub list-numbered : (e : Edition) (places : ℕ) (s : List ℕ) (n : ℕ) → read_list e places s ≡ refused n → 0 < n
unfolding read_list
list-numbered e places s = gate-numbered (list_rows e places s) tt _

pub plan-numbered : (e : Edition) (sites : ℕ) (s : List ℕ) (n : ℕ) → read_plan e sites s ≡ refused n → 0 < n
unfolding read_plan
plan-numbered e sites s = gate-numbered (layout_rows e sites s) tt _

pub or-false : (a b : Bool) → (a || b) ≡ false → (a ≡ false) × (b ≡ false)
or-false true b h = let z : ◌≡◌ {A = ℕ} 0 1 = cc in absurd (omega arith)
or-false false b h = (refl, h)
