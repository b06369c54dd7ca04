-- Rows: none of a list applies exactly if the first that applies is none. Assumes nothing.
use mathlib.Core.Path.{◌≡◌, refl}
use mathlib.Core.Bool.{true, false}
use mathlib.Core.List.{List, [], ◌∷◌}
use mathlib.Core.Option.{none}
use native.Mathlib.Omega.{arith}
use Prim.Native.Nat.{ℕ}
use lib.Dec.{T}
use Rattle.density.specs.Rows.{Row, row, first_row}

-- no row applies
unfoldable pub Clear : List Row → Type 0
Clear [] = Unit {0}
Clear (row n b ∷ rows) = (T b → ⊥) × Clear rows

pub clear→ : (rows : List Row) → Clear rows → first_row rows ≡ none
unfolding Clear first_row
clear→ [] c = refl
clear→ (row n true ∷ rows) c = absurd (c.0 tt)
clear→ (row n false ∷ rows) c = clear→ rows c.1

pub →clear : (rows : List Row) → first_row rows ≡ none → Clear rows
unfolding Clear first_row
→clear [] e = tt
→clear (row n true ∷ rows) e = absurd (let z : ◌≡◌ {A = ℕ} 0 1 = cc in omega arith)
→clear (row n false ∷ rows) e = (λ t. t, →clear rows e)
