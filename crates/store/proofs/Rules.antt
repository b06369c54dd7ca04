-- Rows: of two lists one behind the other, and their numbers; which answers are refusals. Assumes nothing.
use mathlib.Core.Path.{◌≡◌, refl}
use mathlib.Core.Logic.{◌↔◌}
use mathlib.Core.Bool.{Bool, true, false, cond, ◌&&◌, false≢true}
use mathlib.Core.List.{List, [], ◌∷◌, ◌++◌}
use mathlib.Core.Option.{Option, none, some, none-ne-some, some-ne-none, some-injective}
use Prim.Native.Nat.{ℕ, ◌<◌}
use types.Run.{OneOf, miss}
use denote.Enum.Declared.{tag_of}
use native.Mathlib.Omega.{arith}
use lib.Dec.{T, ltb, ltb→lt}
use Rattle.sets.proofs.Test.{and_l, and_r}
use Rattle.density.specs.Rows.{Row, row, first_row, plan_rows}
use Rattle.store.specs.declared.Request.{Request}
use Rattle.store.specs.declared.Request.TheVariants.{Load, Change, Add, Propose, Share, Depot, Difference, Written, AtLeast, ListWritten}
use Rattle.store.specs.Calls.{Call, refused}
use Rattle.store.specs.Model.{Model, rows_of}
use Rattle.held_state.specs.Held.{State}
use Rattle.store.specs.State.{Done, first_of, settle, effect_of}
use Rattle.store.specs.Trace.{ReadsOnly}
use Rattle.store.specs.contracts.Request.{the_type}

-- ---- rows behind rows

module _ (ys : List Row) where
  pub both-none : (xs : List Row) → first_row xs ≡ none → first_row ys ≡ none → first_row (xs ++ ys) ≡ none
  unfolding first_row
  both-none [] a b = b
  both-none (row n true ∷ xs) a b = a
  both-none (row n false ∷ xs) a b = both-none xs a b

  pub none_both : (xs : List Row) → first_row (xs ++ ys) ≡ none → (first_row xs ≡ none) × (first_row ys ≡ none)
  unfolding first_row
  none_both [] e = (refl, e)
  none_both (row n true ∷ xs) e = absurd (some-ne-none n e)
  none_both (row n false ∷ xs) e = none_both xs e

  -- the first of the one, and else of the other
  pub first-both : (xs : List Row) → first_of (first_row xs) (first_row ys) ≡ first_row (xs ++ ys)
  unfolding first_row
  first-both [] = refl
  first-both (row n true ∷ xs) = refl
  first-both (row n false ∷ xs) = first-both xs

-- ---- no row of a call of the model is row 0

unfoldable positive : List Row → Bool
positive [] = true
positive (row n b ∷ rows) = ltb 0 n && positive rows

first-positive : (rows : List Row) → T (positive rows) → (n : ℕ) → first_row rows ≡ some n → 0 < n
unfolding first_row positive
first-positive [] p n e = absurd (none-ne-some n e)
first-positive (row m true ∷ rows) p n e =
    let h : m ≡ n = some-injective m n e in
    omega (arith, ltb→lt 0 m (and_l (ltb 0 m) (positive rows) p))
first-positive (row m false ∷ rows) p n e = first-positive rows (and_r (ltb 0 m) (positive rows) p) n e

rows-positive : (b : Model) (c : Call) (q : Request) → T (positive (rows_of b c q))
unfolding positive plan_rows
rows-positive b c Load = tt
rows-positive b c (Change i w) = tt
rows-positive b c (Add f d w) = tt
rows-positive b c Propose = tt
rows-positive b c (Share i) = tt
rows-positive b c (Depot d) = tt
rows-positive b c (Difference a d) = tt
rows-positive b c Written = tt
rows-positive b c (AtLeast m) = tt
rows-positive b c ListWritten = tt

pub never-row-zero : (b : Model) (c : Call) (q : Request) → first_row (rows_of b c q) ≡ some 0 → ⊥
never-row-zero b c q e = omega (arith, first-positive (rows_of b c q) (rows-positive b c q) 0 e)

-- ---- the requests behind the fourth only read

abbrev others : List ℕ
others = 4 ∷ 5 ∷ 6 ∷ 7 ∷ 8 ∷ 9 ∷ []

pub others-read : (q : Request) → OneOf others (tag_of the_type q) → ReadsOnly q
others-read Load h = miss others 0 tt h
others-read (Change i w) h = miss others 1 tt h
others-read (Add f d w) h = miss others 2 tt h
others-read Propose h = miss others 3 tt h
others-read (Share i) h = tt
others-read (Depot d) h = tt
others-read (Difference a d) h = tt
others-read Written h = tt
others-read (AtLeast m) h = tt
others-read ListWritten h = tt

-- such a call leaves the state
pub reading-leaves : (o : Option ℕ) (s : State) (c : Call) (q : Request) → ReadsOnly q → (settle o s c (effect_of s c q)).after ≡ s
reading-leaves (some n) s c q h = refl
reading-leaves none s c Load h = absurd h
reading-leaves none s c (Change i w) h = absurd h
reading-leaves none s c (Add f x w) h = absurd h
reading-leaves none s c Propose h = absurd h
reading-leaves none s c (Share i) h = refl
reading-leaves none s c (Depot d) h = refl
reading-leaves none s c (Difference a d) h = refl
reading-leaves none s c Written h = refl
reading-leaves none s c (AtLeast m) h = refl
reading-leaves none s c ListWritten h = refl

-- ---- answers

-- what a call does that no row refuses is not answered by a refusal
pub granted-not-refused : (s : State) (c : Call) (q : Request) (n : ℕ) → (effect_of s c q).reply.answer ≡ refused n → ⊥
granted-not-refused s c Load n e = let z : ◌≡◌ {A = ℕ} 0 1 = cc in omega arith
granted-not-refused s c (Change i w) n e = let z : ◌≡◌ {A = ℕ} 0 1 = cc in omega arith
granted-not-refused s c (Add f d w) n e = let z : ◌≡◌ {A = ℕ} 0 1 = cc in omega arith
granted-not-refused s c Propose n e = let z : ◌≡◌ {A = ℕ} 0 1 = cc in omega arith
granted-not-refused s c (Share i) n e = let z : ◌≡◌ {A = ℕ} 0 1 = cc in omega arith
granted-not-refused s c (Depot d) n e = let z : ◌≡◌ {A = ℕ} 0 1 = cc in omega arith
granted-not-refused s c (Difference a d) n e = let z : ◌≡◌ {A = ℕ} 0 1 = cc in omega arith
granted-not-refused s c Written n e = let z : ◌≡◌ {A = ℕ} 0 1 = cc in omega arith
granted-not-refused s c (AtLeast m) n e = let z : ◌≡◌ {A = ℕ} 0 1 = cc in omega arith
granted-not-refused s c ListWritten n e = let z : ◌≡◌ {A = ℕ} 0 1 = cc in omega arith

module _ (s : State) (c : Call) (d : Done) where
  pub zero-answer : (z : Bool) (o : Option ℕ) → (o ≡ some 0 → ⊥) → (d.reply.answer ≡ refused 0 → ⊥)
      → ((settle (cond z (some 0) o) s c d).reply.answer ≡ refused 0) ↔ (z ≡ true)
  zero-answer true o h g = (λ e. refl, λ e. refl)
  zero-answer false none h g = (λ e. absurd (g e), λ e. absurd (false≢true e))
  zero-answer false (some n) h g = (λ e. absurd (h (cc)), λ e. absurd (false≢true e))
