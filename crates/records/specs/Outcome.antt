-- Document 01, "When the gate stays shut": what an entry finds, the number of the row that refuses or something.
use Rattle.std.specs.Prelude.{ℕ, List}
use Rattle.std.proofs.Math.Option.{Option, none, some}
use Rattle.density.specs.Rows.{Row, first_row}

pub data Outcome (A : Type 0) : Type 0 where
  refused : ℕ → Outcome A
  passed : A → Outcome A

-- refused by a row, or else a
abbrev pub settle : {A : Type 0} → Option ℕ → A → Outcome A
settle none a = passed a
settle (some n) a = refused n

-- "Rows are tried from the top": the first that applies refuses
abbrev pub gate : {A : Type 0} → List Row → A → Outcome A
gate rows a = settle (first_row rows) a

-- "When the list is refused, the plan is not read": a refusal is handed on
abbrev pub bind : {A B : Type 0} → Outcome A → (A → Outcome B) → Outcome B
bind (refused n) f = refused n
bind (passed a) f = f a
