-- Document 02, d: a list and its plan written into two buffers, by what an entry found.
use Rattle.std.specs.Prelude.{ℕ, List, [], ◌∷◌, ◌≡◌, length}
use Rattle.density.specs.Network.{Listing}
use Rattle.density.specs.Rows.{row}
use Rattle.records.specs.declared.Edition.{Edition}
use Rattle.std.specs.declared.result.Result.{Result}
use Rattle.records.specs.declared.Lengths.{Lengths}
use Rattle.records.specs.declared.refusal.Refusal.{Refusal}
use Rattle.records.specs.Refusals.{outcome}
use Rattle.records.specs.Values.{Plan}
use Rattle.records.specs.Outcome.{Outcome, refused, passed, gate, bind}
use Rattle.records.specs.Write.{list_bytes, plan_bytes, is_short, buffer_of}

-- the bytes of a list and of a plan for it
pub record Files : Type 0 where
  pub list : List ℕ
  pub plan : List ℕ

abbrev pub files : Edition → Listing → Plan → Files
files e l p = record { list = list_bytes e l; plan = plan_bytes e p }

-- both, where each buffer has room: row 20 for "the list's first", then for the plan's
abbrev pub fitted_both : Files → List ℕ → List ℕ → Outcome Files
fitted_both x list-out plan-out = gate (row 20 (is_short list-out x.list) ∷ row 20 (is_short plan-out x.plan) ∷ []) x

-- "every writer answers the length it wrote, the list's first where it writes two" (b)
abbrev pub wrote_both_of : Outcome Files → Outcome Lengths
wrote_both_of (refused n) = refused n
wrote_both_of (passed x) = passed (record { list = length x.list; plan = length x.plan })

-- what was found of the list, and of the plan
abbrev pub list_part : Outcome Files → Outcome (List ℕ)
list_part o = bind o (λ (x : Files). passed x.list)

abbrev pub plan_part : Outcome Files → Outcome (List ℕ)
plan_part o = bind o (λ (x : Files). passed x.plan)

-- what an entry with a buffer for the list and one for the plan answers and leaves: nothing is written unless both are
pub record WrittenBoth (o : Outcome Files) (list-out plan-out : List ℕ) (r : Result Lengths Refusal) (list-last plan-last : List ℕ) : Type 0 where
  pub answer : outcome r ≡ wrote_both_of o
  pub list : list-last ≡ buffer_of (list_part o) list-out
  pub plan : plan-last ≡ buffer_of (plan_part o) plan-out
