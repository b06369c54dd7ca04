-- Document 01, "Entry points": Check, and when a plan is true of a list, as bytes.
use Rattle.std.specs.Prelude.{◌≡◌, List, ℕ, length}
use Rattle.std.proofs.Math.Option.{Option, none, some}
use Rattle.density.specs.Network.{Listing, network}
use Rattle.density.specs.Groups.{Decomposition}
use Rattle.density.specs.Plan.{Shared}
use Rattle.density.specs.Rows.{plan_rows}
use Rattle.records.specs.declared.Edition.{Edition}
use Rattle.records.specs.Values.{Plan}
use Rattle.records.specs.Outcome.{Outcome, refused, passed, gate, bind}
use Rattle.records.specs.Format.{edition_of, read_list, read_plan}
use Rattle.records.specs.Write.{LaidOut}

-- rows 7 to 16 of a plan for a list
abbrev pub judged_for : Edition → Listing → List ℕ → Outcome Plan
judged_for e l plan = bind (read_plan e (length l.sites) plan) (λ (p : Plan). gate (plan_rows (network l) p.groups p.shares) p)

-- "Check: a list and a plan; passes or refuses. When the list is refused, the plan is not read": rows 1 to 6, 22 and 23 of the list, then rows 7 to 16 of
-- the plan for it
abbrev pub judged : Edition → List ℕ → List ℕ → Outcome Plan
judged e list plan = bind (read_list e 512 list) (λ (l : Listing). judged_for e l plan)

-- the row that refuses, or none
abbrev pub refusal : {A : Type 0} → Outcome A → Option ℕ
refusal (refused n) = some n
refusal (passed a) = none

unfoldable pub check_row : Edition → List ℕ → List ℕ → Option ℕ
check_row e list plan = refusal (judged e list plan)

-- what Check answers, in the edition that the list's first bytes name
abbrev pub checked_row : List ℕ → List ℕ → Option ℕ
checked_row list plan = check_row (edition_of list) list plan

-- "A plan is true of a list if it is laid out for it as under Records, its groups are those of the definition, over every set and in that
-- order, and its shares keep the rules for shares and are level."
pub record True (e : Edition) (l : Listing) (p : Plan) (bytes : List ℕ) : Type 0 where
  pub layout : LaidOut e l p bytes
  pub groups : Decomposition (network l) p.groups
  pub shares : Shared (network l) p.groups p.shares

-- a list that reads, and a plan that is true of it
abbrev pub TrueOf : Edition → List ℕ → List ℕ → Type 0
TrueOf e list plan = (l : Listing) × (p : Plan) × (read_list e 512 list ≡ passed l) × True e l p plan
