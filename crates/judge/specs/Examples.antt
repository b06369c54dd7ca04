-- Document 01, "Lists with known plans", as bytes of an edition.
use Rattle.std.specs.Prelude.{List, ℕ}
use Rattle.density.specs.Examples.{Example}
use Rattle.records.specs.declared.Edition.{Edition}
use Rattle.records.specs.Write.{list_bytes, plan_bytes}

-- an example's list and plan
abbrev pub example_list : Edition → Example → List ℕ
example_list e x = list_bytes e x.list

abbrev pub example_plan : Edition → Example → List ℕ
example_plan e x = plan_bytes e (record { groups = x.groups; shares = x.shares })
