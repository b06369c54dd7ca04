-- What the head of a list or of a plan and the length of its bytes say: the count, or the first row that refuses before a record behind the head is read.
use Rattle.std.specs.Prelude.{ℕ, List, take}
use Rattle.records.specs.declared.Edition.{Edition}
use Rattle.records.specs.Outcome.{Outcome, gate}
use Rattle.records.specs.Format.{list_rows, layout_rows, site_count, group_count}

-- rows 1 to 3
abbrev pub list_head : Edition → ℕ → List ℕ → Outcome ℕ
list_head e places s = gate (take 3 (list_rows e places s)) (site_count s)

-- rows 7 to 10
abbrev pub plan_head : Edition → ℕ → List ℕ → Outcome ℕ
plan_head e sites s = gate (take 4 (layout_rows e sites s)) (group_count s)
