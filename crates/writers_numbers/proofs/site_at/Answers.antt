-- `writers_numbers::site_at` meets its contract. Assumes nothing.
use mathlib.Core.List.{List, ◌++◌}
use mathlib.Core.Path.{ap, ◌∙◌}
use Prim.Native.Nat.{ℕ}
use Rattle.records.specs.Bytes.{le}
use Rattle.records.specs.Write.{place}
use Rattle.writers_numbers.proofs.site_at.Goals as goal
use Rattle.writers_numbers.proofs.site_at.Goals.{After-record_at, After-struct_known-1}

pub returns : goal.returns
returns c =
    let put = (goal.at.returns c).After-record_at in
    let known = (goal.at.After-record_at put).After-struct_known-1 in
    let a = known.args in
    put.record_at.ensures
    ∙ ap (λ (p : List ℕ). place a.at (le 2 a.e.mark.site ++ p) a.out.now) (put.body_of.ensures a.e.litres)
