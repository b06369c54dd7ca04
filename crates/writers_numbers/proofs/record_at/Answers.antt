-- `writers_numbers::record_at` meets its contract. Assumes nothing.
use Prim.Native.Nat.{◌+◌}
use mathlib.Core.Path.{◌∙◌, ap}
use native.Mathlib.Omega.{arith}
use Rattle.records.specs.Bytes.{le}
use Rattle.records.specs.Write.{place}
use Rattle.records.proofs.Buffers.{place-place}
use Rattle.records.proofs.Bytes.{length-le}
use Rattle.writers_numbers.proofs.record_at.Goals as goal
use Rattle.writers_numbers.proofs.record_at.Goals.{After-number_at, After-number_at-2, After-slice_known-2-1, Start}

pub returns : goal.returns
returns c =
    let filled = (goal.at.returns c).After-number_at-2 in
    let marked = (goal.at.After-number_at-2 filled).After-number_at in
    let s = (goal.at.After-number_at marked).Start in
    let a = s.args in
    filled.number_at-2.ensures
    ∙ ap (place (a.at + 2) (le a.w a.x)) marked.number_at.ensures
    ∙ place-place a.at 2 (le 2 a.mark) (le a.w a.x) a.out.now (omega arith) (length-le 2 a.mark)
