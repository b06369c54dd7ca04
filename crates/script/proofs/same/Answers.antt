-- `script::same` meets its contract.
-- Assumes nothing.
use Rattle.std.proofs.lemmas.Slice.Eq.{slice_eq-Decides}
use Rattle.std.proofs.lemmas.Bool.Decides.{Decides-eqb}
use Rattle.script.proofs.Words.{same-is}
use Rattle.script.proofs.same.Goals as goal

pub returns : goal.returns
returns c = same-is c.eq.result c.args.a.now c.args.b.now (slice_eq-Decides Decides-eqb _ _ _ c.eq.ensures)
