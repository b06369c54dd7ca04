-- `tables::name` meets its contract. Assumes nothing.
use mathlib.Core.Path.{ap, ◌∙◌}
use Prim.Native.Nat.{ℕ}
use Rattle.sets.specs.Set.{only, ◌∪◌, has, set_of}
use Rattle.tables.proofs.Sites.{name-is}
use Rattle.tables.proofs.name.Goals as goal

pub returns : goal.returns
returns c =
    let a = c.args in
    c.with-2.ensures ∙ ap (λ (x : ℕ). set_of (has x ∪ only a.s.second) 64) c.with.ensures ∙ name-is a.set a.s
