-- `codes::figures` meets its contract. Assumes nothing.
use mathlib.Core.List.{[]}
use mathlib.Core.Path.{sym, ap, ◌∙◌}
use native.Mathlib.Omega.{arith}
use Rattle.codes.specs.declared.Coded.{Coded}
use Rattle.signed.proofs.Signed.{read_back}
use Rattle.codes.proofs.DeskCodes.{no_bytes, no-figures, figures}
use Rattle.codes.proofs.figures.Goals as goal

pub returns-then-not-is_store : goal.returns-then-not-is_store
returns-then-not-is_store c = no-figures (sym c.is_store.ensures ∙ c.if-not-is_store.true) no_bytes

pub look-a-requires : goal.look-a-requires
look-a-requires c = (c.requires.0, sym c.is_store.ensures ∙ c.if-not-is_store.false, c.requires.1)

pub returns : goal.returns
returns c =
    let told = rw c.numbered.ensures at c.outcome-o.ensures in
    figures (sym c.is_store.ensures ∙ c.if-not-is_store.false) (c.look-a.ensures [] no_bytes)
    (read_back (omega arith) ∙ ap (λ (o : Coded). o.code) told) (ap (λ (o : Coded). o.first) told) (ap (λ (o : Coded). o.second) told)
