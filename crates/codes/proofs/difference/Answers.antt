-- `codes::difference` meets its contract. Assumes nothing.
use mathlib.Core.List.{[]}
use mathlib.Core.Path.{sym, ap, ◌∙◌}
use native.Mathlib.Omega.{arith}
use Rattle.codes.specs.declared.Coded.{Coded}
use Rattle.signed.proofs.Signed.{read_back}
use Rattle.codes.proofs.DeskCodes.{no_bytes, no_difference, differs}
use Rattle.codes.proofs.difference.Goals as goal

pub returns-then-not-is_store : goal.returns-then-not-is_store
returns-then-not-is_store c = no_difference (sym c.is_store.ensures ∙ c.if-not-is_store.true) no_bytes

pub look-answer-requires : goal.look-answer-requires
look-answer-requires c = (c.requires, sym c.is_store.ensures ∙ c.if-not-is_store.false, tt)

pub returns : goal.returns
returns c =
    let told = rw c.numbered.ensures at c.outcome-o.ensures in
    differs (sym c.is_store.ensures ∙ c.if-not-is_store.false) (c.look-answer.ensures [] no_bytes)
    (read_back (omega arith) ∙ ap (λ (o : Coded). o.code) told)
    (read_back (omega arith) ∙ ap (λ (o : Coded). o.difference) told)
    (read_back (omega arith))
    (ap (λ (o : Coded). o.second) told)
