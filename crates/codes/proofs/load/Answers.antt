-- `codes::load` meets its contract. Assumes nothing.
use mathlib.Core.List.{[]}
use mathlib.Core.Path.{sym, ap, ◌∙◌}
use native.Mathlib.Omega.{arith}
use Rattle.codes.specs.declared.Coded.{Coded}
use Rattle.codes.specs.Codes.{done_code}
use Rattle.signed.proofs.Signed.{read_back}
use Rattle.codes.proofs.DeskCodes.{did-not, did}
use Rattle.codes.proofs.load.Goals as goal

pub returns-then-not-is_store : goal.returns-then-not-is_store
returns-then-not-is_store c = did-not (sym c.is_store.ensures ∙ c.if-not-is_store.true) (λ i. (c.type_inv.list i).fits)

pub load-requires : goal.load-requires
load-requires c = (c.requires, sym c.is_store.ensures ∙ c.if-not-is_store.false)

pub returns : goal.returns
returns c = did (sym c.is_store.ensures ∙ c.if-not-is_store.false) (c.load.ensures []) (read_back (omega arith) ∙ ap (λ (o : Coded). o.code) c.outcome.ensures ∙ ap done_code c.numbered.ensures)
