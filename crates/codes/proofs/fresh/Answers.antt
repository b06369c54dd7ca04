-- `codes::fresh` meets its contract. Assumes nothing.
use mathlib.Core.Path.{sym, ◌∙◌}
use Rattle.codes.proofs.DeskCodes.{not-fresh, fresh-code}
use Rattle.codes.proofs.fresh.Goals as goal

pub returns-then-not-is_store : goal.returns-then-not-is_store
returns-then-not-is_store c = not-fresh (sym c.is_store.ensures ∙ c.if-not-is_store.true)

pub fresh-requires : goal.fresh-requires
fresh-requires c = sym c.is_store.ensures ∙ c.if-not-is_store.false

pub returns : goal.returns
returns c = fresh-code (sym c.is_store.ensures ∙ c.if-not-is_store.false) c.fresh.ensures
