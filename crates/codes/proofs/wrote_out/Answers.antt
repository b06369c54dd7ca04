-- `codes::wrote_out` meets its contract. Assumes nothing.
use mathlib.Core.List.{[]}
use mathlib.Core.Path.{sym, ◌∙◌}
use Rattle.signed.proofs.Signed.{read_back}
use Rattle.codes.proofs.DeskCodes.{no_bytes, not_written, wrote-out, length-held}
use Rattle.codes.proofs.wrote_out.Goals as goal

pub returns-then-not-is_store : goal.returns-then-not-is_store
returns-then-not-is_store c = not_written (sym c.is_store.ensures ∙ c.if-not-is_store.true) no_bytes

pub look-requires : goal.look-requires
look-requires c = (c.requires.0, sym c.is_store.ensures ∙ c.if-not-is_store.false, c.requires.1)

pub written-requires : goal.written-requires
written-requires c = length-held (c.look.ensures [] no_bytes) c.well_formed.1.1.1.1.0.1

pub returns : goal.returns
returns c = wrote-out (sym c.is_store.ensures ∙ c.if-not-is_store.false) (c.look.ensures [] no_bytes) (read_back c.written.type_inv ∙ c.written.ensures)
