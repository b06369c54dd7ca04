-- `tables::crews` meets its contract. The invariant: the places passed hold the crews. Assumes nothing.
use mathlib.Core.Path.{sym, ◌∙◌}
use lib.ListN.{get_or-replicate}
use Rattle.records.proofs.Rolls.{of-roll}
use Rattle.tables.proofs.crews.Goals as goal

pub returns-then-not-roll : goal.returns-then-not-roll
returns-then-not-roll c = λ k m. get_or-replicate 64 k 1 0 m ∙ sym (of-roll c.args.roll c.if-not-roll.true k)
