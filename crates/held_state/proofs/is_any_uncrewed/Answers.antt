-- `held_state::is_any_uncrewed` meets its contract. Assumes nothing.
use mathlib.Core.Path.{sym}
use lib.ListN.{get_or}
use borrow.Author.Tests.{not-true}
use Rattle.density.specs.Network.{no_site}
use Rattle.records.proofs.Rolls.{none-uncrewed}
use Rattle.held_state.proofs.is_any_uncrewed.Goals as goal

pub returns-then-not-roll : goal.returns-then-not-roll
returns-then-not-roll c =
    let l = c.args.list in
    sym (none-uncrewed l.roll (not-true _ c.if-not-roll.true) (λ i. get_or l.sites i no_site) _)
