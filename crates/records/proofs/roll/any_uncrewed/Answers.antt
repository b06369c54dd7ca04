-- `records::roll::any_uncrewed` meets its contract. Assumes nothing.
use Rattle.std.proofs.Common.{◌≡◌, length, take, get_or, rules, sym, ap, ◌∙◌}
use Rattle.std.proofs.lemmas.Iterator.{YieldsList-from_slice}
use Rattle.std.proofs.lemmas.Iterator.Search.{any_from_yields_List}
use Rattle.std.proofs.lemmas.List.{get_or-take}
use lib.Seq.{length-take-le}
use Rattle.sets.specs.Sum.{any}
use Rattle.sets.proofs.Sum.{any-cong}
use Rattle.density.specs.Network.{no_site, uncrewed}
use Rattle.records.specs.Values.{roll_in}
use Rattle.records.proofs.Records.{list_any-any}
use Rattle.records.proofs.Rolls.{none-uncrewed}
use Rattle.records.proofs.roll.any_uncrewed.Goals as goal

pub returns-then-roll : goal.returns-then-roll
returns-then-roll c =
    let a = c.args in
    let p = uncrewed (roll_in a.roll) in
    let w : length (take a.n a.sites) ≡ a.n = length-take-le a.n a.sites (search rules) in
    any_from_yields_List p _ _ _ c.any.ensures.ran (YieldsList-from_slice (take a.n a.sites) cc) (λ x b q k. search rules)
    ∙ list_any-any p no_site (take a.n a.sites)
    ∙ ap (any (λ i. p (get_or (take a.n a.sites) i no_site))) w
    ∙ any-cong _ _ a.n (λ i l. ap p (get_or-take a.n a.sites i no_site l))

pub returns-else-roll : goal.returns-else-roll
returns-else-roll c = c.if-roll.false ∙ sym (none-uncrewed c.args.roll c.if-roll.false (λ i. get_or c.args.sites i no_site) c.args.n)
