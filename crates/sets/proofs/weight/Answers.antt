-- `sets::weight` meets its contract. Assumes nothing.
use mathlib.Core.Path.{◌∙◌}
use lib.ListN.{get_or}
use Rattle.sets.specs.Set.{has}
use Rattle.sets.proofs.Weigh.{weigh-ones}
use Rattle.sets.proofs.weight.Goals as goal

pub returns-then-ones : goal.returns-then-ones
returns-then-ones c =
    c.size.ensures
    ∙ weigh-ones (λ d. get_or c.args.weights.now d 0) (has c.args.set) 64 (c.requires.d_value c.if-ones.true)
