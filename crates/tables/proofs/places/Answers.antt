-- `tables::places` meets its contract. The invariant: the depots have their places among the groups from k on. Assumes nothing.
use mathlib.Core.Path.{◌∙◌}
use native.Mathlib.Omega.{arith}
use lib.ListN.{length, get_or-replicate}
use Rattle.tables.proofs.Marks.{places-start, places-more}
use borrow.Author.Rules.{rules}
use Rattle.tables.proofs.places.Goals as goal

pub loop-k-init : goal.loop-k-init
loop-k-init c = (search rules, λ d l. get_or-replicate 64 d (length c.args.groups.now) 0 l ∙ places-start c.args.groups.now d)

pub loop-k-preserved : goal.loop-k-preserved
loop-k-preserved c = (
  search rules,
  λ d l. c.mark.ensures d l ∙ places-more c.args.groups.now c.loop-k.k d _ (omega arith) (omega arith) (c.loop-k.invariant.1 d l),
)
