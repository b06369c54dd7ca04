-- `console::desk_after` meets its contract. Assumes nothing.
use mathlib.Core.Path.{◌≡◌, refl}
use Rattle.std.specs.declared.result.Result.TheVariants.{Ok}
use Rattle.store.specs.declared.Answer.{Answer}
use Rattle.store.specs.declared.Answer.TheVariants.{Done, Share, Depot, Difference, Length, Reached}
use borrow.Author.Rules.{rules}
use Rattle.console.specs.declared.Desk.{Desk}
use Rattle.console.specs.Editions.{desk_after}
use Rattle.console.proofs.desk_after.Goals as goal

-- behind an answer that is not `Done` the old desk stays
stays : (a : Answer) (old new : Desk) → (a ≡ Done → ⊥) → old ≡ desk_after (Ok a) old new
unfolding desk_after
stays Done old new h = absurd (h refl)
stays (Share s w) old new h = refl
stays (Depot w q) old new h = refl
stays (Difference d q) old new h = refl
stays (Length n) old new h = refl
stays (Reached x) old new h = refl

pub returns-in-Ok-Done : goal.returns-in-Ok-Done
unfolding desk_after
returns-in-Ok-Done c =
    let done = rw c.in-Ok-Done.is at c.in-Ok-Done.field-0-is in
    rw (c.in-Ok-Done.is, done) refl

pub returns-in_default : goal.returns-in_default
returns-in_default c =
    let no : c.in_default.field-0 ≡ Done → ⊥ = search rules in
    rw c.in_default.is (stays _ _ _ no)

pub returns-in_default-2 : goal.returns-in_default-2
unfolding desk_after
returns-in_default-2 c = rw c.in_default.is refl
