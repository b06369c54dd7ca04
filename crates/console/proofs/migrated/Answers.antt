-- `console::migrated` meets its contract: the old bytes are those of a store of edition 1, and what is left is the old desk or the new one.
-- Assumes nothing.
use Prim.Native.Nat.{ℕ}
use mathlib.Core.Path.{◌≡◌, refl, ap, ◌∙◌}
use mathlib.Core.Bool.{Bool, true, false, cond}
use mathlib.Core.Logic.{◌⊎◌, inl, inr}
use borrow.Author.Rules.{rules}
use lib.ListN.{length}
use Rattle.std.specs.declared.result.Result.{Result}
use Rattle.records.specs.declared.refusal.Refusal.{Refusal}
use Rattle.store.specs.declared.Answer.{Answer}
use Rattle.store.specs.Calls.{told}
use Rattle.store.specs.Trace.{ended}
use Rattle.console.specs.declared.Desk.{Desk}
use Rattle.console.specs.declared.DeskEdition.TheVariants.{First, Second}
use Rattle.console.specs.Editions.{desk_after}
use Rattle.console.proofs.Editions.{front_long, front-is}
use Rattle.console.proofs.migrated.Goals as goal

-- what is left is the old desk, or the new one
either : (b : Bool) (n : ℕ) (r new old : Desk) → new.edition ≡ Second → new.places ≡ n → r ≡ cond b new old → (r ≡ old) ⊎ ((r.edition ≡ Second) × (r.places ≡ n))
either true n r new old h k e = inr (ap (λ (d : Desk). d.edition) e ∙ h, ap (λ (d : Desk). d.places) e ∙ k)
either false n r new old h k e = inl e

old-or-new : (a : Result Answer Refusal) (n : ℕ) (r new old : Desk) → new.edition ≡ Second → new.places ≡ n → r ≡ desk_after a old new → (r ≡ old) ⊎ ((r.edition ≡ Second) × (r.places ≡ n))
unfolding desk_after
old-or-new a n r new old h k e = either (ended (told a)) n r new old h k e

pub slice_bounds-migrate-end : goal.slice_bounds-migrate-end
slice_bounds-migrate-end c =
    let long : length c.args.desk.store ≡ 4704 = search rules in
    front_long First refl c.args.desk.store long

pub migrate-answer-requires : goal.migrate-answer-requires
migrate-answer-requires c =
    let long : length c.args.desk.store ≡ 4704 = search rules in
    (front-is First refl c.args.desk.store long, refl)

pub returns : goal.returns
returns c = old-or-new _ _ _ _ _ refl refl c.desk_after.ensures
