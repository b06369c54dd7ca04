-- The edition of a desk, and the desk behind a step to edition 2.
use Rattle.std.specs.Prelude.{cond}
use Rattle.std.specs.declared.result.Result.{Result}
use Rattle.records.specs.declared.Edition.{Edition}
use Rattle.records.specs.declared.refusal.Refusal.{Refusal}
use Rattle.records.specs.Format.{edition1, edition2}
use Rattle.store.specs.declared.Answer.{Answer}
use Rattle.store.specs.Calls.{told}
use Rattle.store.specs.Trace.{ended}
use Rattle.console.specs.declared.Desk.{Desk}
use Rattle.console.specs.declared.DeskEdition.{DeskEdition}
use Rattle.console.specs.declared.DeskEdition.TheVariants.{First, Second}

-- the edition that a desk is of
abbrev pub edition_at : DeskEdition → Edition
edition_at First = edition1
edition_at Second = edition2

-- the desk behind a step that is so answered: the new one where it is done, and else the old one
unfoldable pub desk_after : Result Answer Refusal → Desk → Desk → Desk
desk_after a old new = cond (ended (told a)) new old
