-- `codes::written` meets its contract. Assumes nothing.
use mathlib.Core.Path.{◌≡◌, ap, ◌∙◌}
use Rattle.std.specs.declared.result.Result.TheVariants.{Ok}
use Rattle.store.specs.declared.Answer.{Answer}
use Rattle.store.specs.declared.Answer.TheVariants.{Length}
use Rattle.store.specs.Calls.{told}
use Rattle.codes.proofs.written.Goals as goal

pub length-requires : goal.length-requires
length-requires c =
    let length : c.in-Ok-Length.field-0 ≡ Length c.in-Ok-Length.n = rw c.in-Ok-Length.is at c.in-Ok-Length.field-0-is in
    c.requires _ (ap told c.in-Ok-Length.is ∙ ap (λ (a : Answer). told (Ok a)) length)
