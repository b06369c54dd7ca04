-- What the calls for the plan and for the list written out are answered.
use Rattle.std.specs.Prelude.{ℕ}
use Rattle.std.specs.declared.result.Result.{Result}
use Rattle.std.specs.declared.result.Result.TheVariants.{Ok, Err}
use Rattle.records.specs.declared.refusal.Refusal.{Refusal}
use Rattle.store.specs.declared.Answer.{Answer}
use Rattle.store.specs.declared.Answer.TheVariants as of

-- what a writer answers, as an answer of the store
abbrev pub wrote_told : Result ℕ Refusal → Result Answer Refusal
wrote_told (Ok n) = Ok (of.Length n)
wrote_told (Err e) = Err e
