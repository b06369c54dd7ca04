-- The contract of `check`, as the program logic has it, is Check's, and asks nothing. Both facts hold by computation, so a changed contract is refused here.
use mathlib.Core.List.{List}
use mathlib.Core.Path.{◌≡◌, refl}
use Prim.Native.Nat.{ℕ}
use seplogic.Ra.Ura.{Ura}
use prog.Memory.{Memory}
use prog.Routine.{Routine}
use contract.Monad.{Fun}
use contract.Lifetimes.{Lfts}
use contract.Notation.{connectives}
use types.Logic.{Logic}
use base.Logic.{SProp}
use denote.Ref.{Bor}
use Rattle.records.specs.Format.{edition_of}
use Rattle.std.specs.declared.result.Result.{Result}
use Rattle.records.specs.declared.refusal.Refusal.{Refusal}
use Rattle.records.specs.Refusals.{refusal_of}
use Rattle.judge.specs.Check.{check_row}
use Rattle.judge.specs.contracts.check as of-check

module _ {M : Type 1} {𝓤 : Ura M} (𝓛 : Logic 𝓤) (mem : Memory → SProp 𝓤) (run : Routine → Fun 𝓤) (κs : Lfts 2) (list plan : Bor (List ℕ)) where
  open connectives 𝓤 use {⌜◌⌝, ⊤ₛ}

  check-says : (r : Result (Unit {0}) Refusal) (list' plan' : Bor (List ℕ))
      → (of-check.clauses 𝓛 mem run κs (list, (plan, tt))).ensures tt r (list', (plan', tt)) ≡ ⌜ refusal_of r ≡ check_row (edition_of list.now) list.now plan.now ⌝
  check-says r list' plan' = refl

  check-asks : (of-check.clauses 𝓛 mem run κs (list, (plan, tt))).requires tt ≡ ⊤ₛ
  check-asks = refl
