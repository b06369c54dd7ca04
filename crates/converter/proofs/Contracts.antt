-- The contract of each converter, as the program logic has it, is the definition's, and asks nothing. Each holds by computation, so a changed contract is refused here.
use mathlib.Core.List.{List}
use mathlib.Core.Path.{◌≡◌, refl}
use Prim.Native.Nat.{ℕ}
use seplogic.Ra.Ura.{Ura}
use prog.Memory.{Memory}
use prog.Routine.{Routine}
use contract.Monad.{Fun}
use contract.Lifetimes.{Lfts}
use contract.Notation.{connectives}
use types.Logic.{Logic}
use base.Logic.{SProp}
use denote.Ref.{Bor, MutBor}
use Rattle.std.specs.declared.result.Result.{Result}
use Rattle.records.specs.declared.Lengths.{Lengths}
use Rattle.records.specs.declared.refusal.Refusal.{Refusal}
use Rattle.records.specs.Write.{WrittenOf}
use Rattle.records.specs.Files.{WrittenBoth}
use Rattle.converter.specs.Convert.{upgrade, downgrade, convert_list, convert_plan}
use Rattle.converter.specs.contracts.upgrade_list as of-upgrade-list
use Rattle.converter.specs.contracts.downgrade_list as of-downgrade-list
use Rattle.converter.specs.contracts.upgrade_plan as of-upgrade-plan
use Rattle.converter.specs.contracts.downgrade_plan as of-downgrade-plan

module _ {M : Type 1} {𝓤 : Ura M} (𝓛 : Logic 𝓤) (mem : Memory → SProp 𝓤) (run : Routine → Fun 𝓤) where
  open connectives 𝓤 use {⌜◌⌝, ⊤ₛ}

  module _ (κs : Lfts 2) (list : Bor (List ℕ)) (out : MutBor (List ℕ)) where
    upgrade-list-says : (r : Result ℕ Refusal) (list' : Bor (List ℕ)) (out' : MutBor (List ℕ))
        → (of-upgrade-list.clauses 𝓛 mem run κs (list, (out, tt))).ensures tt r (list', (out', tt)) ≡ ⌜ WrittenOf (convert_list upgrade list.now out.now) out.now r out'.now ⌝
    upgrade-list-says r list' out' = refl

    upgrade-list-asks : (of-upgrade-list.clauses 𝓛 mem run κs (list, (out, tt))).requires tt ≡ ⊤ₛ
    upgrade-list-asks = refl

    downgrade-list-says : (r : Result ℕ Refusal) (list' : Bor (List ℕ)) (out' : MutBor (List ℕ))
        → (of-downgrade-list.clauses 𝓛 mem run κs (list, (out, tt))).ensures tt r (list', (out', tt)) ≡ ⌜ WrittenOf (convert_list downgrade list.now out.now) out.now r out'.now ⌝
    downgrade-list-says r list' out' = refl

    downgrade-list-asks : (of-downgrade-list.clauses 𝓛 mem run κs (list, (out, tt))).requires tt ≡ ⊤ₛ
    downgrade-list-asks = refl

  module _ (κs : Lfts 4) (list plan : Bor (List ℕ)) (out other : MutBor (List ℕ)) where
    upgrade-plan-says : (r : Result Lengths Refusal) (list' plan' : Bor (List ℕ)) (out' other' : MutBor (List ℕ))
        → (of-upgrade-plan.clauses 𝓛 mem run κs (list, (plan, (out, (other, tt))))).ensures tt r (list', (plan', (out', (other', tt))))
        ≡ ⌜ WrittenBoth (convert_plan upgrade list.now plan.now out.now other.now) out.now other.now r out'.now other'.now ⌝
    upgrade-plan-says r list' plan' out' other' = refl

    upgrade-plan-asks : (of-upgrade-plan.clauses 𝓛 mem run κs (list, (plan, (out, (other, tt))))).requires tt ≡ ⊤ₛ
    upgrade-plan-asks = refl

    downgrade-plan-says : (r : Result Lengths Refusal) (list' plan' : Bor (List ℕ)) (out' other' : MutBor (List ℕ))
        → (of-downgrade-plan.clauses 𝓛 mem run κs (list, (plan, (out, (other, tt))))).ensures tt r (list', (plan', (out', (other', tt))))
        ≡ ⌜ WrittenBoth (convert_plan downgrade list.now plan.now out.now other.now) out.now other.now r out'.now other'.now ⌝
    downgrade-plan-says r list' plan' out' other' = refl

    downgrade-plan-asks : (of-downgrade-plan.clauses 𝓛 mem run κs (list, (plan, (out, (other, tt))))).requires tt ≡ ⊤ₛ
    downgrade-plan-asks = refl
