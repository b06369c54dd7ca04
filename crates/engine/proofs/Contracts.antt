-- The contract of each exported function, as the program logic has it, is Check's, Make's or that of a way between editions, and asks nothing. Each holds by computation, so a
-- changed contract is refused here.
use mathlib.Core.List.{List}
use mathlib.Core.Path.{◌≡◌, refl}
use Prim.Native.Nat.{ℕ}
use seplogic.Ra.Ura.{Ura}
use prog.Memory.{Memory}
use prog.Routine.{Routine}
use contract.Monad.{Fun}
use contract.Lifetimes.{Lfts}
use contract.Notation.{connectives}
use types.Logic.{Logic}
use base.Logic.{SProp}
use denote.Ref.{Bor, MutBor}
use lib.IntN.{ℤ}
use Rattle.records.specs.Format.{edition_of, read_list}
use Rattle.judge.specs.Check.{check_row}
use Rattle.converter.specs.Convert.{upgrade, downgrade, convert_list, convert_plan}
use Rattle.engine.specs.Codes.{check_code, MadeCode, ListCode, BothCode}
use Rattle.engine.specs.contracts.sulgheti_check as of-check
use Rattle.engine.specs.contracts.sulgheti_make as of-make
use Rattle.engine.specs.contracts.sulgheti_upgrade_list as of-upgrade-list
use Rattle.engine.specs.contracts.sulgheti_downgrade_list as of-downgrade-list
use Rattle.engine.specs.contracts.sulgheti_upgrade_plan as of-upgrade-plan
use Rattle.engine.specs.contracts.sulgheti_downgrade_plan as of-downgrade-plan

module _ {M : Type 1} {𝓤 : Ura M} (𝓛 : Logic 𝓤) (mem : Memory → SProp 𝓤) (run : Routine → Fun 𝓤) (κs : Lfts 2) (list list' : Bor (List ℕ)) (r : ℤ) where
  open connectives 𝓤 use {⌜◌⌝, ⊤ₛ}

  check-says : (plan plan' : Bor (List ℕ))
      → (of-check.clauses 𝓛 mem run κs (list, (plan, tt))).ensures tt r (list', (plan', tt)) ≡ ⌜ r ≡ check_code (check_row (edition_of list.now) list.now plan.now) ⌝
  check-says plan plan' = refl

  check-asks : (plan : Bor (List ℕ)) → (of-check.clauses 𝓛 mem run κs (list, (plan, tt))).requires tt ≡ ⊤ₛ
  check-asks plan = refl

  make-says : (out out' : MutBor (List ℕ))
      → (of-make.clauses 𝓛 mem run κs (list, (out, tt))).ensures tt r (list', (out', tt)) ≡ ⌜ MadeCode (edition_of list.now) (read_list (edition_of list.now) 512 list.now) out.now r out'.now ⌝
  make-says out out' = refl

  make-asks : (out : MutBor (List ℕ)) → (of-make.clauses 𝓛 mem run κs (list, (out, tt))).requires tt ≡ ⊤ₛ
  make-asks out = refl

  upgrade-list-says : (out out' : MutBor (List ℕ))
      → (of-upgrade-list.clauses 𝓛 mem run κs (list, (out, tt))).ensures tt r (list', (out', tt)) ≡ ⌜ ListCode (convert_list upgrade list.now out.now) out.now r out'.now ⌝
  upgrade-list-says out out' = refl

  upgrade-list-asks : (out : MutBor (List ℕ)) → (of-upgrade-list.clauses 𝓛 mem run κs (list, (out, tt))).requires tt ≡ ⊤ₛ
  upgrade-list-asks out = refl

  downgrade-list-says : (out out' : MutBor (List ℕ))
      → (of-downgrade-list.clauses 𝓛 mem run κs (list, (out, tt))).ensures tt r (list', (out', tt)) ≡ ⌜ ListCode (convert_list downgrade list.now out.now) out.now r out'.now ⌝
  downgrade-list-says out out' = refl

  downgrade-list-asks : (out : MutBor (List ℕ)) → (of-downgrade-list.clauses 𝓛 mem run κs (list, (out, tt))).requires tt ≡ ⊤ₛ
  downgrade-list-asks out = refl

module _ {M : Type 1} {𝓤 : Ura M} (𝓛 : Logic 𝓤) (mem : Memory → SProp 𝓤) (run : Routine → Fun 𝓤) (κs : Lfts 5)
    (list list' plan plan' : Bor (List ℕ)) (out out' other other' : MutBor (List ℕ)) (len len' : MutBor ℕ) where
  open connectives 𝓤 use {⌜◌⌝, ⊤ₛ}

  upgrade-plan-says : (r : ℤ)
      → (of-upgrade-plan.clauses 𝓛 mem run κs (list, (plan, (out, (other, (len, tt)))))).ensures tt r (list', (plan', (out', (other', (len', tt)))))
      ≡ ⌜ BothCode (convert_plan upgrade list.now plan.now out.now other.now) out.now other.now len.now r out'.now other'.now len'.now ⌝
  upgrade-plan-says r = refl

  upgrade-plan-asks : (of-upgrade-plan.clauses 𝓛 mem run κs (list, (plan, (out, (other, (len, tt)))))).requires tt ≡ ⊤ₛ
  upgrade-plan-asks = refl

  downgrade-plan-says : (r : ℤ)
      → (of-downgrade-plan.clauses 𝓛 mem run κs (list, (plan, (out, (other, (len, tt)))))).ensures tt r (list', (plan', (out', (other', (len', tt)))))
      ≡ ⌜ BothCode (convert_plan downgrade list.now plan.now out.now other.now) out.now other.now len.now r out'.now other'.now len'.now ⌝
  downgrade-plan-says r = refl

  downgrade-plan-asks : (of-downgrade-plan.clauses 𝓛 mem run κs (list, (plan, (out, (other, (len, tt)))))).requires tt ≡ ⊤ₛ
  downgrade-plan-asks = refl
