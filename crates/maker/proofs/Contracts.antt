-- The contract of `make`, as the program logic has it, is Make's, and asks nothing. Both facts hold by computation, so a changed contract is refused here.
use mathlib.Core.List.{List}
use mathlib.Core.Path.{◌≡◌, refl}
use Prim.Native.Nat.{ℕ}
use seplogic.Ra.Ura.{Ura}
use prog.Memory.{Memory}
use prog.Routine.{Routine}
use contract.Monad.{Fun}
use contract.Lifetimes.{Lfts}
use contract.Notation.{connectives}
use types.Logic.{Logic}
use base.Logic.{SProp}
use denote.Ref.{Bor, MutBor}
use Rattle.std.specs.declared.result.Result.{Result}
use Rattle.records.specs.declared.refusal.Refusal.{Refusal}
use Rattle.records.specs.Format.{edition_of, read_list}
use Rattle.maker.specs.Make.{Made}
use Rattle.maker.specs.contracts.make as of-make

module _ {M : Type 1} {𝓤 : Ura M} (𝓛 : Logic 𝓤) (mem : Memory → SProp 𝓤) (run : Routine → Fun 𝓤) (κs : Lfts 2) (list : Bor (List ℕ)) (out : MutBor (List ℕ)) where
  open connectives 𝓤 use {⌜◌⌝, ⊤ₛ}

  make-says : (r : Result ℕ Refusal) (list' : Bor (List ℕ)) (out' : MutBor (List ℕ))
      → (of-make.clauses 𝓛 mem run κs (list, (out, tt))).ensures tt r (list', (out', tt)) ≡ ⌜ Made (edition_of list.now) (read_list (edition_of list.now) 512 list.now) out.now r out'.now ⌝
  make-says r list' out' = refl

  make-asks : (of-make.clauses 𝓛 mem run κs (list, (out, tt))).requires tt ≡ ⊤ₛ
  make-asks = refl
