-- The contract of `migrate`, as the program logic has it, says that the step is that of a history, and asks nothing. It holds by computation, so a changed contract is refused
-- here.
use mathlib.Core.Path.{◌≡◌, refl}
use mathlib.Core.List.{List}
use seplogic.Ra.Ura.{Ura}
use prog.Memory.{Memory}
use prog.Routine.{Routine}
use contract.Monad.{Fun}
use contract.Lifetimes.{Lfts}
use contract.Notation.{connectives}
use types.Logic.{Logic}
use base.Logic.{SProp}
use denote.Ref.{Bor, MutBor}
use Rattle.density.specs.declared.Site.{Site}
use Rattle.table.specs.declared.Site1.{Site1}
use Rattle.edition1.specs.declared.Store1.{Store1}
use Rattle.edition1.specs.Edition1.{view1}
use Rattle.store_entries2.specs.declared.Out2.{Out2}
use Rattle.store_migrate.specs.Migrate.{MovedOver}
use Rattle.store_migrate.specs.contracts.migrate as of-migrate

module _ {M : Type 1} {𝓤 : Ura M} (𝓛 : Logic 𝓤) (mem : Memory → SProp 𝓤) (run : Routine → Fun 𝓤) where
  open connectives 𝓤 use {⌜◌⌝, ⊤ₛ}

  module _ (κs : Lfts 2) (s : Store1) (table table' : Bor (List Site1)) (new new' : MutBor (List Site)) where
    migrate-says : (r : Out2) → (of-migrate.clauses 𝓛 mem run κs (s, (table, (new, tt)))).ensures tt r (s, (table', (new', tt)))
        ≡ ⌜ MovedOver (view1 s table.now) new.now r.answer r.store new'.now ⌝
    migrate-says r = refl

    migrate-asks : (of-migrate.clauses 𝓛 mem run κs (s, (table, (new, tt)))).requires tt ≡ ⊤ₛ
    migrate-asks = refl
