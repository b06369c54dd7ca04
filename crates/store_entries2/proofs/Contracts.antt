-- The contract of each entry, as the program logic has it, says that the call is a step of a history, and asks nothing. Each holds by computation, so a
-- changed contract is refused here. So whatever calls an entry gets, from a fresh store and any table, what it does is a history of edition 2: the
-- laws of any entry's calls (`serve/proofs/Entries`), at edition 2.
use mathlib.Core.Path.{◌≡◌, refl, ap}
use mathlib.Core.List.{List, map}
use Prim.Native.Nat.{ℕ}
use lib.ListN.{take, drop}
use seplogic.Ra.Ura.{Ura}
use prog.Memory.{Memory}
use prog.Routine.{Routine}
use contract.Monad.{Fun}
use contract.Lifetimes.{Lfts}
use contract.Notation.{connectives}
use types.Logic.{Logic}
use base.Logic.{SProp}
use denote.Ref.{Bor, MutBor}
use Rattle.density.specs.declared.Site.{Site}
use Rattle.records.specs.Format.{edition2}
use Rattle.records.proofs.Samples.{marked2}
use Rattle.held_state.specs.declared.Store.{Store}
use Rattle.store.specs.declared.Request.{Request}
use Rattle.store_entries2.specs.declared.Out2.{Out2}
use Rattle.store_entries2.specs.declared.OutOn2.{OutOn2}
use Rattle.store.specs.State.{model_of, fresh}
use Rattle.store.specs.Trace.{History, Exact, ListRoundTrip, SameFigures}
use Rattle.serve.specs.Entries.{Lawful}
use Rattle.serve.proofs.Entries.{calls-history, calls-exact, calls-list, calls-same-figures, calls-one, calls-on-exact, calls-on-list, calls-on-same-figures}
use Rattle.store_entries2.specs.Edition2.{view2, fresh2, entry2}
use Rattle.store_entries2.specs.Entries2.{Passed2, event2, Result2, replied2, Called2, Calls2, first2, CalledOn2, CallsOn2}
use Rattle.store_entries2.specs.contracts.fresh2 as of-fresh2
use Rattle.store_entries2.specs.contracts.call2 as of-call2
use Rattle.store_entries2.specs.contracts.call_on2 as of-call-on2

module _ {M : Type 1} {𝓤 : Ura M} (𝓛 : Logic 𝓤) (mem : Memory → SProp 𝓤) (run : Routine → Fun 𝓤) where
  open connectives 𝓤 use {⌜◌⌝, ⊤ₛ}

  fresh2-says : (κs : Lfts 0) (s : Store) → (of-fresh2.clauses 𝓛 mem run κs tt).ensures tt s tt ≡ ⌜ s ≡ fresh2 ⌝
  fresh2-says κs s = refl

  fresh2-asks : (κs : Lfts 0) → (of-fresh2.clauses 𝓛 mem run κs tt).requires tt ≡ ⊤ₛ
  fresh2-asks κs = refl

  module _ (κs : Lfts 3) (s : Store) (table table' : MutBor (List Site)) (q : Request) (input input' : Bor (List ℕ)) (buffer buffer' : MutBor (List ℕ)) where
    call2-says : (r : Out2)
        → (of-call2.clauses 𝓛 mem run κs (s, (table, (q, (input, (buffer, tt)))))).ensures tt r (s, (table', (q, (input', (buffer', tt)))))
        ≡ ⌜ Called2 s table.now (record { request = q; input = input.now; buffer = buffer.now }) (record { answer = r.answer; store = r.store; table = table'.now; buffer = buffer'.now }) ⌝
    call2-says r = refl

    call2-asks : (of-call2.clauses 𝓛 mem run κs (s, (table, (q, (input, (buffer, tt)))))).requires tt ≡ ⊤ₛ
    call2-asks = refl

  module _ (κs : Lfts 2) (s : Store) (table : List Site) (k : ℕ) (q : Request) (input input' : Bor (List ℕ)) (buffer buffer' : MutBor (List ℕ)) where
    call-on2-says : (r : OutOn2)
        → (of-call-on2.clauses 𝓛 mem run κs (s, (table, (k, (q, (input, (buffer, tt))))))).ensures tt r (s, (table, (k, (q, (input', (buffer', tt))))))
        ≡ ⌜ CalledOn2 k s table (record { request = q; input = input.now; buffer = buffer.now }) (record { answer = r.answer; store = r.store; table = r.table; buffer = buffer'.now }) ⌝
    call-on2-says r = refl

    call-on2-asks : (of-call-on2.clauses 𝓛 mem run κs (s, (table, (k, (q, (input, (buffer, tt))))))).requires tt ≡ ⊤ₛ
    call-on2-asks = refl

-- what `fresh2` gives is the fresh store of document 01, over a table of any length and content
pub fresh2-views : (s : Store) → s ≡ fresh2 → (table : List Site) → view2 s table ≡ fresh edition2 table
fresh2-views s e table = ap (λ (x : Store). view2 x table) e

pub lawful2 : Lawful entry2
lawful2 = record { marked = marked2; is-fresh = refl; same_store = λ s s' e. e; same-table = λ t t' e. e }

-- ---- calls of `call2`, one after another

-- Any calls of `call2`, from what `fresh2` gives and a table of any length and content, are a history of edition 2.
pub calls2-history : {s : Store} {table table' : List Site} {ps : List Passed2} {rs : List Result2} → Calls2 fresh2 table ps rs s table'
    → History edition2 table (map event2 ps) (map replied2 rs) (view2 s table')
calls2-history = calls-history lawful2

-- Demand 3 of these calls.
pub calls2-exact : {s : Store} {table table' : List Site} {ps : List Passed2} {rs : List Result2} → Calls2 fresh2 table ps rs s table'
    → Exact edition2 table (map event2 ps) (map replied2 rs) (view2 s table')
calls2-exact = calls-exact lawful2

-- Document 02, b: the list written out after them.
pub calls2-list : {s : Store} {table table' : List Site} {ps : List Passed2} {rs : List Result2} → Calls2 fresh2 table ps rs s table' → ListRoundTrip (view2 s table')
calls2-list = calls-list lawful2

-- Two stores that hold the same list after such calls: each W, q, w × q, difference and set of depots that both answer is the same.
pub calls2-same-figures : {s s' : Store} {t t' u u' : List Site} {ps qs : List Passed2} {rs ts : List Result2}
    → Calls2 fresh2 t ps rs s u → Calls2 fresh2 t' qs ts s' u' → (model_of (view2 s u)).list ≡ (model_of (view2 s' u')).list → SameFigures (view2 s u) (view2 s' u')
calls2-same-figures = calls-same-figures lawful2 lawful2

-- The calls settle the replies, the store and the whole table.
pub calls2-one : {s s' : Store} {table t t' : List Site} {ps : List Passed2} {rs rs' : List Result2} → Calls2 fresh2 table ps rs s t → Calls2 fresh2 table ps rs' s' t'
    → (map replied2 rs ≡ map replied2 rs') × (s ≡ s') × (t ≡ t')
calls2-one = calls-one lawful2

-- ---- calls of `call_on2`, one after another: such calls over the first k places of a table, and the places behind keep their content

-- Demand 3 of these calls.
pub calls-on2-exact : {k : ℕ} {s : Store} {table table' : List Site} {ps : List Passed2} {rs : List Result2} → CallsOn2 k fresh2 table ps rs s table'
    → Exact edition2 (take k table) (map event2 ps) (map replied2 (map (first2 k) rs)) (view2 s (take k table')) × (drop k table' ≡ drop k table)
calls-on2-exact = calls-on-exact lawful2

pub calls-on2-list : {k : ℕ} {s : Store} {table table' : List Site} {ps : List Passed2} {rs : List Result2} → CallsOn2 k fresh2 table ps rs s table'
    → ListRoundTrip (view2 s (take k table'))
calls-on2-list = calls-on-list lawful2

-- Two stores that hold the same list after such calls: each W, q, w × q, difference and set of depots that both answer is the same.
pub calls-on2-same-figures : {k k' : ℕ} {s s' : Store} {t t' u u' : List Site} {ps qs : List Passed2} {rs ts : List Result2}
    → CallsOn2 k fresh2 t ps rs s u → CallsOn2 k' fresh2 t' qs ts s' u'
    → (model_of (view2 s (take k u))).list ≡ (model_of (view2 s' (take k' u'))).list → SameFigures (view2 s (take k u)) (view2 s' (take k' u'))
calls-on2-same-figures = calls-on-same-figures lawful2 lawful2
