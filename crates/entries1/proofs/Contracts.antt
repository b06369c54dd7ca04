-- The contract of each entry, as the program logic has it, says that the call is a step of a history, and asks nothing. Each holds by computation, so a
-- changed contract is refused here. So whatever calls an entry gets, from a fresh store and any table, what it does is a history of document 01: the
-- laws of any entry's calls (`serve/proofs/Entries`), at edition 1.
use mathlib.Core.Path.{◌≡◌, refl, ap}
use mathlib.Core.List.{List, map}
use Prim.Native.Nat.{ℕ}
use lib.ListN.{take, drop}
use seplogic.Ra.Ura.{Ura}
use prog.Memory.{Memory}
use prog.Routine.{Routine}
use contract.Monad.{Fun}
use contract.Lifetimes.{Lfts}
use contract.Notation.{connectives}
use types.Logic.{Logic}
use base.Logic.{SProp}
use denote.Ref.{Bor, MutBor}
use Rattle.records.specs.Format.{edition1}
use Rattle.records.proofs.Samples.{marked1}
use Rattle.table.specs.declared.Site1.{Site1}
use Rattle.table.specs.Widths.{widened}
use Rattle.table.proofs.Widths.{widened-injective}
use Rattle.held_state.specs.declared.Store.{Store}
use Rattle.edition1.specs.declared.Store1.{Store1}
use Rattle.edition1.specs.declared.Request1.{Request1}
use Rattle.edition1.specs.declared.Out1.{Out1}
use Rattle.entries1.specs.declared.OutOn1.{OutOn1}
use Rattle.store.specs.State.{model_of, fresh}
use Rattle.store.specs.Trace.{History, Exact, ListRoundTrip, SameFigures}
use Rattle.serve.specs.Entries.{Lawful}
use Rattle.serve.proofs.Entries.{calls-history, calls-exact, calls-list, calls-same-figures, calls-one, calls-on-exact, calls-on-list, calls-on-same-figures}
use Rattle.edition1.specs.Edition1.{view1, fresh1, entry1}
use Rattle.entries1.specs.Entries1.{Passed1, event1, Result1, replied1, Called1, Calls1, first1, CalledOn1, CallsOn1}
use Rattle.edition1.specs.contracts.fresh1 as of-fresh1
use Rattle.entries1.specs.contracts.call1 as of-call1
use Rattle.entries1.specs.contracts.call_on1 as of-call-on1

module _ {M : Type 1} {𝓤 : Ura M} (𝓛 : Logic 𝓤) (mem : Memory → SProp 𝓤) (run : Routine → Fun 𝓤) where
  open connectives 𝓤 use {⌜◌⌝, ⊤ₛ}

  fresh1-says : (κs : Lfts 0) (s : Store1) → (of-fresh1.clauses 𝓛 mem run κs tt).ensures tt s tt ≡ ⌜ s ≡ fresh1 ⌝
  fresh1-says κs s = refl

  fresh1-asks : (κs : Lfts 0) → (of-fresh1.clauses 𝓛 mem run κs tt).requires tt ≡ ⊤ₛ
  fresh1-asks κs = refl

  module _ (κs : Lfts 3) (s : Store1) (table table' : MutBor (List Site1)) (q : Request1) (input input' : Bor (List ℕ)) (buffer buffer' : MutBor (List ℕ)) where
    call1-says : (r : Out1)
        → (of-call1.clauses 𝓛 mem run κs (s, (table, (q, (input, (buffer, tt)))))).ensures tt r (s, (table', (q, (input', (buffer', tt)))))
        ≡ ⌜ Called1 s table.now (record { request = q; input = input.now; buffer = buffer.now }) (record { answer = r.answer; store = r.store; table = table'.now; buffer = buffer'.now }) ⌝
    call1-says r = refl

    call1-asks : (of-call1.clauses 𝓛 mem run κs (s, (table, (q, (input, (buffer, tt)))))).requires tt ≡ ⊤ₛ
    call1-asks = refl

  module _ (κs : Lfts 2) (s : Store1) (table : List Site1) (k : ℕ) (q : Request1) (input input' : Bor (List ℕ)) (buffer buffer' : MutBor (List ℕ)) where
    call-on1-says : (r : OutOn1)
        → (of-call-on1.clauses 𝓛 mem run κs (s, (table, (k, (q, (input, (buffer, tt))))))).ensures tt r (s, (table, (k, (q, (input', (buffer', tt))))))
        ≡ ⌜ CalledOn1 k s table (record { request = q; input = input.now; buffer = buffer.now }) (record { answer = r.answer; store = r.store; table = r.table; buffer = buffer'.now }) ⌝
    call-on1-says r = refl

    call-on1-asks : (of-call-on1.clauses 𝓛 mem run κs (s, (table, (k, (q, (input, (buffer, tt))))))).requires tt ≡ ⊤ₛ
    call-on1-asks = refl

-- what `fresh1` gives is the fresh store of document 01, over a table of any length and content
pub fresh1-views : (s : Store1) → s ≡ fresh1 → (table : List Site1) → view1 s table ≡ fresh edition1 (map widened table)
fresh1-views s e table = ap (λ (x : Store1). view1 x table) e

-- the figures that a store and a table are viewed as are theirs alone
narrow-store : Store → Store1
narrow-store s = record { count = s.count; held = s.held; grouped = s.grouped; groups = s.groups; shares = s.shares }

pub lawful1 : Lawful entry1
unfolding narrow-store
lawful1 = record { marked = marked1; is-fresh = refl; same_store = λ s s' e. ap narrow-store e; same-table = widened-injective }

-- ---- calls of `call1`, one after another

-- Any calls of `call1`, from what `fresh1` gives and a table of any length and content, are a history of edition 1.
pub calls1-history : {s : Store1} {table table' : List Site1} {ps : List Passed1} {rs : List Result1} → Calls1 fresh1 table ps rs s table'
    → History edition1 (map widened table) (map event1 ps) (map replied1 rs) (view1 s table')
calls1-history = calls-history lawful1

-- Demand 3 of these calls.
pub calls1-exact : {s : Store1} {table table' : List Site1} {ps : List Passed1} {rs : List Result1} → Calls1 fresh1 table ps rs s table'
    → Exact edition1 (map widened table) (map event1 ps) (map replied1 rs) (view1 s table')
calls1-exact = calls-exact lawful1

-- Document 02, b: the list written out after them.
pub calls1-list : {s : Store1} {table table' : List Site1} {ps : List Passed1} {rs : List Result1} → Calls1 fresh1 table ps rs s table' → ListRoundTrip (view1 s table')
calls1-list = calls-list lawful1

-- Two stores that hold the same list after such calls: each W, q, w × q, difference and set of depots that both answer is the same.
pub calls1-same-figures : {s s' : Store1} {t t' u u' : List Site1} {ps qs : List Passed1} {rs ts : List Result1}
    → Calls1 fresh1 t ps rs s u → Calls1 fresh1 t' qs ts s' u' → (model_of (view1 s u)).list ≡ (model_of (view1 s' u')).list → SameFigures (view1 s u) (view1 s' u')
calls1-same-figures = calls-same-figures lawful1 lawful1

-- The calls settle the replies, the store and the whole table.
pub calls1-one : {s s' : Store1} {table t t' : List Site1} {ps : List Passed1} {rs rs' : List Result1} → Calls1 fresh1 table ps rs s t → Calls1 fresh1 table ps rs' s' t'
    → (map replied1 rs ≡ map replied1 rs') × (s ≡ s') × (t ≡ t')
calls1-one = calls-one lawful1

-- ---- calls of `call_on1`, one after another: such calls over the first k places of a table, and the places behind keep their content

-- Demand 3 of these calls.
pub calls-on1-exact : {k : ℕ} {s : Store1} {table table' : List Site1} {ps : List Passed1} {rs : List Result1} → CallsOn1 k fresh1 table ps rs s table'
    → Exact edition1 (map widened (take k table)) (map event1 ps) (map replied1 (map (first1 k) rs)) (view1 s (take k table')) × (drop k table' ≡ drop k table)
calls-on1-exact = calls-on-exact lawful1

pub calls-on1-list : {k : ℕ} {s : Store1} {table table' : List Site1} {ps : List Passed1} {rs : List Result1} → CallsOn1 k fresh1 table ps rs s table'
    → ListRoundTrip (view1 s (take k table'))
calls-on1-list = calls-on-list lawful1

-- Two stores that hold the same list after such calls: each W, q, w × q, difference and set of depots that both answer is the same.
pub calls-on1-same-figures : {k k' : ℕ} {s s' : Store1} {t t' u u' : List Site1} {ps qs : List Passed1} {rs ts : List Result1}
    → CallsOn1 k fresh1 t ps rs s u → CallsOn1 k' fresh1 t' qs ts s' u'
    → (model_of (view1 s (take k u))).list ≡ (model_of (view1 s' (take k' u'))).list → SameFigures (view1 s (take k u)) (view1 s' (take k' u'))
calls-on1-same-figures = calls-on-same-figures lawful1 lawful1
