-- Calls of a typed entry over a lent table, one after another, for any edition: what a call is passed, what it gives back, and its contract as a step.
use Rattle.std.specs.Prelude.{◌≡◌, List, [], ◌∷◌, ℕ, ◌^◌, take, drop}
use Rattle.std.proofs.Math.Option.{none as no-roll}
use Rattle.std.specs.declared.result.Result.{Result}
use Rattle.density.specs.declared.Site.{Site}
use Rattle.records.specs.declared.Edition.{Edition}
use Rattle.records.specs.Bytes.{Bytes}
use Rattle.records.specs.declared.refusal.Refusal.{Refusal}
use Rattle.records.specs.Values.{roll_array}
use Rattle.records.specs.Write.{Marked}
use Rattle.held_state.specs.declared.Store.{Store}
use Rattle.held_state.specs.Held.{State, on}
use Rattle.store.specs.declared.Request.{Request}
use Rattle.store.specs.declared.Answer.{Answer}
use Rattle.store.specs.Calls.{Call, Event, called, Reply, told}
use Rattle.store.specs.State.{bare}
use Rattle.store.specs.Trace.{Steps}
use Rattle.store.specs.Widths.{Named}

-- what the types of a call say: its input is bytes, and the litres that it names have the edition's width
abbrev pub Typed : Edition → Request → List ℕ → Type 0
Typed e q input = Bytes input × Named (256 ^ e.litres) q

-- The structs of an edition's entry (its store, the sites of its table, its requests), what each is in figures, and a fresh store.
pub record Entry : Type 1 where
  pub StoreType : Type 0
  pub SiteType : Type 0
  pub RequestType : Type 0
  pub edition : Edition
  pub figures : StoreType → Store
  pub sites : List SiteType → List Site
  pub request : RequestType → Request
  pub fresh : StoreType

-- What the theorems ask of it: marks of two bytes, that the fresh store is document 01's, and that figures tell stores and tables apart.
pub record Lawful (E : Entry) : Type 0 where
  pub marked : Marked E.edition
  pub is-fresh : E.figures E.fresh ≡ bare 0 (roll_array no-roll)
  pub same_store : (s s' : E.StoreType) → E.figures s ≡ E.figures s' → s ≡ s'
  pub same-table : (t t' : List E.SiteType) → E.sites t ≡ E.sites t' → t ≡ t'

abbrev pub view : (E : Entry) → E.StoreType → List E.SiteType → State
view E s table = on E.edition (E.figures s) (E.sites table)

-- what a call is passed beside the store and the table: a request, an input and a buffer
pub record Passed (E : Entry) : Type 0 where
  pub request : E.RequestType
  pub input : List ℕ
  pub buffer : List ℕ

abbrev pub call : (E : Entry) → Passed E → Call
call E p = record { request = E.request p.request; input = p.input; buffer = p.buffer }

-- the call as an event of a history
abbrev pub event : (E : Entry) → Passed E → Event
event E p = called (call E p)

-- what it gives back, and the table and the buffer as it left them
pub record Returned (E : Entry) : Type 0 where
  pub answer : Result Answer Refusal
  pub store : E.StoreType
  pub table : List E.SiteType
  pub buffer : List ℕ

abbrev pub replied : (E : Entry) → Returned E → Reply
replied E r = record { answer = told r.answer; buffer = r.buffer }

-- ---- a call over a lent table

-- its contract
abbrev pub Called : (E : Entry) → E.StoreType → List E.SiteType → Passed E → Returned E → Type 0
Called E s table p r = Typed E.edition (E.request p.request) p.input × Steps (view E s table) (call E p) (replied E r) (view E r.store r.table)

-- "Each call gets the desk and the table as the one before left them, and nobody else writes either meanwhile."
pub data Calls (E : Entry) : E.StoreType → List E.SiteType → List (Passed E) → List (Returned E) → E.StoreType → List E.SiteType → Type 0 where
  none : {s : E.StoreType} {t : List E.SiteType} → Calls E s t [] [] s t
  next : {s s' : E.StoreType} {t t' : List E.SiteType} {p : Passed E} {ps : List (Passed E)} {r : Returned E} {rs : List (Returned E)} → Called E s t p r
      → Calls E r.store r.table ps rs s' t' → Calls E s t (p ∷ ps) (r ∷ rs) s' t'

-- ---- a call over the first k places of a table by value: the places behind keep their content

-- what it gives back as a call over these places does
abbrev pub first : (E : Entry) → ℕ → Returned E → Returned E
first E k r = record { answer = r.answer; store = r.store; table = take k r.table; buffer = r.buffer }

-- its contract
abbrev pub CalledOn : (E : Entry) → ℕ → E.StoreType → List E.SiteType → Passed E → Returned E → Type 0
CalledOn E k s table p r =
    Typed E.edition (E.request p.request) p.input
    × Steps (view E s (take k table)) (call E p) (replied E r) (view E r.store (take k r.table))
    × (drop k r.table ≡ drop k table)

pub data CallsOn (E : Entry) (k : ℕ) : E.StoreType → List E.SiteType → List (Passed E) → List (Returned E) → E.StoreType → List E.SiteType → Type 0 where
  none-on : {s : E.StoreType} {t : List E.SiteType} → CallsOn E k s t [] [] s t
  next-on : {s s' : E.StoreType} {t t' : List E.SiteType} {p : Passed E} {ps : List (Passed E)} {r : Returned E} {rs : List (Returned E)} → CalledOn E k s t p r
      → CallsOn E k r.store r.table ps rs s' t' → CallsOn E k s t (p ∷ ps) (r ∷ rs) s' t'
