-- Calls of the entries of edition 2, one after another: those of any entry (`serve/specs/Entries`), at edition 2's structs.
use Rattle.std.specs.Prelude.{List, ℕ}
use Rattle.density.specs.declared.Site.{Site}
use Rattle.held_state.specs.declared.Store.{Store}
use Rattle.store_entries2.specs.Edition2.{entry2}
use Rattle.store.specs.Calls.{Event, Reply}
use Rattle.serve.specs.Entries.{Passed, event, Returned, replied, Called, Calls, first, CalledOn, CallsOn}

-- what a call is passed and gives back, as the definition has it
abbrev pub Passed2 : Type 0
Passed2 = Passed entry2

abbrev pub event2 : Passed2 → Event
event2 = event entry2

abbrev pub Result2 : Type 0
Result2 = Returned entry2

abbrev pub replied2 : Result2 → Reply
replied2 = replied entry2

-- `call2`: its contract, as `call2-says` has it, and its calls
abbrev pub Called2 : Store → List Site → Passed2 → Result2 → Type 0
Called2 = Called entry2

abbrev pub Calls2 : Store → List Site → List Passed2 → List Result2 → Store → List Site → Type 0
Calls2 = Calls entry2

-- `call_on2` over the first so many places of its table: its contract, as `call-on2-says` has it, and its calls
abbrev pub first2 : ℕ → Result2 → Result2
first2 = first entry2

abbrev pub CalledOn2 : ℕ → Store → List Site → Passed2 → Result2 → Type 0
CalledOn2 = CalledOn entry2

abbrev pub CallsOn2 : ℕ → Store → List Site → List Passed2 → List Result2 → Store → List Site → Type 0
CallsOn2 = CallsOn entry2
