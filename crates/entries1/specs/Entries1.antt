-- Calls of the entries of edition 1, one after another: those of any entry (`serve/specs/Entries`), at edition 1's structs.
use Rattle.std.specs.Prelude.{List, ℕ}
use Rattle.table.specs.declared.Site1.{Site1}
use Rattle.edition1.specs.declared.Store1.{Store1}
use Rattle.edition1.specs.declared.Decision1.{Decision1}
use Rattle.edition1.specs.declared.Out1.{Out1}
use Rattle.edition1.specs.Edition1.{entry1}
use Rattle.store.specs.Calls.{Event, Reply}
use Rattle.serve.specs.Entries.{Passed, event, Returned, replied, Called, Calls, first, CalledOn, CallsOn}

-- what the entry gives back of a decision
abbrev pub out_of : Decision1 → Out1
out_of d = record { answer = d.answer; store = d.store }

-- what a call is passed and gives back, as the definition has it
abbrev pub Passed1 : Type 0
Passed1 = Passed entry1

abbrev pub event1 : Passed1 → Event
event1 = event entry1

abbrev pub Result1 : Type 0
Result1 = Returned entry1

abbrev pub replied1 : Result1 → Reply
replied1 = replied entry1

-- `call1`: its contract, as `call1-says` has it, and its calls
abbrev pub Called1 : Store1 → List Site1 → Passed1 → Result1 → Type 0
Called1 = Called entry1

abbrev pub Calls1 : Store1 → List Site1 → List Passed1 → List Result1 → Store1 → List Site1 → Type 0
Calls1 = Calls entry1

-- `call_on1` over the first so many places of its table: its contract, as `call-on1-says` has it, and its calls
abbrev pub first1 : ℕ → Result1 → Result1
first1 = first entry1

abbrev pub CalledOn1 : ℕ → Store1 → List Site1 → Passed1 → Result1 → Type 0
CalledOn1 = CalledOn entry1

abbrev pub CallsOn1 : ℕ → Store1 → List Site1 → List Passed1 → List Result1 → Store1 → List Site1 → Type 0
CallsOn1 = CallsOn entry1
