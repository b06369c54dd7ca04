-- Edition 2: its store, table and requests are the definition's.
use Rattle.std.specs.Prelude.{List, ℕ}
use Rattle.std.proofs.Math.Option.{none}
use Rattle.density.specs.declared.Site.{Site}
use Rattle.records.specs.Format.{edition2}
use Rattle.records.specs.Values.{roll_array}
use Rattle.held_state.specs.declared.Store.{Store}
use Rattle.held_state.specs.Held.{State, on}
use Rattle.store.specs.declared.Request.{Request}
use Rattle.store.specs.declared.Decision.{Decision}
use Rattle.store.specs.Calls.{Call, told}
use Rattle.store.specs.State.{Done, bare}
use Rattle.serve.specs.Entries.{Typed, Entry}
use Rattle.store_entries2.specs.declared.Out2.{Out2}

abbrev pub view2 : Store → List Site → State
view2 s table = on edition2 s table

abbrev pub call_of2 : Request → List ℕ → List ℕ → Call
call_of2 q input buffer = record { request = q; input = input; buffer = buffer }

-- what the types of a call say: its input is bytes, and the litres that it names have 32 bits
abbrev pub Typed2 : Request → List ℕ → Type 0
Typed2 q input = Typed edition2 q input

-- "A fresh desk has no sites, no plan, and 512 places for shares, all zero. Its 64 places for groups are zero too." Document 02, g: of rolls "a fresh desk and one turned by
-- e) have none".
abbrev pub fresh2 : Store
fresh2 = bare 0 (roll_array none)

-- the structs of edition 2 are what they are in figures
abbrev pub entry2 : Entry
entry2 =
    record {
      StoreType = Store;
      SiteType = Site;
      RequestType = Request;
      edition = edition2;
      figures = λ s. s;
      sites = λ table. table;
      request = λ q. q;
      fresh = fresh2;
    }

-- what the entry gives back of a decision
abbrev pub out_of : Decision → Out2
out_of d = record { answer = d.answer; store = d.store }

-- what an entry gives back, with the table and the buffer as it left them
abbrev pub turned2 : Out2 → List Site → List ℕ → Done
turned2 r table buffer = record { after = view2 r.store table; reply = record { answer = told r.answer; buffer = buffer } }
