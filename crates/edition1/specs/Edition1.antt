-- Edition 1: what its store, table and requests are in figures. Only fields are renamed; and there is no roll.
use Rattle.std.specs.Prelude.{◌≡◌, false, List, map, ℕ, ◌≤◌, length, take, replicate}
use Rattle.std.proofs.Math.Option.{none}
use Rattle.records.specs.Format.{edition1}
use Rattle.records.specs.Values.{roll_array}
use Rattle.table.specs.declared.Site1.{Site1}
use Rattle.table.specs.Table.{overlay}
use Rattle.table.specs.Widths.{widened}
use Rattle.held_state.specs.declared.Store.{Store}
use Rattle.edition1.specs.declared.Store1.{Store1}
use Rattle.store.specs.declared.Request.{Request}
use Rattle.store.specs.declared.Request.TheVariants as wide
use Rattle.edition1.specs.declared.Request1.{Request1}
use Rattle.edition1.specs.declared.Request1.TheVariants.{Load, Change, Add, Propose, Share, Depot, Difference, Written, AtLeast, ListWritten}
use Rattle.edition1.specs.declared.Decision1.{Decision1}
use Rattle.edition1.specs.declared.Out1.{Out1}
use Rattle.store.specs.Calls.{Call, told}
use Rattle.held_state.specs.Held.{State}
use Rattle.store.specs.State.{Done, step}
use Rattle.serve.specs.Entries.{Typed, Entry}

abbrev pub store_of1 : Store1 → Store
store_of1 s = record { count = s.count; held = s.held; grouped = s.grouped; groups = s.groups; shares = s.shares; roll = roll_array none }

abbrev pub view1 : Store1 → List Site1 → State
view1 s table = record { edition = edition1; store = store_of1 s; table = map widened table }

abbrev pub request_of1 : Request1 → Request
request_of1 Load = wide.Load
request_of1 (Change i w) = wide.Change i w
request_of1 (Add f s w) = wide.Add f s w
request_of1 Propose = wide.Propose
request_of1 (Share i) = wide.Share i
request_of1 (Depot d) = wide.Depot d
request_of1 (Difference a b) = wide.Difference a b
request_of1 Written = wide.Written
request_of1 (AtLeast m) = wide.AtLeast m
request_of1 ListWritten = wide.ListWritten

abbrev pub call_of1 : Request1 → List ℕ → List ℕ → Call
call_of1 q input buffer = record { request = request_of1 q; input = input; buffer = buffer }

-- what the types of a call say: its input is bytes, and the litres that it names have 16 bits
abbrev pub Typed1 : Request1 → List ℕ → Type 0
Typed1 q input = Typed edition1 (request_of1 q) input

-- "A fresh desk has no sites, no plan, and 512 places for shares, all zero. Its 64 places for groups are zero too."
abbrev pub fresh1 : Store1
fresh1 = record { count = 0; held = false; grouped = 0; groups = replicate 64 0; shares = replicate 512 0 }

-- the structs of edition 1, and what they are in figures
abbrev pub entry1 : Entry
entry1 =
    record {
      StoreType = Store1;
      SiteType = Site1;
      RequestType = Request1;
      edition = edition1;
      figures = store_of1;
      sites = map widened;
      request = request_of1;
      fresh = fresh1;
    }

-- what an entry gives back, with the table and the buffer as it left them
abbrev pub turned1 : Out1 → List Site1 → List ℕ → Done
turned1 r table buffer = record { after = view1 r.store table; reply = record { answer = told r.answer; buffer = buffer } }

-- The decision is the step on every table of that many places whose first 512 places, or all where it has fewer, the sites begin with.
-- There is such a table for any 512 sites and any number of places (`a-table`).
pub record Served1 (store : Store1) (sites : List Site1) (places : ℕ) (request : Request1) (input buffer : List ℕ) (r : Decision1) (last : List ℕ) : Type 0 where
  pub steps : (table : List Site1) → places ≡ length table → take places sites ≡ take 512 table
      → turned1 (record { answer = r.answer; store = r.store }) (overlay r.n r.sites table) last ≡ step (view1 store table) (call_of1 request input buffer)
  pub few : r.n ≤ 512
  pub room : r.n ≤ places
