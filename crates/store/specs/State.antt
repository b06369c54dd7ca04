-- Document 01, "Entry points", the desk: what each call does at any desk and table; document 02, e: what the step to edition 2 does.
use Rattle.std.specs.Prelude.{◌≡◌, Bool, true, false, cond, ◌&&◌, List, ◌∷◌, ◌++◌, ℕ, ◌+◌, ◌*◌, length, get_or, drop, set, replicate}
use Rattle.std.proofs.Math.Option.{Option, none, some}
use Rattle.sets.specs.Set.{set_of}
use Rattle.density.specs.declared.Site.{Site}
use Rattle.density.specs.Network.{network, site_at}
use Rattle.density.specs.Plan.{whole}
use Rattle.density.specs.Rows.{row, first_row, plan_rows}
use Rattle.density.specs.Figures.{difference_of, depots_read}
use Rattle.records.specs.declared.Edition.{Edition}
use Rattle.records.specs.Values.{Plan, roll_array}
use Rattle.records.specs.Answer.{filled}
use Rattle.records.specs.Format.{edition2, sites_of, roll_of, layout_rows, plan_of}
use Rattle.records.specs.Write.{list_bytes, plan_bytes}
use Rattle.records.specs.declared.RollArray.{RollArray}
use Rattle.held_state.specs.declared.Store.{Store}
use Rattle.held_state.specs.Held.{State, on, list_of, plan_held, corrupt, litres_at, size_at}
use Rattle.store.specs.declared.Request.{Request}
use Rattle.store.specs.declared.Request.TheVariants.{Load, Change, Add, Propose, Share, Depot, Difference, Written, AtLeast, ListWritten}
use Rattle.store.specs.Calls.{Call, Event, called, migrate, Reply, same, put_out, unbuffered, refused, done, shared, loaded, differ, reached}
use Rattle.store.specs.Model.{Model, count, rows_of, with_litres, site_from, migrate_rows}

-- the list held, and the plan held or the lack of one
abbrev pub model_of : State → Model
model_of s =
    record { edition = s.edition; places = length s.table; list = list_of s; plan = cond s.store.held (some (plan_held s)) none }

-- every call but load tries row 0
abbrev pub tries_zero : Request → Bool
tries_zero Load = false
tries_zero (Change i w) = true
tries_zero (Add f s w) = true
tries_zero Propose = true
tries_zero (Share i) = true
tries_zero (Depot d) = true
tries_zero (Difference a d) = true
tries_zero Written = true
tries_zero (AtLeast m) = true
tries_zero ListWritten = true

-- Propose: the first of rows 12 to 16 that applies to a plan for the held list
abbrev pub plan_row : Model → Plan → Option ℕ
plan_row b p = first_row (plan_rows (network b.list) p.groups p.shares)

abbrev pub first_of : Option ℕ → Option ℕ → Option ℕ
first_of (some n) o = some n
first_of none o = o

-- The first row that applies of those that a call tries: a proposal's of its layout, then of the plan laid out.
abbrev pub row_for : Model → Call → Request → Option ℕ
row_for b c Load = first_row (rows_of b c Load)
row_for b c (Change i w) = first_row (rows_of b c (Change i w))
row_for b c (Add f s w) = first_row (rows_of b c (Add f s w))
row_for b c Propose = first_of (first_row (layout_rows b.edition (count b) c.input)) (plan_row b (plan_of b.edition (count b) c.input))
row_for b c (Share i) = first_row (rows_of b c (Share i))
row_for b c (Depot d) = first_row (rows_of b c (Depot d))
row_for b c (Difference a d) = first_row (rows_of b c (Difference a d))
row_for b c Written = first_row (rows_of b c Written)
row_for b c (AtLeast m) = first_row (rows_of b c (AtLeast m))
row_for b c ListWritten = first_row (rows_of b c ListWritten)

abbrev pub refusal : State → Call → Option ℕ
refusal s c = cond (tries_zero c.request && corrupt s) (some 0) (row_for (model_of s) c c.request)

-- a store of n sites, with this roll or none, that holds no plan
abbrev pub bare : ℕ → RollArray → Store
bare n roll = record { count = n; held = false; grouped = 0; groups = replicate 64 0; shares = replicate 512 0; roll = roll }

-- "A fresh desk has no sites, no plan, and 512 places for shares, all zero. Its 64 places for groups are zero too." Document 02, g: of rolls "a fresh desk and one turned by
-- e) have none".
abbrev pub fresh : Edition → List Site → State
fresh e table = record { edition = e; store = bare 0 (roll_array none); table = table }

-- "a plan that passes for the held list becomes the held plan, and group and share places beyond it become zero"
abbrev pub holding : Store → Plan → Store
holding s p =
    record { count = s.count; held = true; grouped = length p.groups; groups = filled 64 p.groups 0; shares = filled 512 p.shares 0; roll = s.roll }

-- The state after a call, and its reply.
pub record Done : Type 0 where
  pub after : State
  pub reply : Reply

abbrev pub next : State → Store → List Site → Reply → Done
next s store table r = record { after = record { edition = s.edition; store = store; table = table }; reply = r }

abbrev pub stays : State → Reply → Done
stays s r = record { after = s; reply = r }

-- the plan held and the list held, as bytes
abbrev pub plan_out : State → List ℕ
plan_out s = plan_bytes s.edition (plan_held s)

abbrev pub list_out : State → List ℕ
list_out s = list_bytes s.edition (list_of s)

-- what a call puts out that writes into its buffer; no other call puts out anything
abbrev pub Output : State → Request → List ℕ → Type 0
Output s Load out = ⊥
Output s (Change i w) out = ⊥
Output s (Add f d w) out = ⊥
Output s Propose out = ⊥
Output s (Share i) out = ⊥
Output s (Depot d) out = ⊥
Output s (Difference a d) out = ⊥
Output s Written out = out ≡ plan_out s
Output s (AtLeast m) out = ⊥
Output s ListWritten out = out ≡ list_out s

-- What a call does that no row refuses. "success drops the plan, even if no figure differs, and sets its groups and share places to zero."
-- "Table places beyond the sites keep their content." Document 02, g: the desk keeps the roll, or the lack of one, "of the list last loaded". a: "reading ends at the first group below the mark"; b: "puts the
-- sites into a buffer as a list record by record".
abbrev pub effect_of : State → Call → Request → Done
effect_of s c Load =
    let sites = sites_of s.edition c.input in
    next s (bare (length sites) (roll_array (roll_of s.edition c.input))) (sites ++ drop (length sites) s.table) (same c done)
effect_of s c (Change i w) = next s (bare s.store.count s.store.roll) (set s.table i (with_litres (site_at (list_of s) i) w)) (same c done)
effect_of s c (Add f d w) =
    next s (bare (s.store.count + 1) s.store.roll) (set s.table s.store.count (site_from f d w)) (same c done)
effect_of s c Propose = next s (holding s.store (plan_of s.edition s.store.count c.input)) s.table (same c done)
effect_of s c (Share i) = stays s (same c (shared (get_or s.store.shares i 0) (whole (network (list_of s)) (plan_held s).groups i)))
effect_of s c (Depot d) = stays s (same c (loaded (litres_at s d) (size_at s d)))
effect_of s c (Difference a d) =
    stays s (same c (differ (difference_of (litres_at s a) (size_at s a) (litres_at s d) (size_at s d)) (size_at s a * size_at s d)))
effect_of s c Written = stays s (put_out c (plan_out s))
effect_of s c (AtLeast m) = stays s (same c (reached (set_of (depots_read (network (list_of s)) (plan_held s).groups m) 64)))
effect_of s c ListWritten = stays s (put_out c (list_out s))

-- "A refusal is its number and no other figure, and every buffer, table and desk remains as before, its held plan included."
abbrev pub settle : Option ℕ → State → Call → Done → Done
settle (some n) s c d = stays s (same c (refused n))
settle none s c d = d

abbrev pub step : State → Call → Done
step s c = settle (refusal s c) s c (effect_of s c c.request)

-- row n refuses the call: so it is answered, and nothing changes
abbrev pub RefusedBy : State → Call → ℕ → Type 0
RefusedBy s c n = step s c ≡ stays s (same c (refused n))

-- ---- document 02, e: the step to edition 2

-- "Sites, the held plan and the lack of one carry over, group and share places beyond them are zero"; of rolls "one turned by e)" has none
abbrev pub carried : State → Store
carried s =
    let empty = bare s.store.count (roll_array none) in
    cond s.store.held (holding empty (plan_held s)) empty

-- the store of edition 2 over the new table; document 01: "Table places beyond the sites keep their content"
abbrev pub migrated : State → List Site → State
migrated s table = on edition2 (carried s) ((list_of s).sites ++ drop s.store.count table)

-- "The old desk answers to row 0 first, a new table with too few places gives row 2"
abbrev pub migrate_row : State → List Site → Option ℕ
migrate_row s table = first_row (row 0 (corrupt s) ∷ migrate_rows (model_of s) (length table))

-- the state after the step; where it is refused the history goes on with the old store and table
abbrev pub migrate_step : Option ℕ → State → List Site → Done
migrate_step (some n) s table = stays s (unbuffered (refused n))
migrate_step none s table = record { after = migrated s table; reply = unbuffered done }

-- what an event does
abbrev pub step_on : State → Event → Done
step_on s (called c) = step s c
step_on s (migrate table) = migrate_step (migrate_row s table) s table
