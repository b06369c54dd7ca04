-- Document 01, "The plain book": the model of the desk; document 02, e: its step to edition 2.
use Rattle.std.specs.Prelude.{◌≡◌, ◌⊎◌, Bool, true, false, not, ◌||◌, List, [], ◌∷◌, ◌++◌, ℕ, eqb, leb, ltb, length, get_or, set}
use Rattle.std.proofs.Math.Option.{Option, none, some}
use Rattle.sets.specs.Set.{set_of}
use Rattle.density.specs.declared.Site.{Site}
use Rattle.density.specs.Network.{Listing, network, site_at, uncrewed}
use Rattle.density.specs.Rows.{Row, row, first_row, plan_rows}
use Rattle.density.specs.Figures.{depot_litres, depot_size, site_whole, difference, divisor, at_least}
use Rattle.records.specs.declared.Edition.{Edition}
use Rattle.records.specs.Values.{Plan}
use Rattle.records.specs.Format.{edition1, edition2, list_rows, listing_of, layout_rows, plan_of}
use Rattle.records.specs.Write.{list_bytes, plan_bytes, is_short}
use Rattle.judge.specs.Check.{True}
use Rattle.store.specs.declared.Request.{Request}
use Rattle.store.specs.declared.Request.TheVariants.{Load, Change, Add, Propose, Share, Depot, Difference, Written, AtLeast, ListWritten}
use Rattle.store.specs.Calls.{Call, Event, called, migrate, Reply, same, put_out, unbuffered, refused, done, shared, loaded, differ, reached}

-- "It has a list, at first without sites, and a plan, at first none"; it "is fed the number of table places". Document 02, g: "its list includes the roll, or the lack
-- of one."
pub record Model : Type 0 where
  pub edition : Edition
  pub places : ℕ
  pub list : Listing
  pub plan : Option Plan

abbrev pub empty_model : Edition → ℕ → Model
empty_model e n = record { edition = e; places = n; list = record { sites = []; roll = none }; plan = none }

-- "its plan is none", with another list
abbrev pub listed : Model → Listing → Model
listed b l = record { edition = b.edition; places = b.places; list = l; plan = none }

-- the list with other sites; it keeps its roll, or the lack of one
abbrev pub with_sites : Listing → List Site → Listing
with_sites l sites = record { sites = sites; roll = l.roll }

-- the site that a call adds
abbrev pub site_from : ℕ → ℕ → ℕ → Site
site_from f s w = record { first = f; second = s; litres = w }

-- "becomes the book's plan"
abbrev pub planned : Model → Plan → Model
planned b p = record { edition = b.edition; places = b.places; list = b.list; plan = some p }

abbrev pub missing : Option Plan → Bool
missing none = true
missing (some p) = false

-- the plan, where there is one
abbrev pub held : Option Plan → Plan
held none = record { groups = []; shares = [] }
held (some p) = p

-- how many sites the list has, and whether a depot is listed
abbrev pub count : Model → ℕ
count b = length b.list.sites

abbrev pub unlisted : Model → ℕ → Bool
unlisted b d = not ((network b.list).listed d)

-- Rows 7 to 16 of a plan for a list.
abbrev pub proposal_rows : Edition → Listing → List ℕ → List Row
proposal_rows e l bytes =
    layout_rows e (length l.sites) bytes
    ++ plan_rows (network l) (plan_of e (length l.sites) bytes).groups (plan_of e (length l.sites) bytes).shares

-- the rows that each call tries
abbrev pub rows_of : Model → Call → Request → List Row
rows_of b c Load = list_rows b.edition b.places c.input
rows_of b c (Change i w) = row 6 (eqb w 0) ∷ row 18 (leb (count b) i) ∷ []
rows_of b c (Add f s w) = row 2 (leb 512 (count b) || leb b.places (count b)) ∷ row 5 (ltb 63 f || ltb 63 s) ∷ row 6 (eqb w 0) ∷ row 23 (uncrewed b.list.roll (site_from f s w)) ∷ []
rows_of b c Propose = proposal_rows b.edition b.list c.input
rows_of b c (Share i) = row 17 (missing b.plan) ∷ row 18 (leb (count b) i) ∷ []
rows_of b c (Depot d) = row 17 (missing b.plan) ∷ row 19 (unlisted b d) ∷ []
rows_of b c (Difference a d) = row 17 (missing b.plan) ∷ row 19 (unlisted b a || unlisted b d) ∷ []
rows_of b c Written = row 17 (missing b.plan) ∷ row 20 (is_short c.buffer (plan_bytes b.edition (held b.plan))) ∷ []
rows_of b c (AtLeast m) = row 17 (missing b.plan) ∷ []
rows_of b c ListWritten = row 20 (is_short c.buffer (list_bytes b.edition b.list)) ∷ []

abbrev pub model_rows : Model → Call → List Row
model_rows b c = rows_of b c c.request

-- the site with other litres
abbrev pub with_litres : Site → ℕ → Site
with_litres x w = record { first = x.first; second = x.second; litres = w }

-- The model after a call, and its reply.
pub record Turn : Type 0 where
  pub after : Model
  pub reply : Reply

abbrev pub turned : Model → Reply → Turn
turned b r = record { after = b; reply = r }

-- What is granted where no row applies (a proposal is not judged by it but by `Proposes`, below).
-- "w × q, W, q and the difference with its divisor follow from the definition on its list alone"; s is read from its plan. Document 02, a: "the set that follows from the
-- definition on its list alone"; b: "its list and the length".
abbrev pub grant_of : Model → Call → Request → Turn
grant_of b c Load = turned (listed b (listing_of b.edition c.input)) (same c done)
grant_of b c (Change i w) = turned (listed b (with_sites b.list (set b.list.sites i (with_litres (site_at b.list i) w)))) (same c done)
grant_of b c (Add f s w) = turned (listed b (with_sites b.list (b.list.sites ++ (site_from f s w ∷ [])))) (same c done)
grant_of b c Propose = turned (planned b (plan_of b.edition (count b) c.input)) (same c done)
grant_of b c (Share i) = turned b (same c (shared (get_or (held b.plan).shares i 0) (site_whole (network b.list) i)))
grant_of b c (Depot d) = turned b (same c (loaded (depot_litres (network b.list) d) (depot_size (network b.list) d)))
grant_of b c (Difference a d) = turned b (same c (differ (difference (network b.list) a d) (divisor (network b.list) a d)))
grant_of b c Written = turned b (put_out c (plan_bytes b.edition (held b.plan)))
grant_of b c (AtLeast m) = turned b (same c (reached (set_of (at_least (network b.list) m) 64)))
grant_of b c ListWritten = turned b (put_out c (list_bytes b.edition b.list))

-- "A refused call or a question leaves the book as it is, and a refused call leaves its buffer so too." Document 02, b: asked for its list it "stays as it is".
abbrev pub settled : Option ℕ → Model → Call → Turn → Turn
settled (some n) b c t = turned b (same c (refused n))
settled none b c t = t

abbrev pub turn : Model → Call → Turn
turn b c = settled (first_row (model_rows b c)) b c (grant_of b c c.request)

-- "Propose: a plan true of the book's list becomes the book's plan. Any other gets the first of rows 7 to 16 that applies."
abbrev pub Proposes : Model → Call → Reply → Model → Type 0
Proposes b c r b' =
    ((p : Plan) × True b.edition b.list p c.input × (r ≡ same c done) × (b' ≡ planned b p))
    ⊎ (((p : Plan) → True b.edition b.list p c.input → ⊥)
    × (n : ℕ)
    × (first_row (model_rows b c) ≡ some n)
    × (r ≡ same c (refused n))
    × (b' ≡ b))

-- what the model says to a call, and the model after it
abbrev pub Turns : Model → Call → Reply → Model → Type 0
Turns b c r b' = turned b' r ≡ turn b c

abbrev pub SaysOf : Request → Model → Call → Reply → Model → Type 0
SaysOf Load = Turns
SaysOf (Change i w) = Turns
SaysOf (Add f s w) = Turns
SaysOf Propose = Proposes
SaysOf (Share i) = Turns
SaysOf (Depot d) = Turns
SaysOf (Difference a d) = Turns
SaysOf Written = Turns
SaysOf (AtLeast m) = Turns
SaysOf ListWritten = Turns

abbrev pub Says : Model → Call → Reply → Model → Type 0
Says b c r b' = SaysOf c.request b c r b'

-- ---- document 02, e: the step to edition 2

-- "where it succeeds, the book keeps its list and plan, now in edition 2, from there on with the new table and its places"
abbrev pub migrated_model : Model → ℕ → Model
migrated_model b places = record { edition = edition2; places = places; list = b.list; plan = b.plan }

-- "a new table with too few places gives row 2"; of the new table the model "is fed the number of table places"
abbrev pub migrate_rows : Model → ℕ → List Row
migrate_rows b places = row 2 (ltb places (count b)) ∷ []

abbrev pub migrate_turn : Option ℕ → Model → ℕ → Turn
migrate_turn (some n) b places = turned b (unbuffered (refused n))
migrate_turn none b places = turned (migrated_model b places) (unbuffered done)

-- "A history may contain this step wherever its desk is of edition 1"; a call may come anywhere
abbrev pub Possible : Edition → Event → Type 0
Possible e (called c) = Unit {0}
Possible e (migrate table) = e ≡ edition1

-- what the model says to an event, and the model after it
abbrev pub SaysTo : Event → Model → Reply → Model → Type 0
SaysTo (called c) b r b' = Says b c r b'
SaysTo (migrate table) b r b' = turned b' r ≡ migrate_turn (first_row (migrate_rows b (length table))) b (length table)

abbrev pub Follows : Model → Event → Reply → Model → Type 0
Follows b v r b' = Possible b.edition v × SaysTo v b r b'
