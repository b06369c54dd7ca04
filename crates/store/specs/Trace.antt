-- Document 01, "The plain book": histories (traces), and demand 3; document 02, e: histories through the step to edition 2; g: the roll; h: depots without sites.
use Rattle.std.specs.Prelude.{◌≡◌, Bool, true, false, cond, List, [], ◌∷◌, ◌↔◌, ◌⊎◌, ℕ, ◌-◌, ◌*◌, ◌<◌, ◌≤◌, T, ℤ, length, get_or, take, drop, replicate}
use Rattle.std.proofs.Math.Option.{Option, none, some}
use Rattle.sets.specs.Set.{◌⊆◌, has, set_of}
use Rattle.density.specs.declared.Site.{Site}
use Rattle.density.specs.Network.{network, size}
use Rattle.density.specs.Groups.{Decomposition}
use Rattle.density.specs.Plan.{place, group_litres, group_size, whole}
use Rattle.density.specs.Isolated.{isolated, IsolatedLast}
use Rattle.density.specs.Figures.{difference_of, at_least_by, every_group}
use Rattle.records.specs.declared.Edition.{Edition}
use Rattle.records.specs.Bytes.{Bytes}
use Rattle.records.specs.Values.{Plan}
use Rattle.records.specs.Outcome.{passed}
use Rattle.records.specs.Format.{edition1, edition2, roll_of, read_list, plan_of}
use Rattle.records.specs.Write.{list_bytes, plan_bytes, onto, is_short, All}
use Rattle.store.specs.declared.Request.{Request}
use Rattle.store.specs.declared.Request.TheVariants.{Load, Change, Add, Propose, Share, Depot, Difference, Written, AtLeast, ListWritten}
use Rattle.store.specs.Calls.{Call, Event, called, migrate, Reply, Told, same, put_out, unbuffered, refused, done, shared, loaded, differ, wrote, reached}
use Rattle.judge.specs.Check.{True}
use Rattle.store.specs.Model.{Model, empty_model, count, Possible, Follows}
use Rattle.held_state.specs.Held.{State}
use Rattle.store.specs.State.{model_of, fresh, step, step_on}

-- From a state, through these events with these replies, to a state.
pub data Run {S : Type 0} (Step : S → Event → Reply → S → Type 0) : S → List Event → List Reply → S → Type 0 where
  start : {s : S} → Run Step s [] [] s
  then : {s s₁ s₂ : S} {v : Event} {vs : List Event} {r : Reply} {rs : List Reply} → Step s v r s₁ → Run Step s₁ vs rs s₂ → Run Step s (v ∷ vs) (r ∷ rs) s₂

-- a call of the desk: each entry's contract is such a step
abbrev pub Steps : State → Call → Reply → State → Type 0
Steps s c r s' = record { after = s'; reply = r } ≡ step s c

-- an event of the desk, where it is possible: a call, or the step to edition 2
abbrev pub Goes : State → Event → Reply → State → Type 0
Goes s v r s' = Possible s.edition v × (record { after = s'; reply = r } ≡ step_on s v)

-- "It starts from a fresh desk and a table of any length and content. Each call gets the desk and the table as the one before left them, and
-- nobody else writes either meanwhile."
abbrev pub History : Edition → List Site → List Event → List Reply → State → Type 0
History e table events replies s = Run Goes (fresh e table) events replies s

-- the model's run of the same events
abbrev pub Modelled : Edition → ℕ → List Event → List Reply → Model → Type 0
Modelled e places events replies b = Run Follows (empty_model e places) events replies b

-- each event is possible where it comes, as every call is
unfoldable pub AllPossible : State → List Event → Type 0
AllPossible s [] = Unit {0}
AllPossible s (v ∷ vs) = Possible s.edition v × AllPossible (step_on s v).after vs

-- each call's input is bytes
abbrev pub InBytes : Event → Type 0
InBytes (called c) = Bytes c.input
InBytes (migrate table) = Unit {0}

unfoldable pub AllBytes : List Event → Type 0
AllBytes [] = Unit {0}
AllBytes (v ∷ vs) = InBytes v × AllBytes vs

-- ---- what follows from events and replies alone

abbrev pub ended : Told → Bool
ended done = true
ended (refused n) = false
ended (shared s w) = false
ended (loaded w q) = false
ended (differ d q) = false
ended (wrote n) = false
ended (reached x) = false

-- a plan as it was proposed: its bytes, and the edition of the store that it was proposed to
pub record Proposal : Type 0 where
  pub edition : Edition
  pub bytes : List ℕ

abbrev pub leaves : Request → Proposal → Told → Option Proposal → Option Proposal
leaves Load p a o = cond (ended a) none o
leaves (Change i w) p a o = cond (ended a) none o
leaves (Add f x w) p a o = cond (ended a) none o
leaves Propose p a o = cond (ended a) (some p) o
leaves (Share i) p a o = o
leaves (Depot d) p a o = o
leaves (Difference d e) p a o = o
leaves Written p a o = o
leaves (AtLeast m) p a o = o
leaves ListWritten p a o = o

-- Document 02, g: the desk "keeps the roll, or the lack of one, of the list last loaded": the roll after a call whose input would be loaded with this one
abbrev pub roll_left : Request → Option (List ℕ) → Told → Option (List ℕ) → Option (List ℕ)
roll_left Load r a o = cond (ended a) r o
roll_left (Change i w) r a o = o
roll_left (Add f x w) r a o = o
roll_left Propose r a o = o
roll_left (Share i) r a o = o
roll_left (Depot d) r a o = o
roll_left (Difference d e) r a o = o
roll_left Written r a o = o
roll_left (AtLeast m) r a o = o
roll_left ListWritten r a o = o

-- The edition; the places of the table; the proposal that passed last, if no load, change or add has succeeded since; and the roll, or the lack of one, of the list
-- last loaded.
pub record Traced : Type 0 where
  pub edition : Edition
  pub places : ℕ
  pub proposal : Option Proposal
  pub roll : Option (List ℕ)

-- A call may change the last two alone. The step to edition 2 "where it succeeds" keeps the plan, "now in edition 2, from there on with the new table and its places";
-- of rolls "a fresh desk and one turned by e) have none".
abbrev pub traced_on : Event → Told → Traced → Traced
traced_on (called c) a t =
    record {
      edition = t.edition;
      places = t.places;
      proposal = leaves c.request (record { edition = t.edition; bytes = c.input }) a t.proposal;
      roll = roll_left c.request (roll_of t.edition c.input) a t.roll;
    }
traced_on (migrate table) a t = cond (ended a) (record { edition = edition2; places = length table; proposal = t.proposal; roll = none }) t

unfoldable pub traced : Traced → List Event → List Reply → Traced
traced t [] rs = t
traced t (v ∷ vs) [] = t
traced t (v ∷ vs) (r ∷ rs) = traced (traced_on v r.answer t) vs rs

-- from the start of a history on
abbrev pub begun : Edition → List Site → Traced
begun e table = record { edition = e; places = length table; proposal = none; roll = none }

abbrev pub trace : Edition → List Site → List Event → List Reply → Traced
trace e table = traced (begun e table)

-- the plan that a proposal lays out for a list of n sites
abbrev pub proposed_plan : ℕ → Proposal → Plan
proposed_plan n p = plan_of p.edition n p.bytes

abbrev pub plan_from : ℕ → Option Proposal → Option Plan
plan_from n none = none
plan_from n (some p) = some (proposed_plan n p)

-- a proposal was made in the edition that the store is of, or in edition 1 before the store went over to edition 2
abbrev pub MadeIn : Proposal → Edition → Type 0
MadeIn p e = (p.edition ≡ e) ⊎ ((p.edition ≡ edition1) × (e ≡ edition2))

-- the figures of a proposal, for the list held, in the edition of the store
abbrev pub written_as : State → Proposal → List ℕ
written_as s p = plan_bytes s.edition (proposed_plan (count (model_of s)) p)

-- the calls that row 17 concerns
abbrev pub Question : Request → Type 0
Question Load = ⊥
Question (Change i w) = ⊥
Question (Add f s w) = ⊥
Question Propose = ⊥
Question (Share i) = Unit {0}
Question (Depot d) = Unit {0}
Question (Difference a d) = Unit {0}
Question Written = Unit {0}
Question (AtLeast m) = Unit {0}
Question ListWritten = ⊥

-- the calls that leave the store and the table as they are: these, and the list written out, which "needs no plan" (document 02, b)
abbrev pub ReadsOnly : Request → Type 0
ReadsOnly Load = Question Load
ReadsOnly (Change i w) = Question (Change i w)
ReadsOnly (Add f s w) = Question (Add f s w)
ReadsOnly Propose = Question Propose
ReadsOnly (Share i) = Question (Share i)
ReadsOnly (Depot d) = Question (Depot d)
ReadsOnly (Difference a d) = Question (Difference a d)
ReadsOnly Written = Question Written
ReadsOnly (AtLeast m) = Question (AtLeast m)
ReadsOnly ListWritten = Unit {0}

-- the questions for a figure, and not for what is written out
abbrev pub Figure : Request → Type 0
Figure Load = ⊥
Figure (Change i w) = ⊥
Figure (Add f s w) = ⊥
Figure Propose = ⊥
Figure (Share i) = Unit {0}
Figure (Depot d) = Unit {0}
Figure (Difference a d) = Unit {0}
Figure Written = ⊥
Figure (AtLeast m) = Unit {0}
Figure ListWritten = ⊥

-- "all zero" where no plan is held, and "group and share places beyond it become zero" where one is
pub record Tidy (s : State) : Type 0 where
  pub none : s.store.held ≡ false
      → (s.store.grouped ≡ 0) × (s.store.groups ≡ replicate 64 0) × (s.store.shares ≡ replicate 512 0)
  pub behind : s.store.held ≡ true
      → (drop s.store.grouped s.store.groups ≡ replicate (64 - s.store.grouped) 0)
      × (drop s.store.count s.store.shares ≡ replicate (512 - s.store.count) 0)

-- Document 02, e, of the state before the step to edition 2, the new table and the state after: "Sites, the held plan and the lack of one carry over, group and share places beyond
-- them are zero", and the new table's places beyond the sites keep their content.
pub record Migration (s : State) (new : List Site) (s' : State) : Type 0 where
  pub edition : s'.edition ≡ edition2
  pub sites : (model_of s').list ≡ (model_of s).list
  pub plan : (model_of s').plan ≡ (model_of s).plan
  pub zero : Tidy s'
  pub places : length s'.table ≡ length new
  pub behind : drop (count (model_of s)) s'.table ≡ drop (count (model_of s)) new

-- "a new table with too few places gives row 2", and all stays; otherwise the store has gone over
abbrev pub Migrates : State → List Site → Reply → State → Type 0
Migrates s new r s' =
    ((length new < count (model_of s)) × (r ≡ unbuffered (refused 2)) × (s' ≡ s)) ⊎ ((count (model_of s) ≤ length new) × (r ≡ unbuffered done) × Migration s new s')

-- Demand 3, of one history: "in every history each answer, and each byte of a buffer lent for it, is as the book has it, and that the list held and
-- the plan held, or the lack of one, are then the book's".
pub record Exact (e : Edition) (table : List Site) (events : List Event) (replies : List Reply) (s : State) : Type 0 where
  -- the replies, the list and the plan are the model's, and no other replies are
  pub model : Modelled e (length table) events replies (model_of s)
  pub only : (rs : List Reply) (b : Model) → Modelled e (length table) events rs b → (rs ≡ replies) × (b ≡ model_of s)
  -- "Row 0 is never its answer"
  pub never-zero : All (λ (r : Reply). r.answer ≡ refused 0 → ⊥) replies
  -- places beyond what is held are zero; the edition and the number of places are those of the start or, where the step to edition 2 has succeeded, edition 2 and the new table's
  pub tidy : Tidy s
  pub edition : s.edition ≡ (trace e table events replies).edition
  pub sized : length s.table ≡ (trace e table events replies).places
  -- document 02, g: the roll, or the lack of one, is that of the list last loaded; an edition without rolls has none
  pub roll : (model_of s).list.roll ≡ (trace e table events replies).roll
  pub unrolled : s.edition.roll ≡ false → (model_of s).list.roll ≡ none
  -- "the plan held, or the lack of one, are then the book's": it is that of the proposal that passed last, and is true of the list held
  pub plan-held : (model_of s).plan ≡ plan_from (count (model_of s)) (trace e table events replies).proposal
  pub plan-true : (p : Proposal) → (trace e table events replies).proposal ≡ some p → True p.edition (model_of s).list (proposed_plan (count (model_of s)) p) p.bytes
  pub made_in : (p : Proposal) → (trace e table events replies).proposal ≡ some p → MadeIn p s.edition
  -- "row 17 if the book has no plan": exactly if no proposal has passed since the last load, change or add that succeeded
  pub wanting : (c : Call) (r : Reply) (s' : State) → Question c.request → Steps s c r s' → (r.answer ≡ refused 17) ↔ ((trace e table events replies).proposal ≡ none)
  -- a proposal passes exactly if its plan is true of the list then held
  pub gate : (c : Call) (r : Reply) (s' : State) → c.request ≡ Propose → Bytes c.input → Steps s c r s'
      → (r.answer ≡ done) ↔ ((p : Plan) × True s.edition (model_of s).list p c.input)
  -- "Otherwise s is read from the book's plan", which is that of the proposal that passed last; each W, q, w × q and difference is that of the
  -- decomposition of the list held
  pub site-figures : (c : Call) (i : ℕ) (r : Reply) (s' : State) (x w : ℕ) → c.request ≡ Share i → Steps s c r s' → r.answer ≡ shared x w
      → (gs : List ℕ) → Decomposition (network (model_of s).list) gs
      → (p : Proposal)
      × ((trace e table events replies).proposal ≡ some p)
      × (x ≡ get_or (proposed_plan (count (model_of s)) p).shares i 0)
      × (w ≡ whole (network (model_of s).list) gs i)
  pub depot-figures : (c : Call) (d : ℕ) (r : Reply) (s' : State) (w q : ℕ) → c.request ≡ Depot d → Steps s c r s' → r.answer ≡ loaded w q
      → (gs : List ℕ) → Decomposition (network (model_of s).list) gs
      → (w ≡ group_litres (network (model_of s).list) gs (place gs d)) × (q ≡ group_size (network (model_of s).list) gs (place gs d))
  pub differences : (c : Call) (a d : ℕ) (r : Reply) (s' : State) (z : ℤ) (q : ℕ) → c.request ≡ Difference a d → Steps s c r s' → r.answer ≡ differ z q
      → (gs : List ℕ) → Decomposition (network (model_of s).list) gs
      → let W : ℕ → ℕ = λ x. group_litres (network (model_of s).list) gs (place gs x) in
      let Q : ℕ → ℕ = λ x. group_size (network (model_of s).list) gs (place gs x) in
      (z ≡ difference_of (W a) (Q a) (W d) (Q d)) × (q ≡ Q a * Q d)
  -- "Written out, the book's plan stands at the front of the buffer byte for byte, the rest of the buffer is unchanged, and the answer is the
  -- plan's length": the bytes of the proposal that passed last or, where the store has gone over to edition 2 since, its figures in edition 2; row 20 is counted by these
  pub written_out : (c : Call) (r : Reply) (s' : State) (p : Proposal) → c.request ≡ Written → Steps s c r s' → (trace e table events replies).proposal ≡ some p
      → (s' ≡ s)
      × (r ≡ cond (is_short c.buffer (written_as s p)) (same c (refused 20)) (put_out c (written_as s p)))
      × (p.edition ≡ s.edition → written_as s p ≡ p.bytes)
  -- document 02, a: "the book gives row 17 if it has no plan" (`wanting`), "and otherwise the set that follows from the definition on its list alone"; "the
  -- answer equals the one from looking at every group" of the plan held; "a mark of 0 gives all listed depots"; and a higher one gives no depot that a lower one does not
  pub at-least : (c : Call) (m : ℕ) (r : Reply) (s' : State) (p : Proposal) → c.request ≡ AtLeast m → Steps s c r s' → (trace e table events replies).proposal ≡ some p
      → (gs : List ℕ) → Decomposition (network (model_of s).list) gs → r.answer ≡ reached (set_of (at_least_by (network (model_of s).list) gs m) 64)
  pub every-group : (c : Call) (m : ℕ) (r : Reply) (s' : State) (p : Proposal) → c.request ≡ AtLeast m → Steps s c r s' → (trace e table events replies).proposal ≡ some p
      → r.answer ≡ reached (set_of (every_group (network (model_of s).list) (proposed_plan (count (model_of s)) p).groups m) 64)
  pub zero-gives-all : (c : Call) (r : Reply) (s' : State) (p : Proposal) → c.request ≡ AtLeast 0 → Steps s c r s' → (trace e table events replies).proposal ≡ some p
      → r.answer ≡ reached (set_of (network (model_of s).list).listed 64)
  pub higher-gives-fewer : (c c' : Call) (m m' : ℕ) (r r' : Reply) (s₁ s₂ : State) (x x' : ℕ) → c.request ≡ AtLeast m → c'.request ≡ AtLeast m'
      → Steps s c r s₁ → Steps s c' r' s₂ → r.answer ≡ reached x → r'.answer ≡ reached x' → m ≤ m' → has x' ⊆ has x
  -- document 02, b: "the book gives row 20, or its list and the length, and stays as it is"; what is written out is the list held
  pub list-written-out : (c : Call) (r : Reply) (s' : State) → c.request ≡ ListWritten → Steps s c r s'
      → let bytes : List ℕ = list_bytes s.edition (model_of s).list in
      (s' ≡ s) × (r ≡ cond (is_short c.buffer bytes) (same c (refused 20)) (put_out c bytes))
  -- document 02, e: row 2, or the store has gone over
  pub migration : (new : List Site) (r : Reply) (s' : State) → Goes s (migrate new) r s' → Migrates s new r s'
  -- "each question gets the figure it would have got before"
  pub same-answers : (new : List Site) (r : Reply) (s' : State) → Goes s (migrate new) r s' → (c : Call) → Figure c.request → (step s' c).reply ≡ (step s c).reply
  -- document 02, h: of the list held, the depots without sites "form the last group, the only one where no site stands, with W 0"; with a plan, a question about one of
  -- them gets W 0 and their crews added up
  pub isolated-last : (gs : List ℕ) → Decomposition (network (model_of s).list) gs → IsolatedLast (network (model_of s).list) gs
  pub isolated-figures : (c : Call) (d : ℕ) (r : Reply) (s' : State) (p : Proposal) → c.request ≡ Depot d → Steps s c r s' → (trace e table events replies).proposal ≡ some p
      → T (isolated (network (model_of s).list) d) → r.answer ≡ loaded 0 (size (network (model_of s).list) (isolated (network (model_of s).list)))

-- Document 02, b, at one state.
pub record ListRoundTrip (s : State) : Type 0 where
  -- "Reading its output yields the same sites"
  pub reads : (c : Call) (r : Reply) (s' : State) (n places : ℕ) → c.request ≡ ListWritten → Steps s c r s' → r.answer ≡ wrote n
      → count (model_of s) ≤ places → read_list s.edition places (take n r.buffer) ≡ passed (model_of s).list
  -- loaded into a store of the edition with room, a fresh one or any other, it leaves a model with an equal list
  pub loads : (c c' : Call) (r r' : Reply) (s' t t' : State) (n : ℕ) → c.request ≡ ListWritten → Steps s c r s' → r.answer ≡ wrote n
      → t.edition ≡ s.edition → count (model_of s) ≤ length t.table → c'.request ≡ Load → c'.input ≡ take n r.buffer → Steps t c' r' t'
      → (r'.answer ≡ done) × ((model_of t').list ≡ (model_of s).list)
  -- "writing what was read yields the same bytes": a list that is loaded is written out so
  pub again : (c c' : Call) (r r' : Reply) (s' t : State) (n : ℕ) → c.request ≡ Load → Bytes c.input → Steps s c r s' → r.answer ≡ done
      → c'.request ≡ ListWritten → Steps s' c' r' t → r'.answer ≡ wrote n → (n ≡ length c.input) × (r'.buffer ≡ onto c.input c'.buffer)

-- "Two desks hold the same list if their books' lists are equal": each W, q, w × q, difference and set of depots that both answer is then the same,
-- whatever their histories; s is that of each one's plan.
pub record SameFigures (s₁ s₂ : State) : Type 0 where
  pub site : (c₁ c₂ : Call) (i : ℕ) (r₁ r₂ : Reply) (s₁' s₂' : State) (x₁ w₁ x₂ w₂ : ℕ) → c₁.request ≡ Share i → c₂.request ≡ Share i
      → Steps s₁ c₁ r₁ s₁' → Steps s₂ c₂ r₂ s₂' → r₁.answer ≡ shared x₁ w₁ → r₂.answer ≡ shared x₂ w₂ → w₁ ≡ w₂
  pub depot : (c₁ c₂ : Call) (d : ℕ) (r₁ r₂ : Reply) (s₁' s₂' : State) (w₁ q₁ w₂ q₂ : ℕ) → c₁.request ≡ Depot d → c₂.request ≡ Depot d
      → Steps s₁ c₁ r₁ s₁' → Steps s₂ c₂ r₂ s₂' → r₁.answer ≡ loaded w₁ q₁ → r₂.answer ≡ loaded w₂ q₂ → (w₁ ≡ w₂) × (q₁ ≡ q₂)
  pub differences : (c₁ c₂ : Call) (a d : ℕ) (r₁ r₂ : Reply) (s₁' s₂' : State) (z₁ : ℤ) (q₁ : ℕ) (z₂ : ℤ) (q₂ : ℕ) → c₁.request ≡ Difference a d
      → c₂.request ≡ Difference a d → Steps s₁ c₁ r₁ s₁' → Steps s₂ c₂ r₂ s₂' → r₁.answer ≡ differ z₁ q₁ → r₂.answer ≡ differ z₂ q₂
      → (z₁ ≡ z₂) × (q₁ ≡ q₂)
  pub at-least : (c₁ c₂ : Call) (m : ℕ) (r₁ r₂ : Reply) (s₁' s₂' : State) (x₁ x₂ : ℕ) → c₁.request ≡ AtLeast m → c₂.request ≡ AtLeast m
      → Steps s₁ c₁ r₁ s₁' → Steps s₂ c₂ r₂ s₂' → r₁.answer ≡ reached x₁ → r₂.answer ≡ reached x₂ → x₁ ≡ x₂
