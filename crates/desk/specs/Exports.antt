-- Calls of the exported functions of the store, one after another: what each gives its caller, and how that is the reply of a call.
use Rattle.std.specs.Prelude.{ℕ, ◌≤◌, true, false, ◌&&◌, List, [], ◌∷◌, ◌≡◌, ◌⊎◌, ℤ, pos, length, take}
use Rattle.records.specs.declared.Edition.{Edition}
use Rattle.records.specs.Outcome.{passed}
use Rattle.records.specs.Format.{edition1, edition2, read_list}
use Rattle.records.specs.Write.{onto}
use Rattle.store.specs.declared.Request.{Request}
use Rattle.store.specs.declared.Request.TheVariants.{Load, Change, Add, Propose, Share, Depot, Difference, Written, AtLeast, ListWritten}
use Rattle.store.specs.Calls.{Call, Event, called, Reply}
use Rattle.store.specs.Model.{count}
use Rattle.store.specs.State.{model_of}
use Rattle.layout.specs.Layout.{places_in}
use Rattle.lent.specs.Lent.{state_in, is_of}
use Rattle.store_migrate_bytes.specs.Migrate.{into}
use Rattle.codes.specs.Codes.{edition_in, done_code, length_code, first_of, second_of, difference_of, Did, Figures, OneFigure, Differs, WroteOut, FreshCode, MigrateCode}

-- What a function gives: its code; the figures behind its pointers, before the call and after it; the buffer after it.
pub data Given : Type 0 where
  coded : ℤ → Given
  figures : ℤ → ℕ → ℕ → ℕ → ℕ → Given
  differs : ℤ → ℤ → ℕ → ℤ → ℕ → Given
  written : ℤ → List ℕ → Given
  one_figure : ℤ → ℕ → ℕ → Given

-- the contract of the function that gives so, for the bytes of the store and of the table before and after; a call that only reads leaves them
abbrev pub Exported : Edition → List ℕ → List ℕ → Call → Given → List ℕ → List ℕ → Type 0
Exported e s t c (coded r) s' t' = Did e s t c r s' t'
Exported e s t c (figures r x y x' y') s' t' = Figures e s t c r x y x' y' × (s' ≡ s) × (t' ≡ t)
Exported e s t c (differs r x y x' y') s' t' = Differs e s t c r x y x' y' × (s' ≡ s) × (t' ≡ t)
Exported e s t c (written r out) s' t' = WroteOut e s t c r out × (s' ≡ s) × (t' ≡ t)
Exported e s t c (one_figure r x x') s' t' = OneFigure e s t c r x x' × (s' ≡ s) × (t' ≡ t)

-- what is given is the reply, in numbers: the code is 0, the length or the row; the figures are written where there are any; the buffer is the reply's
abbrev pub Answers : Given → Reply → Type 0
Answers (coded r) a = r ≡ done_code a.answer
Answers (figures r x y x' y') a = (r ≡ done_code a.answer) × (x' ≡ first_of a.answer x) × (y' ≡ second_of a.answer y)
Answers (differs r x y x' y') a = (r ≡ done_code a.answer) × (x' ≡ difference_of a.answer x) × (y' ≡ second_of a.answer y)
Answers (written r out) a = (r ≡ length_code a.answer) × (out ≡ a.buffer)
Answers (one_figure r x x') a = (r ≡ done_code a.answer) × (x' ≡ first_of a.answer x)

-- the same of each of several calls
unfoldable pub AllAnswer : List Given → List Reply → Type 0
AllAnswer [] [] = Unit {0}
AllAnswer [] (r ∷ rs) = ⊥
AllAnswer (g ∷ gs) [] = ⊥
AllAnswer (g ∷ gs) (r ∷ rs) = Answers g r × AllAnswer gs rs

-- the editions of which there are stores
abbrev pub Offered : Edition → Type 0
Offered e = (e ≡ edition1) ⊎ (e ≡ edition2)

-- The edition that the contract of a function names: the store's, told by its length. A change and an added site have a function for each edition, since their litres
-- are "a 16-bit figure" or "a 32-bit figure"; e is that of the function.
abbrev pub edition_for : Edition → Request → List ℕ → Edition
edition_for e Load s = edition_in s
edition_for e (Change i w) s = e
edition_for e (Add f d w) s = e
edition_for e Propose s = edition_in s
edition_for e (Share i) s = edition_in s
edition_for e (Depot d) s = edition_in s
edition_for e (Difference a b) s = edition_in s
edition_for e Written s = edition_in s
edition_for e (AtLeast m) s = edition_in s
edition_for e ListWritten s = edition_in s

-- "Each call gets the desk and the table as the one before left them, and nobody else writes either meanwhile." Changes and added sites of the history are those of the store's edition
-- (`next`). Document 02, e: the step to edition 2 takes other bytes of any content for the new store and table, and the next call gets these where the code is 0 (`over`), and the old ones
-- where it is a row's (`not-over`). A change, an added site and a fresh store of another edition than the store's, and a step that is given no store of edition 1 or none of edition 2 for
-- the new one, may come between, and are no event of the history (`other`, `other-start`, `other_step`).
pub data Calls : Edition → List ℕ → List ℕ → List Event → List Given → Edition → List ℕ → List ℕ → Type 0 where
  none : {e : Edition} {s t : List ℕ} → Calls e s t [] [] e s t
  next : {e d : Edition} {s t s₁ t₁ s' t' : List ℕ} {c : Call} {vs : List Event} {g : Given} {gs : List Given}
      → Exported (edition_for e c.request s) s t c g s₁ t₁ → Calls e s₁ t₁ vs gs d s' t' → Calls e s t (called c ∷ vs) (g ∷ gs) d s' t'
  over : {d : Edition} {s t s₂ s₂' t₂' s' t' : List ℕ} {vs : List Event} {gs : List Given} (t₂ : List ℕ)
      → MigrateCode s t s₂ t₂ (pos 0) s₂' t₂' → Calls edition2 s₂' t₂' vs gs d s' t' → Calls edition1 s t (into t₂ ∷ vs) (coded (pos 0) ∷ gs) d s' t'
  not-over : {d : Edition} {s t s₂ s₂' t₂' s' t' : List ℕ} {r : ℤ} {vs : List Event} {gs : List Given} (t₂ : List ℕ) → is_of edition2 s₂ ≡ true → (r ≡ pos 0 → ⊥)
      → MigrateCode s t s₂ t₂ r s₂' t₂' → Calls edition1 s t vs gs d s' t' → Calls edition1 s t (into t₂ ∷ vs) (coded r ∷ gs) d s' t'
  other : {e d : Edition} {s t s₁ t₁ s' t' : List ℕ} {c : Call} {r : ℤ} {vs : List Event} {gs : List Given} (o : Edition)
      → is_of o s ≡ false → Did o s t c r s₁ t₁ → Calls e s₁ t₁ vs gs d s' t' → Calls e s t vs gs d s' t'
  other-start : {e d : Edition} {s t s₁ s' t' : List ℕ} {r : ℤ} {vs : List Event} {gs : List Given} (o : Edition)
      → is_of o s ≡ false → FreshCode o s r s₁ → Calls e s₁ t vs gs d s' t' → Calls e s t vs gs d s' t'
  other_step : {e d : Edition} {s t s₂ t₂ s₂' t₂' s' t' : List ℕ} {r : ℤ} {vs : List Event} {gs : List Given}
      → is_of edition1 s && is_of edition2 s₂ ≡ false → MigrateCode s t s₂ t₂ r s₂' t₂' → Calls e s t vs gs d s' t' → Calls e s t vs gs d s' t'

-- a call for a request with its input and buffer; a question for figures, which is given neither
abbrev pub asked : Request → List ℕ → List ℕ → Call
asked q input buffer = record { request = q; input = input; buffer = buffer }

abbrev pub question : Request → Call
question q = asked q [] []

-- "Two desks hold the same list if their books' lists are equal": each W, q, w × q, difference and set of depots that the same question
-- then gets of both, with the code 0, is the same; s is that of each one's plan. The two may be of different editions.
pub record SameGiven (s₁ t₁ s₂ t₂ : List ℕ) : Type 0 where
  pub site : (i : ℕ) (x₁ y₁ x₁' y₁' x₂ y₂ x₂' y₂' : ℕ) → Figures (edition_in s₁) s₁ t₁ (question (Share i)) (pos 0) x₁ y₁ x₁' y₁'
      → Figures (edition_in s₂) s₂ t₂ (question (Share i)) (pos 0) x₂ y₂ x₂' y₂' → y₁' ≡ y₂'
  pub depot : (d : ℕ) (x₁ y₁ x₁' y₁' x₂ y₂ x₂' y₂' : ℕ) → Figures (edition_in s₁) s₁ t₁ (question (Depot d)) (pos 0) x₁ y₁ x₁' y₁'
      → Figures (edition_in s₂) s₂ t₂ (question (Depot d)) (pos 0) x₂ y₂ x₂' y₂' → (x₁' ≡ x₂') × (y₁' ≡ y₂')
  pub differences : (a b : ℕ) (x₁ : ℤ) (y₁ : ℕ) (x₁' : ℤ) (y₁' : ℕ) (x₂ : ℤ) (y₂ : ℕ) (x₂' : ℤ) (y₂' : ℕ)
      → Differs (edition_in s₁) s₁ t₁ (question (Difference a b)) (pos 0) x₁ y₁ x₁' y₁'
      → Differs (edition_in s₂) s₂ t₂ (question (Difference a b)) (pos 0) x₂ y₂ x₂' y₂' → (x₁' ≡ x₂') × (y₁' ≡ y₂')
  pub at-least : (m : ℕ) (x₁ x₁' x₂ x₂' : ℕ) → OneFigure (edition_in s₁) s₁ t₁ (question (AtLeast m)) (pos 0) x₁ x₁'
      → OneFigure (edition_in s₂) s₂ t₂ (question (AtLeast m)) (pos 0) x₂ x₂' → x₁' ≡ x₂'

-- Document 02, b, of what the functions give: of a list written out its length, and the buffer.
pub record ListGiven (s t : List ℕ) : Type 0 where
  -- "Reading its output yields the same sites"
  pub reads : (buffer out : List ℕ) (n places : ℕ) → WroteOut (edition_in s) s t (asked ListWritten [] buffer) (pos n) out
      → count (model_of (state_in (edition_in s) s t)) ≤ places
      → read_list (edition_in s) places (take n out) ≡ passed (model_of (state_in (edition_in s) s t)).list
  -- loaded into a store of the same edition with room, a fresh one or any other, it leaves a model with an equal list
  pub loads : (buffer out u v u' v' : List ℕ) (n : ℕ) (r : ℤ) → WroteOut (edition_in s) s t (asked ListWritten [] buffer) (pos n) out
      → edition_in u ≡ edition_in s → is_of (edition_in u) u ≡ true → count (model_of (state_in (edition_in s) s t)) ≤ places_in (edition_in s).litres v
      → Did (edition_in u) u v (asked Load (take n out) []) r u' v'
      → (r ≡ pos 0) × ((model_of (state_in (edition_in u) u' v')).list ≡ (model_of (state_in (edition_in s) s t)).list)
  -- "writing what was read yields the same bytes"
  pub again : (list s' t' buffer out : List ℕ) (n : ℕ) → Did (edition_in s) s t (asked Load list []) (pos 0) s' t'
      → WroteOut (edition_in s') s' t' (asked ListWritten [] buffer) (pos n) out → (n ≡ length list) × (out ≡ onto list buffer)

-- Document 02, e, of what the functions give: by the old store of edition 1 and its table, and by the new ones that the step has written. "each question gets the figure it would have got
-- before", and the same code.
pub record MigratedGiven (s t s₂ t₂ : List ℕ) : Type 0 where
  pub site : (i : ℕ) (r r₂ : ℤ) (x y x' y' x₂ y₂ : ℕ) → Figures (edition_in s) s t (question (Share i)) r x y x' y' → Figures (edition_in s₂) s₂ t₂ (question (Share i)) r₂ x y x₂ y₂
      → (r ≡ r₂) × (x' ≡ x₂) × (y' ≡ y₂)
  pub depot : (d : ℕ) (r r₂ : ℤ) (x y x' y' x₂ y₂ : ℕ) → Figures (edition_in s) s t (question (Depot d)) r x y x' y' → Figures (edition_in s₂) s₂ t₂ (question (Depot d)) r₂ x y x₂ y₂
      → (r ≡ r₂) × (x' ≡ x₂) × (y' ≡ y₂)
  pub differences : (a b : ℕ) (r r₂ : ℤ) (x : ℤ) (y : ℕ) (x' : ℤ) (y' : ℕ) (x₂ : ℤ) (y₂ : ℕ) → Differs (edition_in s) s t (question (Difference a b)) r x y x' y'
      → Differs (edition_in s₂) s₂ t₂ (question (Difference a b)) r₂ x y x₂ y₂ → (r ≡ r₂) × (x' ≡ x₂) × (y' ≡ y₂)
  pub at-least : (m : ℕ) (r r₂ : ℤ) (x x' x₂ : ℕ) → OneFigure (edition_in s) s t (question (AtLeast m)) r x x' → OneFigure (edition_in s₂) s₂ t₂ (question (AtLeast m)) r₂ x x₂
      → (r ≡ r₂) × (x' ≡ x₂)
