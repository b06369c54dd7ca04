-- Calls over lent bytes, and the step from edition 1 to edition 2, one after another.
use Rattle.std.specs.Prelude.{◌≡◌, true, List, [], ◌∷◌, ℕ}
use Rattle.records.specs.declared.Edition.{Edition}
use Rattle.records.specs.Format.{edition1, edition2}
use Rattle.std.specs.declared.result as std
use Rattle.records.specs.declared.refusal.Refusal.{Refusal}
use Rattle.store.specs.declared.Answer.{Answer}
use Rattle.store.specs.Calls.{Call, Event, called, Reply, told, done, refused}
use Rattle.lent.specs.Lent.{is_of, Called}
use Rattle.store_migrate_bytes.specs.Migrate.{into, Migrated}

-- what a call answers: the row that refuses it, or its answer
abbrev pub Answered : Type 0
Answered = std.Result.Result Answer Refusal

-- what a call gives back, and the bytes as it left them; what the step gives back, and the new bytes as it left them
pub record Result : Type 0 where
  pub answer : Answered
  pub store : List ℕ
  pub table : List ℕ
  pub buffer : List ℕ

abbrev pub replied : Result → Reply
replied r = record { answer = told r.answer; buffer = r.buffer }

-- the step has no buffer
abbrev pub stepped : Answered → List ℕ → List ℕ → Result
stepped a s t = record { answer = a; store = s; table = t; buffer = [] }

-- "Each call gets the desk and the table as the one before left them, and nobody else writes either meanwhile." The step takes a store of edition 1 and other bytes of any content
-- for the new store and table: the next call gets these where it is done (`over`), and the old ones where it is refused (`not-over`).
pub data Calls : Edition → List ℕ → List ℕ → List Event → List Result → Edition → List ℕ → List ℕ → Type 0 where
  none : {e : Edition} {s t : List ℕ} → Calls e s t [] [] e s t
  next : {e d : Edition} {s t s' t' : List ℕ} {c : Call} {vs : List Event} {r : Result} {rs : List Result}
      → Called e s t c (told r.answer) r.store r.table r.buffer → Calls e r.store r.table vs rs d s' t' → Calls e s t (called c ∷ vs) (r ∷ rs) d s' t'
  over : {d : Edition} {s t s₂ s₂' t₂' s' t' : List ℕ} {vs : List Event} {rs : List Result} (t₂ : List ℕ) (a : Answered) → is_of edition2 s₂ ≡ true → told a ≡ done
      → Migrated s t s₂ t₂ (told a) s₂' t₂' → Calls edition2 s₂' t₂' vs rs d s' t' → Calls edition1 s t (into t₂ ∷ vs) (stepped a s₂' t₂' ∷ rs) d s' t'
  not-over : {d : Edition} {s t s₂ s₂' t₂' s' t' : List ℕ} {vs : List Event} {rs : List Result} (t₂ : List ℕ) (a : Answered) (n : ℕ) → is_of edition2 s₂ ≡ true → told a ≡ refused n
      → Migrated s t s₂ t₂ (told a) s₂' t₂' → Calls edition1 s t vs rs d s' t' → Calls edition1 s t (into t₂ ∷ vs) (stepped a s₂' t₂' ∷ rs) d s' t'
