-- Document 01, "Entry points", the desk: what the library for Rust and C answers to a call of the store, as one number and up to two figures.
use Rattle.std.specs.Prelude.{ℕ, true, cond, ◌&&◌, List, ◌≡◌, eqb, ℤ, pos, neg_ℤ, length}
use Rattle.std.specs.declared.result.Result.{Result}
use Rattle.std.specs.declared.result.Result.TheVariants.{Ok, Err}
use Rattle.std.proofs.Math.Option.{none}
use Rattle.records.specs.declared.Edition.{Edition}
use Rattle.records.specs.Bytes.{Bytes}
use Rattle.records.specs.Values.{roll_array}
use Rattle.records.specs.Format.{edition1, edition2}
use Rattle.store.specs.declared.Answer.{Answer}
use Rattle.store.specs.Calls.{Call, Told, told, refused, done, shared, loaded, differ, wrote, reached}
use Rattle.store.specs.State.{bare, step}
use Rattle.layout.specs.Layout.{store_bytes, store_in}
use Rattle.lent.specs.Lent.{state_in, is_of, laid, call}
use Rattle.store_migrate_bytes.specs.Migrate.{migrates}
use Rattle.codes.specs.declared.Coded.{Coded}

-- The edition of a store, told by the length of its bytes: 4,704 are a store of edition 2. Bytes of another length are taken for a store of edition 1, and are none
-- unless they are 2,584 (`is_of`).
abbrev pub edition_in : List ℕ → Edition
edition_in s = cond (is_of edition2 s) edition2 edition1

-- a row's number with a minus sign; row 0, which would be 0, is -256
abbrev pub row_code : ℕ → ℤ
row_code n = cond (eqb n 0) (neg_ℤ (pos 256)) (neg_ℤ (pos n))

-- What is answered where the bytes have not the length of a store that the function serves: no row of the paper, so no row's number.
abbrev pub no_store_code : ℤ
no_store_code = neg_ℤ (pos 257)

-- an answer in the paper's terms where a refusal is a number, any of 8 bits
abbrev pub told_by : Result Answer ℕ → Told
told_by (Ok a) = told (Ok a)
told_by (Err n) = refused n

-- 0 where the call is done, or its row
abbrev pub done_code : Told → ℤ
done_code (refused n) = row_code n
done_code done = pos 0
done_code (shared s w) = pos 0
done_code (loaded w q) = pos 0
done_code (differ d q) = pos 0
done_code (wrote n) = pos 0
done_code (reached x) = pos 0

-- the length written, or the row
abbrev pub length_code : Told → ℤ
length_code (refused n) = row_code n
length_code done = pos 0
length_code (shared s w) = pos 0
length_code (loaded w q) = pos 0
length_code (differ d q) = pos 0
length_code (wrote n) = pos n
length_code (reached x) = pos 0

-- the figures of an answer; those that it does not have stay as they were
abbrev pub first_of : Told → ℕ → ℕ
first_of (refused n) x = x
first_of done x = x
first_of (shared s w) x = s
first_of (loaded w q) x = w
first_of (differ d q) x = x
first_of (wrote n) x = x
first_of (reached y) x = y

abbrev pub second_of : Told → ℕ → ℕ
second_of (refused n) x = x
second_of done x = x
second_of (shared s w) x = w
second_of (loaded w q) x = q
second_of (differ d q) x = q
second_of (wrote n) x = x
second_of (reached y) x = x

abbrev pub difference_of : Told → ℤ → ℤ
difference_of (refused n) x = x
difference_of done x = x
difference_of (shared s w) x = x
difference_of (loaded w q) x = x
difference_of (differ d q) x = d
difference_of (wrote n) x = x
difference_of (reached y) x = x

abbrev pub outcome_of : Told → ℕ → ℕ → ℤ → Coded
outcome_of a x y z = record { code = done_code a; first = first_of a x; second = second_of a y; difference = difference_of a z }

-- the answer to a call at bytes that have the length of a store
abbrev pub answer_of : Edition → List ℕ → List ℕ → Call → Told
answer_of e s t c = (call e s t c).reply.answer

-- What a function that writes does to the bytes of the store and of the table: what the call does, and they then stand for the state after its step;
-- nothing, where the store has not the length of one. Its input is bytes.
pub record Moved (e : Edition) (s t : List ℕ) (c : Call) (s' t' : List ℕ) : Type 0 where
  pub store : s' ≡ cond (is_of e s) (call e s t c).store s
  pub table : t' ≡ cond (is_of e s) (call e s t c).table t
  pub long : length s' ≡ length s
  pub reads : is_of e s ≡ true → state_in e s' t' ≡ (step (state_in e s t) c).after
  pub bytes : Bytes c.input

pub record Did (e : Edition) (s t : List ℕ) (c : Call) (r : ℤ) (s' t' : List ℕ) : Type 0 where
  pub code : r ≡ cond (is_of e s) (done_code (answer_of e s t c)) no_store_code
  pub moved : Moved e s t c s' t'

-- A question for two figures, which go where they are asked for. Store and table are only read.
pub record Figures (e : Edition) (s t : List ℕ) (c : Call) (r : ℤ) (x y x' y' : ℕ) : Type 0 where
  pub code : r ≡ cond (is_of e s) (done_code (answer_of e s t c)) no_store_code
  pub first : x' ≡ cond (is_of e s) (first_of (answer_of e s t c) x) x
  pub second : y' ≡ cond (is_of e s) (second_of (answer_of e s t c) y) y
  pub kept : Moved e s t c s t

-- A question for one figure: document 02, a, the set of depots.
pub record OneFigure (e : Edition) (s t : List ℕ) (c : Call) (r : ℤ) (x x' : ℕ) : Type 0 where
  pub code : r ≡ cond (is_of e s) (done_code (answer_of e s t c)) no_store_code
  pub figure : x' ≡ cond (is_of e s) (first_of (answer_of e s t c) x) x
  pub kept : Moved e s t c s t

-- "below zero where a is lighter, with the divisor"
pub record Differs (e : Edition) (s t : List ℕ) (c : Call) (r : ℤ) (x : ℤ) (y : ℕ) (x' : ℤ) (y' : ℕ) : Type 0 where
  pub code : r ≡ cond (is_of e s) (done_code (answer_of e s t c)) no_store_code
  pub difference : x' ≡ cond (is_of e s) (difference_of (answer_of e s t c) x) x
  pub divisor : y' ≡ cond (is_of e s) (second_of (answer_of e s t c) y) y
  pub kept : Moved e s t c s t

-- "the held plan written out as Make writes"; document 02, b: the list written out
pub record WroteOut (e : Edition) (s t : List ℕ) (c : Call) (r : ℤ) (out : List ℕ) : Type 0 where
  pub code : r ≡ cond (is_of e s) (length_code (answer_of e s t c)) no_store_code
  pub buffer : out ≡ cond (is_of e s) (call e s t c).reply.buffer c.buffer
  pub kept : Moved e s t c s t

-- a fresh store where the bytes have the length of one, otherwise nothing is written
pub record FreshCode (e : Edition) (s : List ℕ) (r : ℤ) (s' : List ℕ) : Type 0 where
  pub code : r ≡ cond (is_of e s) (pos 0) no_store_code
  pub store : s' ≡ cond (is_of e s) (store_bytes e.share e.roll (bare 0 (roll_array none))) s
  pub reads : is_of e s ≡ true → store_in e.share e.roll s' ≡ bare 0 (roll_array none)

-- Document 02, e: the old store and its table are only read. What the step does to the bytes of the new store and table: where it is done, these stand for the state after it; where the old
-- store has not the length of one of edition 1 or the new one that of one of edition 2, nothing is done.
pub record MigrateCode (s t s₂ t₂ : List ℕ) (r : ℤ) (s₂' t₂' : List ℕ) : Type 0 where
  pub code : r ≡ cond (is_of edition1 s && is_of edition2 s₂) (done_code (migrates s t t₂).reply.answer) no_store_code
  pub store : s₂' ≡ cond (is_of edition1 s && is_of edition2 s₂) (laid edition2 s₂ t₂ (migrates s t t₂)).store s₂
  pub table : t₂' ≡ cond (is_of edition1 s && is_of edition2 s₂) (laid edition2 s₂ t₂ (migrates s t t₂)).table t₂
  pub long : length s₂' ≡ length s₂
  pub reads : r ≡ pos 0 → state_in edition2 s₂' t₂' ≡ (migrates s t t₂).after
