-- A store call's answer as a code and figures, and that of the step to edition 2, at bytes that have the length of a store and at others, and that a length that is answered fits.
-- Assumes nothing.
use Prim.Native.Nat.{ℕ, zero, suc, ◌*◌, ◌<◌, ◌^◌}
use mathlib.Core.Bool.{Bool, true, false, cond, ◌&&◌, false≢true}
use mathlib.Core.List.{List, []}
use mathlib.Core.Option.{Option, none, some}
use mathlib.Core.Path.{◌≡◌, refl, sym, ap, ap₂, ◌∙◌}
use native.Mathlib.Omega.{arith}
use borrow.Author.Tests.{eq-eqb, ne_eqb}
use lib.Dec.{lit<, lit≤}
use lib.IntN.{ℤ, pos, neg_ℤ}
use lib.ListN.{length}
use Rattle.records.specs.declared.Edition.{Edition}
use Rattle.records.specs.Bytes.{Bytes}
use Rattle.records.specs.Format.{edition1, edition2}
use Rattle.density.specs.declared.Site.{Site}
use Rattle.held_state.specs.Held.{State}
use Rattle.store.specs.Calls.{Call, Reply, Told, unbuffered, refused, done, wrote}
use Rattle.store.specs.Widths.{Fitting}
use Rattle.store.proofs.Writers.{every-writer}
use Rattle.store.specs.State.{step, migrate_row, migrate_step}
use Rattle.layout.specs.Layout.{sites_in}
use Rattle.lent.specs.Lent.{Lent, state_in, is_of, lent, laid, Called, Freshened}
use Rattle.store_migrate_bytes.specs.Migrate.{migrates, Migrated}
use Rattle.lent.proofs.Contracts.{laid-reply}
use Rattle.codes.specs.declared.Coded.{Coded}
use Rattle.codes.specs.Codes.{edition_in, row_code, no_store_code, done_code, length_code, first_of, second_of, difference_of, answer_of, Moved, Did, Figures, OneFigure, Differs, WroteOut, FreshCode, MigrateCode}

-- ---- codes of rows

pub zero-code : (n : ℕ) → n ≡ 0 → neg_ℤ (pos 256) ≡ row_code n
zero-code n h = sym (ap (λ (b : Bool). cond b (neg_ℤ (pos 256)) (neg_ℤ (pos n))) (eq-eqb n 0 h))

pub other-code : (n : ℕ) → (n ≡ 0 → ⊥) → neg_ℤ (pos n) ≡ row_code n
other-code n h = sym (ap (λ (b : Bool). cond b (neg_ℤ (pos 256)) (neg_ℤ (pos n))) (ne_eqb n 0 h))

-- a row's code is neither 0 nor a length
pub row-not-length : (m n : ℕ) → pos m ≡ row_code n → ⊥
row-not-length m zero e = let z : ◌≡◌ {A = ℕ} 0 1 = cc in omega arith
row-not-length m (suc n) e =
    let k : pos m ≡ neg_ℤ (pos (suc n)) = e ∙ sym (other-code (suc n) (λ h. omega arith)) in
    let z : ◌≡◌ {A = ℕ} 0 1 = cc in
    omega arith

pub outcome-eq : {r r' d d' : ℤ} {x y : ℕ} → r ≡ r' → d ≡ d'
    → ◌≡◌ {A = Coded} (record { code = r; first = x; second = y; difference = d }) (record { code = r'; first = x; second = y; difference = d' })
outcome-eq {x = x} {y = y} e f = ap₂ (λ (r d : ℤ). record { code = r; first = x; second = y; difference = d }) e f

-- ---- the test of the length, and what a call over lent bytes asks

pub no_bytes : Bytes []
no_bytes i = lit< tt

-- the edition of a store, by its length
pub second-in : (s : List ℕ) → length s ≡ 4704 → edition2 ≡ edition_in s
second-in s h = sym (ap (λ (b : Bool). cond b edition2 edition1) (eq-eqb (length s) 4704 h))

pub first-in : (s : List ℕ) → (length s ≡ 4704 → ⊥) → edition1 ≡ edition_in s
first-in s h = sym (ap (λ (b : Bool). cond b edition2 edition1) (ne_eqb (length s) 4704 h))

-- the widths of either edition, which every call asks
pub fitting1 : {e : Edition} → e ≡ edition1 → Fitting e
fitting1 k = rw k (lit≤ tt, lit≤ tt)

pub fitting2 : {e : Edition} → e ≡ edition2 → Fitting e
fitting2 k = rw k (lit≤ tt, lit≤ tt)

-- ---- bytes that have not the length of a store

module _ {e : Edition} {s t : List ℕ} {c : Call} (other : is_of e s ≡ false) (bytes : Bytes c.input) where
  unmoved : Moved e s t c s t
  unmoved =
      record {
        store = rw other refl;
        table = rw other refl;
        long = refl;
        reads = λ h. absurd (false≢true (sym other ∙ h));
        bytes = bytes;
      }

  pub did-not : Did e s t c no_store_code s t
  did-not = record { code = rw other refl; moved = unmoved }

  pub no-figures : {m n : ℕ} → Figures e s t c no_store_code m n m n
  no-figures = record { code = rw other refl; first = rw other refl; second = rw other refl; kept = unmoved }

  pub no_difference : {m : ℤ} {n : ℕ} → Differs e s t c no_store_code m n m n
  no_difference = record { code = rw other refl; difference = rw other refl; divisor = rw other refl; kept = unmoved }

  pub not_written : WroteOut e s t c no_store_code c.buffer
  not_written = record { code = rw other refl; buffer = rw other refl; kept = unmoved }

pub not-fresh : {e : Edition} {s : List ℕ} → is_of e s ≡ false → FreshCode e s no_store_code s
not-fresh other = record { code = rw other refl; store = rw other refl; reads = λ h. absurd (false≢true (sym other ∙ h)) }

-- ---- what a call promises, by its answer as numbers

module _ {e : Edition} {s t s' t' buffer : List ℕ} {c : Call} {a : Told} (long : is_of e s ≡ true) (x : Called e s t c a s' t' buffer) where
  answer-is : a ≡ answer_of e s t c
  answer-is = ap (λ (l : Lent). l.reply.answer) x.is

  moved : Moved e s t c s' t'
  moved =
      record {
        store = rw long (ap (λ (l : Lent). l.store) x.is);
        table = rw long (ap (λ (l : Lent). l.table) x.is);
        long = x.long;
        reads = λ h. x.reads;
        bytes = x.bytes;
      }

  pub did : {r : ℤ} → r ≡ done_code a → Did e s t c r s' t'
  did f = record { code = rw long (f ∙ ap done_code answer-is); moved = moved }

module _ {e : Edition} {s t buffer : List ℕ} {c : Call} {a : Told} (long : is_of e s ≡ true) (x : Called e s t c a s t buffer) where
  pub figures : {r : ℤ} {m n m' n' : ℕ} → r ≡ done_code a → m' ≡ first_of a m → n' ≡ second_of a n → Figures e s t c r m n m' n'
  figures {m = m} {n} f g h =
      record {
        code = rw long (f ∙ ap done_code (answer-is long x));
        first = rw long (g ∙ ap (λ (a : Told). first_of a m) (answer-is long x));
        second = rw long (h ∙ ap (λ (a : Told). second_of a n) (answer-is long x));
        kept = moved long x;
      }

  pub differs : {r m z m' : ℤ} {n n' : ℕ} → r ≡ done_code a → m' ≡ difference_of a z → z ≡ m → n' ≡ second_of a n → Differs e s t c r m n m' n'
  differs {m = m} {n = n} f g k h =
      record {
        code = rw long (f ∙ ap done_code (answer-is long x));
        difference = rw long (g ∙ ap (difference_of a) k ∙ ap (λ (a : Told). difference_of a m) (answer-is long x));
        divisor = rw long (h ∙ ap (λ (a : Told). second_of a n) (answer-is long x));
        kept = moved long x;
      }

  pub wrote-out : {r : ℤ} → r ≡ length_code a → WroteOut e s t c r buffer
  wrote-out f =
      record {
        code = rw long (f ∙ ap length_code (answer-is long x));
        buffer = rw long (ap (λ (l : Lent). l.reply.buffer) x.is);
        kept = moved long x;
      }

pub fresh-code : {e : Edition} {s s' : List ℕ} → is_of e s ≡ true → Freshened e s' → FreshCode e s (pos 0) s'
fresh-code long f = record { code = rw long refl; store = rw long f.is; reads = λ h. f.reads }

-- ---- a length that is answered is one that the buffer holds

pub length-held : {e : Edition} {s t s' t' last : List ℕ} {c : Call} {a : Told} → Called e s t c a s' t' last → length c.buffer * 1 < 2 ^ 63
    → (n : ℕ) → a ≡ wrote n → n < 2 ^ 63
length-held {e} {s} {t} {c = c} x room n h =
    let answer = ap (λ (l : Lent). l.reply.answer) x.is ∙ ap (λ (r : Reply). r.answer) (laid-reply e s t (step (state_in e s t) c)) in
    omega (arith, (every-writer (state_in e s t) c n (sym answer ∙ h)).4)

-- a question for one figure is one for two, of which the second is not asked for
pub one-figure : {e : Edition} {s t : List ℕ} {c : Call} {r : ℤ} {m n m' n' : ℕ} → Figures e s t c r m n m' n' → OneFigure e s t c r m m'
one-figure f = record { code = f.code; figure = f.first; kept = f.kept }

-- ---- document 02, e: the step to edition 2

-- the step is answered 0 where it is done, and a row's code where it is refused; it has no buffer
module _ (s : State) (table : List Site) where
  over_done : (o : Option ℕ) → done_code (migrate_step o s table).reply.answer ≡ pos 0 → (migrate_step o s table).reply.answer ≡ done
  over_done (some n) h = absurd (row-not-length 0 n (sym h))
  over_done none h = refl

  over-refused : (o : Option ℕ) → (done_code (migrate_step o s table).reply.answer ≡ pos 0 → ⊥) → (n : ℕ) × ((migrate_step o s table).reply.answer ≡ refused n)
  over-refused (some n) h = (n, refl)
  over-refused none h = absurd (h refl)

  no_buffer : (o : Option ℕ) → (migrate_step o s table).reply ≡ unbuffered (migrate_step o s table).reply.answer
  no_buffer (some n) = refl
  no_buffer none = refl

module _ {s t s₂ t₂ : List ℕ} where
  not-migrated : (is_of edition1 s && is_of edition2 s₂) ≡ false → MigrateCode s t s₂ t₂ no_store_code s₂ t₂
  not-migrated other =
      record {
        code = rw other refl;
        store = rw other refl;
        table = rw other refl;
        long = refl;
        reads = λ h. absurd (let z : ◌≡◌ {A = ℕ} 0 1 = cc in omega arith);
      }

  pub no-first : is_of edition1 s ≡ false → MigrateCode s t s₂ t₂ no_store_code s₂ t₂
  no-first a = not-migrated (ap (λ (x : Bool). x && is_of edition2 s₂) a)

  pub no_second : is_of edition1 s ≡ true → is_of edition2 s₂ ≡ false → MigrateCode s t s₂ t₂ no_store_code s₂ t₂
  no_second a b = not-migrated (ap₂ (λ (x y : Bool). x && y) a b)

  pub migrate-code : {s₂' t₂' : List ℕ} {a : Told} {r : ℤ} → is_of edition1 s ≡ true → is_of edition2 s₂ ≡ true → Migrated s t s₂ t₂ a s₂' t₂' → r ≡ done_code a
      → MigrateCode s t s₂ t₂ r s₂' t₂'
  migrate-code {a = a} {r} first second x f =
      let both : (is_of edition1 s && is_of edition2 s₂) ≡ true = ap₂ (λ (x y : Bool). x && y) first second in
      let fresh = sites_in edition2.litres t₂ in
      let old = state_in edition1 s t in
      let answer : a ≡ (migrates s t t₂).reply.answer =
      ap (λ (l : Lent). l.reply.answer) x.is ∙ ap (λ (r : Reply). r.answer) (laid-reply edition2 s₂ t₂ (migrates s t t₂)) in
      record {
        code = rw both (f ∙ ap done_code answer);
        store = rw both (ap (λ (l : Lent). l.store) x.is);
        table = rw both (ap (λ (l : Lent). l.table) x.is);
        long = x.long;
        reads = λ h. x.reads (answer ∙ over_done old fresh (migrate_row old fresh) (sym (f ∙ ap done_code answer) ∙ h));
      }

-- back from a code to what the step over bytes promises, where the lengths are those of the two stores
module _ {s t s₂ t₂ s₂' t₂' : List ℕ} {r : ℤ} (m : MigrateCode s t s₂ t₂ r s₂' t₂') (first : is_of edition1 s ≡ true) (second : is_of edition2 s₂ ≡ true) where
  abbrev told : Told
  told = (migrates s t t₂).reply.answer

  pub migrate-answer : r ≡ done_code told
  migrate-answer = rw (first, second) at m.code

  pub code-migrated : Migrated s t s₂ t₂ told s₂' t₂'
  code-migrated =
      let all = laid edition2 s₂ t₂ (migrates s t t₂) in
      let store : s₂' ≡ all.store = rw (first, second) at m.store in
      let table : t₂' ≡ all.table = rw (first, second) at m.table in
      let old = state_in edition1 s t in
      let fresh = sites_in edition2.litres t₂ in
      let reply : unbuffered told ≡ all.reply = sym (no_buffer old fresh (migrate_row old fresh)) ∙ sym (laid-reply edition2 s₂ t₂ (migrates s t t₂)) in
      record {
        is = ap₂ (λ (x y : List ℕ). lent x y (unbuffered told)) store table ∙ ap (λ (z : Reply). lent all.store all.table z) reply;
        long = m.long;
        reads = λ h. m.reads (migrate-answer ∙ ap done_code h);
      }

  -- done exactly where the code is 0
  pub code-done : r ≡ pos 0 → told ≡ done
  code-done h = let old = state_in edition1 s t in let fresh = sites_in edition2.litres t₂ in over_done old fresh (migrate_row old fresh) (sym migrate-answer ∙ h)

  pub code-refused : (r ≡ pos 0 → ⊥) → (n : ℕ) × (told ≡ refused n)
  code-refused h = let old = state_in edition1 s t in let fresh = sites_in edition2.litres t₂ in over-refused old fresh (migrate_row old fresh) (λ z. h (migrate-answer ∙ z))
