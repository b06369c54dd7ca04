-- What a call of the store does to lent bytes, over the edition of the store.
use Rattle.std.specs.Prelude.{◌≡◌, Bool, true, false, cond, List, ℕ, length}
use Rattle.std.proofs.Math.Option.{none}
use Rattle.records.specs.Bytes.{Bytes}
use Rattle.records.specs.declared.Edition.{Edition}
use Rattle.records.specs.Values.{roll_array}
use Rattle.store.specs.Calls.{Call, Reply, Told, refused, done, shared, loaded, differ, wrote, reached}
use Rattle.held_state.specs.Held.{State, on}
use Rattle.store.specs.State.{Done, bare, step}
use Rattle.layout.specs.Layout.{store_bytes, is_sized, store_in, sites_in, table_over}

-- the state that the bytes of a store and of a table stand for
abbrev pub state_in : Edition → List ℕ → List ℕ → State
state_in e s t = on e (store_in e.share e.roll s) (sites_in e.litres t)

-- the bytes have the length of a store of the edition
abbrev pub is_of : Edition → List ℕ → Bool
is_of e s = is_sized e.share e.roll s

-- What a call leaves: the bytes of the store and of the table, and its reply.
pub record Lent : Type 0 where
  pub store : List ℕ
  pub table : List ℕ
  pub reply : Reply

-- Does a call that is so answered leave the store as it was? A refused call and one that only reads do.
abbrev pub is_kept : Told → Bool
is_kept (refused n) = true
is_kept done = false
is_kept (shared s w) = true
is_kept (loaded w q) = true
is_kept (differ d q) = true
is_kept (wrote n) = true
is_kept (reached x) = true

abbrev pub lent : List ℕ → List ℕ → Reply → Lent
lent s t r = record { store = s; table = t; reply = r }

-- the bytes of the state after a step; a refused call and one that only reads leave all as it was
abbrev pub laid : Edition → List ℕ → List ℕ → Done → Lent
laid e s t d =
    cond (is_kept d.reply.answer) (lent s t d.reply)
    (lent (store_bytes e.share e.roll d.after.store) (table_over e.litres d.after.table t) d.reply)

-- a call, at bytes that have the length of a store of the edition
abbrev pub call : Edition → List ℕ → List ℕ → Call → Lent
call e s t c = laid e s t (step (state_in e s t) c)

-- What a call promises: the bytes and the reply are those, the store keeps its length, the bytes stand for the state after the step, and the input is
-- bytes.
pub record Called (e : Edition) (s t : List ℕ) (c : Call) (answer : Told) (s' t' buffer : List ℕ) : Type 0 where
  pub is : lent s' t' (record { answer = answer; buffer = buffer }) ≡ call e s t c
  pub long : length s' ≡ length s
  pub reads : state_in e s' t' ≡ (step (state_in e s t) c).after
  pub bytes : Bytes c.input

-- "A fresh desk has no sites, no plan, and 512 places for shares, all zero. Its 64 places for groups are zero too." Document 02, g: of rolls "a fresh desk .. [has] none".
pub record Freshened (e : Edition) (s' : List ℕ) : Type 0 where
  pub is : s' ≡ store_bytes e.share e.roll (bare 0 (roll_array none))
  pub reads : store_in e.share e.roll s' ≡ bare 0 (roll_array none)
