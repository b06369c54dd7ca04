-- The contracts of the functions over lent bytes, as the program logic has them, say what `Freshened` and `Called` say, and ask the widths, the length and, of `look`, a call that
-- only reads: by computation, so a changed contract is refused here. So each call is a step of a history (crate `store_migrate_bytes` has the histories). Assumes nothing.
use mathlib.Core.Path.{◌≡◌, refl, ap, ap₂, ◌∙◌}
use mathlib.Core.Bool.{Bool, true, false, cond}
use mathlib.Core.List.{List}
use mathlib.Core.Option.{none}
use Prim.Native.Nat.{ℕ, ◌<◌, ◌^◌}
use seplogic.Ra.Ura.{Ura}
use prog.Memory.{Memory}
use prog.Routine.{Routine}
use contract.Monad.{Fun}
use contract.Lifetimes.{Lfts}
use contract.Notation.{connectives}
use types.Logic.{Logic}
use base.Logic.{SProp}
use denote.Ref.{Bor, MutBor}
use borrow.Author.Tests.{eq-eqb}
use lib.Dec.{eqb}
use lib.ListN.{length}
use Rattle.density.specs.declared.Site.{Site}
use Rattle.records.specs.declared.Edition.{Edition}
use Rattle.records.specs.Bytes.{Bytes}
use Rattle.records.specs.Values.{roll_array}
use Rattle.records.specs.Write.{Marked}
use Rattle.held_state.specs.Held.{State}
use Rattle.store.specs.declared.Answer.{Answer}
use Rattle.std.specs.declared.result.Result.{Result}
use Rattle.records.specs.declared.refusal.Refusal.{Refusal}
use Rattle.store.specs.declared.Request.{Request}
use Rattle.store.specs.declared.Request.TheVariants as request
use Rattle.store.specs.Calls.{Call, Reply, Told, told}
use Rattle.store.specs.State.{Done, bare, step}
use Rattle.store.specs.Trace.{Steps, ReadsOnly, ListRoundTrip}
use Rattle.store.specs.Widths.{Named, Fitting}
use Rattle.store.proofs.ListRoundTrip.{list-round-trip}
use Rattle.layout.specs.Layout.{store_size, store_bytes, table_over}
use Rattle.layout_put.proofs.RoundTrip.{length-store}
use Rattle.layout_put.proofs.Places.{length-zeros}
use Rattle.lent.specs.Lent.{Lent, state_in, is_of, is_kept, lent, laid, Called, Freshened}
use Rattle.lent.proofs.Served.{litres-fit, roll-whole}
use Rattle.lent.specs.contracts.fresh as of-fresh
use Rattle.lent.specs.contracts.load as of-load
use Rattle.lent.specs.contracts.change as of-change
use Rattle.lent.specs.contracts.add as of-add
use Rattle.lent.specs.contracts.propose as of-propose
use Rattle.lent.specs.contracts.look as of-look
use Rattle.lent.specs.contracts.call as of-call

module _ {M : Type 1} {𝓤 : Ura M} (𝓛 : Logic 𝓤) (mem : Memory → SProp 𝓤) (run : Routine → Fun 𝓤) (e : Edition) where
  open connectives 𝓤 use {⌜◌⌝}

  module _ (κs : Lfts 1) (store store' : MutBor (List ℕ)) where
    fresh-says : (of-fresh.clauses 𝓛 mem run κs (e, (store, tt))).ensures tt tt (e, (store', tt)) ≡ ⌜ Freshened e store'.now ⌝
    fresh-says = refl

    fresh-asks : (of-fresh.clauses 𝓛 mem run κs (e, (store, tt))).requires tt ≡ ⌜ is_of e store.now ≡ true ⌝
    fresh-asks = refl

  module _ (κs : Lfts 3) (store store' table table' : MutBor (List ℕ)) (input input' : Bor (List ℕ)) where
    load-says : (r : Result Answer Refusal)
        → (of-load.clauses 𝓛 mem run κs (e, (store, (table, (input, tt))))).ensures tt r (e, (store', (table', (input', tt))))
        ≡ ⌜ ((buffer : List ℕ)
        → Called e store.now table.now (record { request = request.Load; input = input.now; buffer = buffer }) (told r) store'.now table'.now buffer) ⌝
    load-says r = refl

    load_asks : (of-load.clauses 𝓛 mem run κs (e, (store, (table, (input, tt))))).requires tt ≡ ⌜ Fitting e × (is_of e store.now ≡ true) ⌝
    load_asks = refl

  -- the table is only read
  module _ (κs : Lfts 3) (store store' : MutBor (List ℕ)) (table table' input input' : Bor (List ℕ)) where
    propose-says : (r : Result Answer Refusal)
        → (of-propose.clauses 𝓛 mem run κs (e, (store, (table, (input, tt))))).ensures tt r (e, (store', (table', (input', tt))))
        ≡ ⌜ ((buffer : List ℕ)
        → Called e store.now table.now (record { request = request.Propose; input = input.now; buffer = buffer }) (told r) store'.now table.now buffer) ⌝
    propose-says r = refl

    propose-asks : (of-propose.clauses 𝓛 mem run κs (e, (store, (table, (input, tt))))).requires tt ≡ ⌜ Fitting e × (is_of e store.now ≡ true) ⌝
    propose-asks = refl

  module _ (κs : Lfts 2) (store store' table table' : MutBor (List ℕ)) where
    change-says : (i w : ℕ) (r : Result Answer Refusal)
        → (of-change.clauses 𝓛 mem run κs (e, (store, (table, (i, (w, tt)))))).ensures tt r (e, (store', (table', (i, (w, tt)))))
        ≡ ⌜ ((input buffer : List ℕ) → Bytes input
        → Called e store.now table.now (record { request = request.Change i w; input = input; buffer = buffer }) (told r) store'.now table'.now buffer) ⌝
    change-says i w r = refl

    change-asks : (i w : ℕ)
        → (of-change.clauses 𝓛 mem run κs (e, (store, (table, (i, (w, tt)))))).requires tt
        ≡ ⌜ Fitting e × (is_of e store.now ≡ true) × (w < 256 ^ e.litres) ⌝
    change-asks i w = refl

    add-says : (x : Site) (r : Result Answer Refusal)
        → (of-add.clauses 𝓛 mem run κs (e, (store, (table, (x, tt))))).ensures tt r (e, (store', (table', (x, tt))))
        ≡ ⌜ ((input buffer : List ℕ) → Bytes input
        → Called e store.now table.now (record { request = request.Add x.first x.second x.litres; input = input; buffer = buffer }) (told r) store'.now
        table'.now buffer) ⌝
    add-says x r = refl

    add-asks : (x : Site)
        → (of-add.clauses 𝓛 mem run κs (e, (store, (table, (x, tt))))).requires tt ≡ ⌜ Fitting e × (is_of e store.now ≡ true) × (x.litres < 256 ^ e.litres) ⌝
    add-asks x = refl

  -- the store and the table are only read
  module _ (κs : Lfts 3) (store store' table table' : Bor (List ℕ)) (q : Request) (buffer buffer' : MutBor (List ℕ)) where
    look-says : (r : Result Answer Refusal)
        → (of-look.clauses 𝓛 mem run κs (e, (store, (table, (q, (buffer, tt)))))).ensures tt r (e, (store', (table', (q, (buffer', tt)))))
        ≡ ⌜ ((input : List ℕ) → Bytes input
        → Called e store.now table.now (record { request = q; input = input; buffer = buffer.now }) (told r) store.now table.now buffer'.now) ⌝
    look-says r = refl

    look-asks : (of-look.clauses 𝓛 mem run κs (e, (store, (table, (q, (buffer, tt)))))).requires tt ≡ ⌜ Fitting e × (is_of e store.now ≡ true) × ReadsOnly q ⌝
    look-asks = refl

  module _ (κs : Lfts 4) (store store' table table' : MutBor (List ℕ)) (q : Request) (input input' : Bor (List ℕ)) (buffer buffer' : MutBor (List ℕ)) where
    call-says : (r : Result Answer Refusal)
        → (of-call.clauses 𝓛 mem run κs (e, (store, (table, (q, (input, (buffer, tt))))))).ensures tt r (e, (store', (table', (q, (input', (buffer', tt))))))
        ≡ ⌜ Called e store.now table.now (record { request = q; input = input.now; buffer = buffer.now }) (told r) store'.now table'.now buffer'.now ⌝
    call-says r = refl

    call_asks : (of-call.clauses 𝓛 mem run κs (e, (store, (table, (q, (input, (buffer, tt))))))).requires tt
        ≡ ⌜ Fitting e × (is_of e store.now ≡ true) × Named (256 ^ e.litres) q ⌝
    call_asks = refl

-- ---- a call is a step

pub laid-reply : (e : Edition) (s t : List ℕ) (d : Done) → (laid e s t d).reply ≡ d.reply
laid-reply e s t d =
    by (lent s t d.reply) (lent (store_bytes e.share e.roll d.after.store) (table_over e.litres d.after.table t) d.reply) (is_kept d.reply.answer) refl refl
  where
    by : (x y : Lent) (b : Bool) → x.reply ≡ d.reply → y.reply ≡ d.reply → (cond b x y).reply ≡ d.reply
    by x y true p q = p
    by x y false p q = q

module _ {e : Edition} {s t s' t' buffer : List ℕ} {c : Call} {a : Told} (x : Called e s t c a s' t' buffer) where
  -- the store keeps its length, which each function asks
  pub stays-sized : is_of e s ≡ true → is_of e s' ≡ true
  stays-sized long = ap (λ (n : ℕ). eqb n (store_size e.share e.roll)) x.long ∙ long

  pub is-step : Steps (state_in e s t) c (record { answer = a; buffer = buffer }) (state_in e s' t')
  is-step =
      ap₂ (λ (z : State) (r : Reply). record { after = z; reply = r }) x.reads
      (ap (λ (l : Lent). l.reply) x.is ∙ laid-reply e s t (step (state_in e s t) c))

-- a fresh store has the length that each call asks
pub fresh-sized : {e : Edition} {s : List ℕ} → Freshened e s → is_of e s ≡ true
fresh-sized {e} {s} f =
    eq-eqb (length s) (store_size e.share e.roll)
    (ap length f.is ∙ length-store e.share e.roll (bare 0 (roll_array none)) (length-zeros 64) (length-zeros 512) (length-zeros 64))

-- Document 02, b: the list written out, at any store and any table of bytes; where the edition has rolls, the store has its length.
pub bytes-list : (e : Edition) → Marked e → (s t : List ℕ) → (e.roll ≡ true → is_of e s ≡ true) → Bytes t → ListRoundTrip (state_in e s t)
bytes-list e m s t sized b = list-round-trip (state_in e s t) m (λ i l. litres-fit e t b i) (roll-whole e s sized)
