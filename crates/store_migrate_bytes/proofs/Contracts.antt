-- The contract of the step over lent bytes, as the program logic has it, says what `Migrated` says, and asks the lengths of both stores: by computation, so a changed contract is refused
-- here. So any calls of the functions over lent bytes (crate `lent`) with the step among them, from the bytes that `fresh` writes and a table of any bytes, are a history of document 01.
-- Assumes nothing.
use mathlib.Core.Path.{◌≡◌, refl, sym, ap, ap₂, ◌∙◌, subst}
use mathlib.Core.Bool.{true}
use mathlib.Core.List.{List, map}
use mathlib.Core.Option.{Option, none, some}
use Prim.Native.Nat.{ℕ}
use seplogic.Ra.Ura.{Ura}
use prog.Memory.{Memory}
use prog.Routine.{Routine}
use contract.Monad.{Fun}
use contract.Lifetimes.{Lfts}
use contract.Notation.{connectives}
use types.Logic.{Logic}
use base.Logic.{SProp}
use denote.Ref.{Bor, MutBor}
use native.Mathlib.Omega.{arith}
use lib.Dec.{eqb}
use Rattle.records.specs.declared.Edition.{Edition}
use Rattle.records.specs.Format.{edition1, edition2}
use Rattle.records.specs.Write.{Marked}
use Rattle.held_state.specs.declared.Store.{Store}
use Rattle.held_state.specs.Held.{State, on}
use Rattle.std.specs.declared.result as std
use Rattle.records.specs.declared.refusal.Refusal.{Refusal}
use Rattle.store.specs.declared.Answer.{Answer}
use Rattle.store.specs.Calls.{Event, Reply, Told, told, unbuffered, done, refused}
use Rattle.store.specs.State.{model_of, migrate_row, migrate_step}
use Rattle.store.specs.Trace.{Run, start, then, Goes, History, AllBytes, Exact, SameFigures}
use Rattle.store.proofs.History.{exact, same-figures}
use Rattle.layout.specs.Layout.{store_size, sites_in}
use Rattle.lent.specs.Lent.{Lent, state_in, is_of, Freshened}
use Rattle.lent.proofs.Contracts.{laid-reply, stays-sized, is-step}
use Rattle.store_migrate_bytes.specs.Migrate.{into, migrates, Migrated}
use Rattle.store_migrate_bytes.specs.Calls.{Result, replied, Calls, none as no_call, next, over, not-over}
use Rattle.store_migrate_bytes.specs.contracts.migrate as of-migrate

-- the old store and its table are only read
module _ {M : Type 1} {𝓤 : Ura M} (𝓛 : Logic 𝓤) (mem : Memory → SProp 𝓤) (run : Routine → Fun 𝓤) (κs : Lfts 4)
    (store store' table table' : Bor (List ℕ)) (store2 store2' table2 table2' : MutBor (List ℕ)) where
  open connectives 𝓤 use {⌜◌⌝}

  migrate-says : (r : std.Result.Result Answer Refusal)
      → (of-migrate.clauses 𝓛 mem run κs (store, (table, (store2, (table2, tt))))).ensures tt r (store', (table', (store2', (table2', tt))))
      ≡ ⌜ Migrated store.now table.now store2.now table2.now (told r) store2'.now table2'.now ⌝
  migrate-says r = refl

  migrate-asks : (of-migrate.clauses 𝓛 mem run κs (store, (table, (store2, (table2, tt))))).requires tt
      ≡ ⌜ (is_of edition1 store.now ≡ true) × (is_of edition2 store2.now ≡ true) ⌝
  migrate-asks = refl

-- ---- calls, one after another

-- the step to edition 2: done, the new bytes stand for the state after it
module _ {s t s₂ t₂ s₂' t₂' : List ℕ} {a : Told} (x : Migrated s t s₂ t₂ a s₂' t₂') where
  step-reply : (migrates s t t₂).reply ≡ unbuffered a
  step-reply = sym (laid-reply edition2 s₂ t₂ (migrates s t t₂)) ∙ ap (λ (l : Lent). l.reply) (sym x.is)

  pub over-goes : a ≡ done → Goes (state_in edition1 s t) (into t₂) (unbuffered a) (state_in edition2 s₂' t₂')
  over-goes h = (refl, ap₂ (λ (z : State) (r : Reply). record { after = z; reply = r }) (x.reads h) (sym step-reply))

  -- the store of edition 2 has its length
  pub over_sized : is_of edition2 s₂ ≡ true → is_of edition2 s₂' ≡ true
  over_sized long = ap (λ (n : ℕ). eqb n (store_size edition2.share edition2.roll)) x.long ∙ long

  -- refused, the history goes on with the old ones
  stays_by : (o : Option ℕ) (n : ℕ) → (migrate_step o (state_in edition1 s t) (sites_in edition2.litres t₂)).reply.answer ≡ refused n
      → (migrate_step o (state_in edition1 s t) (sites_in edition2.litres t₂)).after ≡ state_in edition1 s t
  stays_by none n h = absurd (let z : ◌≡◌ {A = ℕ} 0 1 = cc in omega arith)
  stays_by (some m) n h = refl

  pub not-over-goes : (n : ℕ) → a ≡ refused n → Goes (state_in edition1 s t) (into t₂) (unbuffered a) (state_in edition1 s t)
  not-over-goes n h = (
    refl,
    ap₂ (λ (z : State) (r : Reply). record { after = z; reply = r })
        (sym (stays_by (migrate_row (state_in edition1 s t) (sites_in edition2.litres t₂)) n (ap (λ (r : Reply). r.answer) step-reply ∙ h))) (sym step-reply),
  )

pub calls-run : {e d : Edition} {s t s' t' : List ℕ} {vs : List Event} {rs : List Result} → Calls e s t vs rs d s' t'
    → Run Goes (state_in e s t) vs (map replied rs) (state_in d s' t')
calls-run no_call = start
calls-run (next x xs) = then (tt, is-step x) (calls-run xs)
calls-run (over t₂ a long h x xs) = then (over-goes x h) (calls-run xs)
calls-run (not-over t₂ a n long h x xs) = then (not-over-goes x n h) (calls-run xs)

-- every input is bytes: the contract says so
pub calls-bytes : {e d : Edition} {s t s' t' : List ℕ} {vs : List Event} {rs : List Result} → Calls e s t vs rs d s' t' → AllBytes vs
unfolding AllBytes
calls-bytes no_call = tt
calls-bytes (next x xs) = (x.bytes, calls-bytes xs)
calls-bytes (over t₂ a long h x xs) = (tt, calls-bytes xs)
calls-bytes (not-over t₂ a n long h x xs) = (tt, calls-bytes xs)

pub calls-sized : {e d : Edition} {s t s' t' : List ℕ} {vs : List Event} {rs : List Result} → Calls e s t vs rs d s' t' → is_of e s ≡ true → is_of d s' ≡ true
calls-sized no_call long = long
calls-sized (next x xs) long = calls-sized xs (stays-sized x long)
calls-sized (over t₂ a new h x xs) long = calls-sized xs (over_sized x new)
calls-sized (not-over t₂ a n new h x xs) long = calls-sized xs long

module _ {e d : Edition} {s t s' t' : List ℕ} {vs : List Event} {rs : List Result} (f : Freshened e s) (calls : Calls e s t vs rs d s' t') where
  -- Any calls, from the bytes that `fresh` writes and a table of any bytes, are a history, which goes through the step where they do.
  pub calls-history : History e (sites_in e.litres t) vs (map replied rs) (state_in d s' t')
  calls-history =
      subst (λ (z : State). Run Goes z vs (map replied rs) (state_in d s' t')) (ap (λ (x : Store). on e x (sites_in e.litres t)) f.reads) (calls-run calls)

  -- Demand 3 of these calls.
  pub calls-exact : Marked e → Exact e (sites_in e.litres t) vs (map replied rs) (state_in d s' t')
  calls-exact m = exact m calls-history (calls-bytes calls)

-- Two stores that hold the same list after such calls: each W, q, w × q, difference and set of depots that both answer is the same.
pub calls-same-figures : {e f d g : Edition} {s t s' t' u v u' v' : List ℕ} {vs ws : List Event} {rs ts : List Result} → Marked e → Marked f → Freshened e s
    → Calls e s t vs rs d s' t' → Freshened f u → Calls f u v ws ts g u' v' → (model_of (state_in d s' t')).list ≡ (model_of (state_in g u' v')).list
    → SameFigures (state_in d s' t') (state_in g u' v')
calls-same-figures m n f x g y = same-figures (calls-exact f x m) (calls-exact g y n)
