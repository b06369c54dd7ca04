-- The contract of each exported function of the store, as the program logic has it, says what the definitions of `codes/specs/Codes` say of the store's edition, told by its
-- length, or of the edition that the function is for, and asks nothing.
-- Each holds by computation, so a changed contract is refused here. Assumes nothing.
use Prim.Native.Nat.{ℕ}
use mathlib.Core.List.{List, []}
use mathlib.Core.Path.{◌≡◌, refl}
use seplogic.Ra.Ura.{Ura}
use prog.Memory.{Memory}
use prog.Routine.{Routine}
use contract.Monad.{Fun}
use contract.Lifetimes.{Lfts}
use contract.Notation.{connectives}
use types.Logic.{Logic}
use base.Logic.{SProp}
use denote.Ref.{Bor, MutBor}
use lib.IntN.{ℤ}
use Rattle.records.specs.declared.Edition.{Edition}
use Rattle.records.specs.Format.{edition1, edition2}
use Rattle.store.specs.declared.Request.TheVariants.{Load, Change, Add, Propose, Share, Depot, Difference, Written, AtLeast, ListWritten}
use Rattle.codes.specs.Codes.{edition_in, Did, Figures, OneFigure, Differs, WroteOut, FreshCode, MigrateCode}
use Rattle.desk.specs.Exports.{coded, written, Exported, edition_for, asked}
use Rattle.desk.specs.contracts.sulgheti_fresh as of-fresh
use Rattle.desk.specs.contracts.sulgheti_fresh2 as of-fresh2
use Rattle.desk.specs.contracts.sulgheti_load as of-load
use Rattle.desk.specs.contracts.sulgheti_change as of-change
use Rattle.desk.specs.contracts.sulgheti_change2 as of-change2
use Rattle.desk.specs.contracts.sulgheti_add as of-add
use Rattle.desk.specs.contracts.sulgheti_add2 as of-add2
use Rattle.desk.specs.contracts.sulgheti_propose as of-propose
use Rattle.desk.specs.contracts.sulgheti_share as of-share
use Rattle.desk.specs.contracts.sulgheti_depot as of-depot
use Rattle.desk.specs.contracts.sulgheti_difference as of-difference
use Rattle.desk.specs.contracts.sulgheti_written as of-written
use Rattle.desk.specs.contracts.sulgheti_at_least as of-at-least
use Rattle.desk.specs.contracts.sulgheti_list as of-list
use Rattle.desk.specs.contracts.sulgheti_migrate as of-migrate

module _ {M : Type 1} {𝓤 : Ura M} (𝓛 : Logic 𝓤) (mem : Memory → SProp 𝓤) (run : Routine → Fun 𝓤) where
  open connectives 𝓤 use {⌜◌⌝, ⊤ₛ}

  module _ (s s' : MutBor (List ℕ)) where
    fresh-says : (κs : Lfts 1) (r : ℤ) → (of-fresh.clauses 𝓛 mem run κs (s, tt)).ensures tt r (s', tt) ≡ ⌜ FreshCode edition1 s.now r s'.now ⌝
    fresh-says κs r = refl

    fresh-asks : (κs : Lfts 1) → (of-fresh.clauses 𝓛 mem run κs (s, tt)).requires tt ≡ ⊤ₛ
    fresh-asks κs = refl

    fresh2-says : (κs : Lfts 1) (r : ℤ) → (of-fresh2.clauses 𝓛 mem run κs (s, tt)).ensures tt r (s', tt) ≡ ⌜ FreshCode edition2 s.now r s'.now ⌝
    fresh2-says κs r = refl

    fresh2-asks : (κs : Lfts 1) → (of-fresh2.clauses 𝓛 mem run κs (s, tt)).requires tt ≡ ⊤ₛ
    fresh2-asks κs = refl

    module _ (t t' : MutBor (List ℕ)) (r : ℤ) where
      load-says : (κs : Lfts 3) (list list' : Bor (List ℕ))
          → (of-load.clauses 𝓛 mem run κs (s, (t, (list, tt)))).ensures tt r (s', (t', (list', tt)))
          ≡ ⌜ Did (edition_in s.now) s.now t.now (asked Load list.now []) r s'.now t'.now ⌝
      load-says κs list list' = refl

      load_asks : (κs : Lfts 3) (list : Bor (List ℕ)) → (of-load.clauses 𝓛 mem run κs (s, (t, (list, tt)))).requires tt ≡ ⊤ₛ
      load_asks κs list = refl

      change-says : (κs : Lfts 2) (i : ℕ) (w : ℕ)
          → (of-change.clauses 𝓛 mem run κs (s, (t, (i, (w, tt))))).ensures tt r (s', (t', (i, (w, tt))))
          ≡ ⌜ Did edition1 s.now t.now (asked (Change i w) [] []) r s'.now t'.now ⌝
      change-says κs i w = refl

      change-asks : (κs : Lfts 2) (i : ℕ) (w : ℕ) → (of-change.clauses 𝓛 mem run κs (s, (t, (i, (w, tt))))).requires tt ≡ ⊤ₛ
      change-asks κs i w = refl

      add-says : (κs : Lfts 2) (f : ℕ) (d : ℕ) (w : ℕ)
          → (of-add.clauses 𝓛 mem run κs (s, (t, (f, (d, (w, tt)))))).ensures tt r (s', (t', (f, (d, (w, tt)))))
          ≡ ⌜ Did edition1 s.now t.now (asked (Add f d w) [] []) r s'.now t'.now ⌝
      add-says κs f d w = refl

      add-asks : (κs : Lfts 2) (f : ℕ) (d : ℕ) (w : ℕ) → (of-add.clauses 𝓛 mem run κs (s, (t, (f, (d, (w, tt)))))).requires tt ≡ ⊤ₛ
      add-asks κs f d w = refl

      change2-says : (κs : Lfts 2) (i : ℕ) (w : ℕ)
          → (of-change2.clauses 𝓛 mem run κs (s, (t, (i, (w, tt))))).ensures tt r (s', (t', (i, (w, tt))))
          ≡ ⌜ Did edition2 s.now t.now (asked (Change i w) [] []) r s'.now t'.now ⌝
      change2-says κs i w = refl

      change2-asks : (κs : Lfts 2) (i : ℕ) (w : ℕ) → (of-change2.clauses 𝓛 mem run κs (s, (t, (i, (w, tt))))).requires tt ≡ ⊤ₛ
      change2-asks κs i w = refl

      add2-says : (κs : Lfts 2) (f : ℕ) (d : ℕ) (w : ℕ)
          → (of-add2.clauses 𝓛 mem run κs (s, (t, (f, (d, (w, tt)))))).ensures tt r (s', (t', (f, (d, (w, tt)))))
          ≡ ⌜ Did edition2 s.now t.now (asked (Add f d w) [] []) r s'.now t'.now ⌝
      add2-says κs f d w = refl

      add2-asks : (κs : Lfts 2) (f : ℕ) (d : ℕ) (w : ℕ) → (of-add2.clauses 𝓛 mem run κs (s, (t, (f, (d, (w, tt)))))).requires tt ≡ ⊤ₛ
      add2-asks κs f d w = refl

    -- the table is only read
    module _ (t t' : Bor (List ℕ)) (r : ℤ) where
      propose-says : (κs : Lfts 3) (plan plan' : Bor (List ℕ))
          → (of-propose.clauses 𝓛 mem run κs (s, (t, (plan, tt)))).ensures tt r (s', (t', (plan', tt)))
          ≡ ⌜ Did (edition_in s.now) s.now t.now (asked Propose plan.now []) r s'.now t.now ⌝
      propose-says κs plan plan' = refl

      propose-asks : (κs : Lfts 3) (plan : Bor (List ℕ)) → (of-propose.clauses 𝓛 mem run κs (s, (t, (plan, tt)))).requires tt ≡ ⊤ₛ
      propose-asks κs plan = refl

  -- the store and the table are only read
  module _ (s s' t t' : Bor (List ℕ)) (r : ℤ) where
    share-says : (κs : Lfts 4) (i : ℕ) (x x' : MutBor ℕ) (y y' : MutBor ℕ)
        → (of-share.clauses 𝓛 mem run κs (s, (t, (i, (x, (y, tt)))))).ensures tt r (s', (t', (i, (x', (y', tt)))))
        ≡ ⌜ Figures (edition_in s.now) s.now t.now (asked (Share i) [] []) r x.now y.now x'.now y'.now ⌝
    share-says κs i x x' y y' = refl

    share-asks : (κs : Lfts 4) (i : ℕ) (x : MutBor ℕ) (y : MutBor ℕ) → (of-share.clauses 𝓛 mem run κs (s, (t, (i, (x, (y, tt)))))).requires tt ≡ ⊤ₛ
    share-asks κs i x y = refl

    depot-says : (κs : Lfts 4) (d : ℕ) (x x' : MutBor ℕ) (y y' : MutBor ℕ)
        → (of-depot.clauses 𝓛 mem run κs (s, (t, (d, (x, (y, tt)))))).ensures tt r (s', (t', (d, (x', (y', tt)))))
        ≡ ⌜ Figures (edition_in s.now) s.now t.now (asked (Depot d) [] []) r x.now y.now x'.now y'.now ⌝
    depot-says κs d x x' y y' = refl

    depot-asks : (κs : Lfts 4) (d : ℕ) (x : MutBor ℕ) (y : MutBor ℕ) → (of-depot.clauses 𝓛 mem run κs (s, (t, (d, (x, (y, tt)))))).requires tt ≡ ⊤ₛ
    depot-asks κs d x y = refl

    difference-says : (κs : Lfts 4) (a : ℕ) (b : ℕ) (x x' : MutBor ℤ) (y y' : MutBor ℕ)
        → (of-difference.clauses 𝓛 mem run κs (s, (t, (a, (b, (x, (y, tt))))))).ensures tt r (s', (t', (a, (b, (x', (y', tt))))))
        ≡ ⌜ Differs (edition_in s.now) s.now t.now (asked (Difference a b) [] []) r x.now y.now x'.now y'.now ⌝
    difference-says κs a b x x' y y' = refl

    difference-asks : (κs : Lfts 4) (a : ℕ) (b : ℕ) (x : MutBor ℤ) (y : MutBor ℕ) → (of-difference.clauses 𝓛 mem run κs (s, (t, (a, (b, (x, (y, tt))))))).requires tt ≡ ⊤ₛ
    difference-asks κs a b x y = refl

    written-says : (κs : Lfts 3) (out out' : MutBor (List ℕ))
        → (of-written.clauses 𝓛 mem run κs (s, (t, (out, tt)))).ensures tt r (s', (t', (out', tt)))
        ≡ ⌜ WroteOut (edition_in s.now) s.now t.now (asked Written [] out.now) r out'.now ⌝
    written-says κs out out' = refl

    written-asks : (κs : Lfts 3) (out : MutBor (List ℕ)) → (of-written.clauses 𝓛 mem run κs (s, (t, (out, tt)))).requires tt ≡ ⊤ₛ
    written-asks κs out = refl

    at-least-says : (κs : Lfts 3) (m : ℕ) (x x' : MutBor ℕ)
        → (of-at-least.clauses 𝓛 mem run κs (s, (t, (m, (x, tt))))).ensures tt r (s', (t', (m, (x', tt))))
        ≡ ⌜ OneFigure (edition_in s.now) s.now t.now (asked (AtLeast m) [] []) r x.now x'.now ⌝
    at-least-says κs m x x' = refl

    at-least-asks : (κs : Lfts 3) (m : ℕ) (x : MutBor ℕ) → (of-at-least.clauses 𝓛 mem run κs (s, (t, (m, (x, tt))))).requires tt ≡ ⊤ₛ
    at-least-asks κs m x = refl

    list-says : (κs : Lfts 3) (out out' : MutBor (List ℕ))
        → (of-list.clauses 𝓛 mem run κs (s, (t, (out, tt)))).ensures tt r (s', (t', (out', tt)))
        ≡ ⌜ WroteOut (edition_in s.now) s.now t.now (asked ListWritten [] out.now) r out'.now ⌝
    list-says κs out out' = refl

    list-asks : (κs : Lfts 3) (out : MutBor (List ℕ)) → (of-list.clauses 𝓛 mem run κs (s, (t, (out, tt)))).requires tt ≡ ⊤ₛ
    list-asks κs out = refl

    -- the old store and its table are only read
    migrate-says : (κs : Lfts 4) (s₂ s₂' t₂ t₂' : MutBor (List ℕ))
        → (of-migrate.clauses 𝓛 mem run κs (s, (t, (s₂, (t₂, tt))))).ensures tt r (s', (t', (s₂', (t₂', tt))))
        ≡ ⌜ MigrateCode s.now t.now s₂.now t₂.now r s₂'.now t₂'.now ⌝
    migrate-says κs s₂ s₂' t₂ t₂' = refl

    migrate-asks : (κs : Lfts 4) (s₂ t₂ : MutBor (List ℕ)) → (of-migrate.clauses 𝓛 mem run κs (s, (t, (s₂, (t₂, tt))))).requires tt ≡ ⊤ₛ
    migrate-asks κs s₂ t₂ = refl

-- what a history's calls are said by (`Exported`, `edition_for`) are these contracts
module _ (e : Edition) (s t s' t' : List ℕ) (r : ℤ) where
  load-exported : (list : List ℕ) → Exported (edition_for e Load s) s t (asked Load list []) (coded r) s' t' ≡ Did (edition_in s) s t (asked Load list []) r s' t'
  load-exported list = refl

  change-exported : (i w : ℕ) → Exported (edition_for e (Change i w) s) s t (asked (Change i w) [] []) (coded r) s' t' ≡ Did e s t (asked (Change i w) [] []) r s' t'
  change-exported i w = refl

  add-exported : (f d w : ℕ) → Exported (edition_for e (Add f d w) s) s t (asked (Add f d w) [] []) (coded r) s' t' ≡ Did e s t (asked (Add f d w) [] []) r s' t'
  add-exported f d w = refl

  propose-exported : (plan : List ℕ) → Exported (edition_for e Propose s) s t (asked Propose plan []) (coded r) s' t' ≡ Did (edition_in s) s t (asked Propose plan []) r s' t'
  propose-exported plan = refl

  list-exported : (buffer out : List ℕ)
      → Exported (edition_for e ListWritten s) s t (asked ListWritten [] buffer) (written r out) s' t'
      ≡ (WroteOut (edition_in s) s t (asked ListWritten [] buffer) r out × (s' ≡ s) × (t' ≡ t))
  list-exported buffer out = refl
