-- `codes::is_store` meets its contract. Assumes nothing.
use mathlib.Core.Bool.{Bool}
use mathlib.Core.Path.{sym, ap, ◌∙◌}
use native.Mathlib.Nat.{add-zero}
use lib.Dec.{eqb}
use lib.ListN.{length}
use Rattle.records.specs.declared.Edition.{Edition}
use mathlib.Core.List.{List}
use Prim.Native.Nat.{ℕ}
use Rattle.layout.specs.Layout.{front_size, is_sized}
use Rattle.codes.proofs.is_store.Goals as goal

-- the answer, by whether the edition has rolls
abbrev sized : Edition → List ℕ → Bool → Bool
sized e s b = is_sized e.share b s

pub returns-then-e : goal.returns-then-e
returns-then-e c = sym (ap (sized c.args.e c.args.store.now) c.if-e.true)

pub returns : goal.returns
returns c =
    let a = c.args in
    ap (eqb (length a.store.now)) (sym (add-zero (front_size a.e.share))) ∙ sym (ap (sized a.e a.store.now) c.if-e.false)
