-- The rows of a change, of another site and of the step to edition 2, test by test. Assumes nothing.
use mathlib.Core.Path.{◌≡◌, sym, ap, ◌∙◌}
use mathlib.Core.Bool.{Bool, true, false, ◌||◌}
use mathlib.Core.List.{List}
use mathlib.Core.Option.{Option, none, some}
use Prim.Native.Nat.{ℕ, ◌≤◌, ◌<◌}
use borrow.Author.Tests.{lt-ltb, le-ltb, le-leb, lt-leb, eq-eqb, ne_eqb}
use lib.Dec.{leb, ltb}
use lib.ListN.{length}
use Rattle.density.specs.declared.Site.{Site}
use Rattle.density.specs.Network.{uncrewed}
use Rattle.density.specs.Rows.{first_row}
use Rattle.records.specs.declared.RollArray.{RollArray}
use Rattle.records.specs.Values.{roll_in}
use Rattle.store.specs.declared.Request.{Request}
use Rattle.store.specs.declared.Request.TheVariants.{Change, Add}
use Rattle.store.specs.Calls.{Call}
use Rattle.store.specs.Model.{Model, rows_of, migrate_rows}

module _ (b : Model) (c : Call) (count : ℕ) (n : length b.list.sites ≡ count) where
  abbrev row_is : Option ℕ → Request → Type 0
  row_is v q = v ≡ first_row (rows_of b c q)

  module _ (i w : ℕ) where
    pub change-litres : w ≡ 0 → row_is (some 6) (Change i w)
    unfolding first_row
    change-litres z = sym (rw (eq-eqb w 0 z))

    module _ (z : w ≡ 0 → ⊥) where
      pub change-beyond : count ≤ i → row_is (some 18) (Change i w)
      unfolding first_row
      change-beyond l = sym (rw (ne_eqb w 0 z, n, le-leb count i l))

      pub change-passes : i < count → row_is none (Change i w)
      unfolding first_row
      change-passes l = sym (rw (ne_eqb w 0 z, n, lt-leb count i l))

  module _ (places : ℕ) (m : b.places ≡ places) (x : Site) where
    abbrev request : Request
    request = Add x.first x.second x.litres

    pub add-full : (leb 512 count || leb places count) ≡ true → row_is (some 2) request
    unfolding first_row
    add-full t = sym (rw (n, m, t))

    module _ (t : (leb 512 count || leb places count) ≡ false) where
      pub add-depots : (ltb 63 x.first || ltb 63 x.second) ≡ true → row_is (some 5) request
      unfolding first_row
      add-depots u = sym (rw (n, m, t, u))

      module _ (u : (ltb 63 x.first || ltb 63 x.second) ≡ false) where
        pub add-litres : x.litres ≡ 0 → row_is (some 6) request
        unfolding first_row
        add-litres z = sym (rw (n, m, t, u, eq-eqb x.litres 0 z))

        module _ (z : x.litres ≡ 0 → ⊥) (roll : RollArray) (o : b.list.roll ≡ roll_in roll) where
          crews : {v : Bool} → uncrewed (roll_in roll) x ≡ v → uncrewed b.list.roll x ≡ v
          crews h = ap (λ (r : Option (List ℕ)). uncrewed r x) o ∙ h

          pub add-uncrewed : uncrewed (roll_in roll) x ≡ true → row_is (some 23) request
          unfolding first_row
          add-uncrewed v = sym (rw (n, m, t, u, ne_eqb x.litres 0 z, crews v))

          pub add-passes : uncrewed (roll_in roll) x ≡ false → row_is none request
          unfolding first_row
          add-passes v = sym (rw (n, m, t, u, ne_eqb x.litres 0 z, crews v))

-- Document 02, e: "a new table with too few places gives row 2".
module _ (b : Model) (count : ℕ) (n : length b.list.sites ≡ count) (places : ℕ) where
  pub migrate-full : places < count → some 2 ≡ first_row (migrate_rows b places)
  unfolding first_row
  migrate-full l = sym (rw (n, lt-ltb places count l))

  pub migrate-passes : count ≤ places → none ≡ first_row (migrate_rows b places)
  unfolding first_row
  migrate-passes l = sym (rw (n, le-ltb places count l))
