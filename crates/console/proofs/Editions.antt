-- The front of an array as a store of either edition. Assumes nothing.
use Prim.Native.Nat.{ℕ, ◌≤◌}
use mathlib.Core.Path.{◌≡◌, sym, ◌∙◌}
use mathlib.Core.Bool.{true}
use mathlib.Core.List.{List}
use native.Mathlib.Omega.{arith}
use lib.Dec.{lit≤}
use lib.ListN.{length, take}
use lib.Seq.{length-take-le}
use borrow.Author.Tests.{eq-eqb}
use Rattle.layout.specs.Layout.{store_size}
use Rattle.lent.specs.Lent.{is_of}
use Rattle.console.specs.Editions.{edition_at}
use Rattle.console.specs.declared.DeskEdition.{DeskEdition}
use Rattle.console.specs.declared.DeskEdition.TheVariants.{First, Second}

store-fits : (edition : DeskEdition) → store_size (edition_at edition).share (edition_at edition).roll ≤ 4704
store-fits First = lit≤ tt
store-fits Second = lit≤ tt

-- n is the length of a store
module _ (edition : DeskEdition) {n : ℕ} (e : n ≡ store_size (edition_at edition).share (edition_at edition).roll) where
  store-within : n ≤ 4704
  store-within = rw e (store-fits edition)

  module _ (s : List ℕ) (long : length s ≡ 4704) where
    pub front_long : n ≡ length (take n s)
    front_long = sym (length-take-le n s (omega (arith, store-within, long)))

    pub front-is : is_of (edition_at edition) (take n s) ≡ true
    front-is = eq-eqb _ _ (sym front_long ∙ e)
