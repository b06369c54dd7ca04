-- The loops that copy a lent table in, or all of 512 elements, for elements of any type: what the copies of each edition share. Assumes nothing.
use mathlib.Core.Path.{◌≡◌, ap, ◌∙◌}
use mathlib.Core.List.{List}
use Prim.Native.Nat.{ℕ, ◌+◌, ◌≤◌, ◌<◌}
use native.Mathlib.Omega.{arith}
use lib.ListN.{length, get_or, set}
use Rattle.table.specs.Table.{overlay, blank}
use Rattle.table.proofs.Overlay.{blank-length, overlay-next, overlay-all, overlay-length}

-- after i turns the first i sites of the table stand over blank places
module _ {X : Type 0} (none : X) (table : List X) (i : ℕ) where
  pub filled-length : i ≤ 512 → i ≤ length table → length (overlay i table (blank none)) ≡ 512
  filled-length a b = overlay-length table (blank none) i b (omega (arith, blank-length none)) ∙ blank-length none

  pub filled_next : (found : X) → i < 512 → i < length table → found ≡ get_or table i none → set (overlay i table (blank none)) i found ≡ overlay (i + 1) table (blank none)
  filled_next found l m read =
      ap (λ (y : X). set (overlay i table (blank none)) i y) read ∙ overlay-next table (blank none) i none m (omega (arith, blank-length none))

  -- and after 512 turns all of them, if they are 512
  pub filled-all : 512 ≤ i → length table ≡ 512 → overlay i table (blank none) ≡ table
  filled-all a b = overlay-all table (blank none) i (omega (arith, a, b)) (omega (arith, a, blank-length none))
