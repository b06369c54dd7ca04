-- No bytes at a place of a buffer. Assumes nothing.
use Prim.Native.Nat.{ℕ}
use mathlib.Core.List.{List, []}
use mathlib.Core.Path.{◌≡◌}
use native.Mathlib.Nat.{add-zero}
use lib.ListN.{take-append-drop}
use Rattle.records.specs.Write.{place}

pub place_none : (at : ℕ) (d : List ℕ) → place at [] d ≡ d
place_none at d = rw add-zero (take-append-drop at d)
