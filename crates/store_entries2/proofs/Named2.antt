-- The litres that a request names have 32 bits, by its type. Assumes nothing.
use mathlib.Core.List.{List}
use Prim.Native.Nat.{◌^◌}
use mir.Val.{Val}
use denote.Laws.{Is}
use denote.Enum.Laws as EL
use Rattle.store.specs.declared.Request.{Request}
use Rattle.store.specs.declared.Request.TheVariants.{Load, Change, Add, Propose, Share, Depot, Difference, Written, AtLeast, ListWritten}
use Rattle.store.specs.Widths.{Named}
use Rattle.store.specs.contracts.Request as Q
use Rattle.store.proofs.Request.TheLaws as Q'

pub named2 : (q : Request) (vs : List Val) → Is Q.the_row q vs → Named (2 ^ 32) q
named2 Load vs is = tt
named2 (Change i w) vs is = (EL.owed Q.the_type Q'.the_laws (Change i w) vs is).1.0.1
named2 (Add f s w) vs is = (EL.owed Q.the_type Q'.the_laws (Add f s w) vs is).1.1.0.1
named2 Propose vs is = tt
named2 (Share i) vs is = tt
named2 (Depot d) vs is = tt
named2 (Difference a b) vs is = tt
named2 Written vs is = tt
named2 (AtLeast m) vs is = tt
named2 ListWritten vs is = tt
