-- The places that a call stores as a type of the logic, for the walks of the entries. Assumes nothing.
use mathlib.Core.List.{[], ◌∷◌}
use Prim.Native.Nat.{◌<◌, ◌^◌}
use denote.Laws.{Is}
use denote.Struct.Laws as LL
use Rattle.walks.proofs.Walk.{PlainRow, struct_row}
use Rattle.serve.specs.declared.Places.{Places}
use Rattle.serve.specs.contracts.Places as P
use Rattle.serve.proofs.Places.TheLaws as P'

abbrev pub places : PlainRow P.the_row
places = struct_row P.the_type P'.the_laws P'.the_copy P'.the_plain P'.lowers

module _ (p : Places) (is : Is P.the_row p (places.val p ∷ [])) where
  pub from-fits : p.from < 2 ^ 64
  from-fits = (LL.owed P.the_type P'.the_laws p _ is).0.1

  pub to-fits : p.to < 2 ^ 64
  to-fits = (LL.owed P.the_type P'.the_laws p _ is).1.0.1
