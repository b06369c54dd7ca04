-- Document 01, "Entry points", the desk: widths of figures. "Litres in a change or an added site are a 16-bit figure"; document 02, c: of edition 2 "its litres come as a 32-bit figure".
use Rattle.std.specs.Prelude.{◌≡◌, false, List, [], ◌∷◌, ℕ, ◌<◌, ◌≤◌, ◌^◌, get_or}
use Rattle.std.proofs.Math.Option.{none}
use Rattle.density.specs.Network.{no_site}
use Rattle.records.specs.declared.Edition.{Edition}
use Rattle.records.specs.Values.{roll_array}
use Rattle.held_state.specs.Held.{State}
use Rattle.store.specs.declared.Request.{Request}
use Rattle.store.specs.declared.Request.TheVariants.{Load, Change, Add, Propose, Share, Depot, Difference, Written, AtLeast, ListWritten}
use Rattle.store.specs.Calls.{Event, called, migrate, Reply}
use Rattle.store.specs.Trace.{Traced, traced_on}

-- the litres that a request puts into the table are below a bound; a threshold is put nowhere
abbrev pub Named : ℕ → Request → Type 0
Named b Load = Unit {0}
Named b (Change i w) = w < b
Named b (Add f d w) = w < b
Named b Propose = Unit {0}
Named b (Share i) = Unit {0}
Named b (Depot d) = Unit {0}
Named b (Difference a d) = Unit {0}
Named b Written = Unit {0}
Named b (AtLeast m) = Unit {0}
Named b ListWritten = Unit {0}

-- the litres that an event names have the width of the edition
abbrev pub NamedIn : Edition → Event → Type 0
NamedIn e (called c) = Named (256 ^ e.litres) c.request
NamedIn e (migrate table) = Unit {0}

-- the same of each of several events, whose replies tell the edition
unfoldable pub AllNamed : Traced → List Event → List Reply → Type 0
AllNamed t [] rs = Unit {0}
AllNamed t (v ∷ vs) [] = Unit {0}
AllNamed t (v ∷ vs) (r ∷ rs) = NamedIn t.edition v × AllNamed (traced_on v r.answer t) vs rs

-- litres of at most 32 bits and shares of at most 64, as a site and a plan by value have them
abbrev pub Fitting : Edition → Type 0
Fitting e = (e.litres ≤ 4) × (e.share ≤ 8)

-- the litres of the first m places have the width of the edition
abbrev pub PlacesFit : ℕ → State → Type 0
PlacesFit m s = (i : ℕ) → i < m → (get_or s.table i no_site).litres < 256 ^ s.edition.litres

-- so they have, all shares have theirs, and there is no roll where the edition has none
pub record Fits (m : ℕ) (s : State) : Type 0 where
  pub litres : PlacesFit m s
  pub shares : (i : ℕ) → get_or s.store.shares i 0 < 256 ^ s.edition.share
  pub roll : s.edition.roll ≡ false → s.store.roll ≡ roll_array none

-- a state of the edition, and the litres of the sites held have its width
pub record SitesFit (e : Edition) (s : State) : Type 0 where
  pub edition : s.edition ≡ e
  pub litres : PlacesFit s.store.count s
