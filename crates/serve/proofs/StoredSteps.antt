-- What a call stores is all that its step changes: with the decision's sites at the places that `stored_of` says, the table is the step's.
-- Of sites as the definition has them, and of any that are seen as such. Assumes nothing.
use mathlib.Core.Path.{◌≡◌, refl, sym, ap, ◌∙◌}
use mathlib.Core.Bool.{Bool, true, false, cond, not}
use mathlib.Core.List.{List, map}
use mathlib.Core.Option.{Option, none, some}
use Prim.Native.Nat.{ℕ, ◌≤◌, ◌<◌}
use native.Mathlib.Omega.{arith}
use lib.Dec.{T as Holds, ltb, ltb→lt, nltb→le}
use lib.ListN.{length, get_or, set, length-map}
use lib.Seq.{set-get_or}
use Rattle.density.specs.declared.Site.{Site}
use Rattle.density.specs.Network.{no_site}
use Rattle.table.specs.Table.{overlay, between}
use Rattle.table.proofs.Overlay.{between_none, between_first, overlay-one, overlay-beyond, map-overlay, map-between}
use Rattle.records.specs.declared.Edition.{Edition}
use Rattle.held_state.specs.declared.Store.{Store}
use Rattle.held_state.specs.Held.{State, on}
use Rattle.store.specs.declared.Request.{Request}
use Rattle.store.specs.declared.Request.TheVariants.{Load, Change, Add, Propose, Share, Depot, Difference, Written, AtLeast, ListWritten}
use Rattle.store.specs.Calls.{Call, Reply}
use Rattle.store.specs.State.{Done, refusal, effect_of, settle, step}
use Rattle.serve.specs.declared.Places.{Places}
use Rattle.serve.specs.Stored.{one, stored_of, Among}
use Rattle.serve.specs.Stored as stored

-- they are some of the first n
among_none : (n : ℕ) → Among n stored.none
among_none n = record { ordered = omega arith; first = omega arith }

among_one : (i n : ℕ) → Among n (one i n)
among_one i n = by (ltb i n) (ltb→lt i n)
  where
    by : (b : Bool) → (Holds b → i < n) → Among n (cond b (stored.alone i) stored.none)
    by true l = record { ordered = omega arith; first = omega (arith, l tt) }
    by false l = among_none n

pub among : (q : Request) (count n : ℕ) → Among n (stored_of q count n)
among Load count n = record { ordered = omega arith; first = omega arith }
among (Change i w) count n = among_one _ n
among (Add f s w) count n = among_one _ n
among Propose count n = among_none n
among (Share i) count n = among_none n
among (Depot d) count n = among_none n
among (Difference a b) count n = among_none n
among Written count n = among_none n
among (AtLeast m) count n = among_none n
among ListWritten count n = among_none n

-- what is stored at the places
abbrev at : {X : Type 0} → Places → List X → List X → List X
at p sites table = between p.from p.to sites table

module _ {X : Type 0} (n : ℕ) (sites table : List X) (few : n ≤ length sites) (room : n ≤ length table) where
  stored-none : overlay n sites table ≡ table → at stored.none sites table ≡ overlay n sites table
  stored-none e = between_none 0 sites table (omega arith) ∙ sym e

  stored_one : (i : ℕ) (x : X) → overlay n sites table ≡ set table i x → at (one i n) sites table ≡ overlay n sites table
  stored_one i x e = by (ltb i n) (ltb→lt i n) (nltb→le i n)
    where
      by : (b : Bool) → (Holds b → i < n) → (Holds (not b) → n ≤ i) → at (cond b (stored.alone i) stored.none) sites table ≡ overlay n sites table
      by true l m = overlay-one n sites table i x (l tt) few room e
      by false l m = stored-none (overlay-beyond n sites table i x (m tt) few e)

-- A refused call leaves the table. So the step's table is the one before with one place set, or the one before, if it is so where no row refuses the call.
module _ (s : State) (c : Call) where
  one_place : (i : ℕ) (x : Site) → (effect_of s c c.request).after.table ≡ set s.table i x → (y : Site) × ((step s c).after.table ≡ set s.table i y)
  one_place i x e = by (refusal s c)
    where
      by : (o : Option ℕ) → (y : Site) × ((settle o s c (effect_of s c c.request)).after.table ≡ set s.table i y)
      by (some n) = (get_or s.table i no_site, sym (set-get_or s.table i no_site))
      by none = (x, e)

  no_place : (effect_of s c c.request).after.table ≡ s.table → (step s c).after.table ≡ s.table
  no_place e = by (refusal s c)
    where
      by : (o : Option ℕ) → (settle o s c (effect_of s c c.request)).after.table ≡ s.table
      by (some n) = refl
      by none = e

-- ---- sites as the definition has them

module _ (s : State) (sites : List Site) (n : ℕ) (input buffer : List ℕ) (few : n ≤ length sites) (room : n ≤ length s.table) where
  abbrev call_of : Request → Call
  call_of q = record { request = q; input = input; buffer = buffer }

  by_one : (i : ℕ) (l : List Site) → ((y : Site) × (l ≡ set s.table i y)) → overlay n sites s.table ≡ l → at (one i n) sites s.table ≡ overlay n sites s.table
  by_one i l (y, f) e = stored_one n sites s.table few room i y (e ∙ f)

  by-none : (l : List Site) → l ≡ s.table → overlay n sites s.table ≡ l → at stored.none sites s.table ≡ overlay n sites s.table
  by-none l f e = stored-none n sites s.table few room (e ∙ f)

  all-stored : (q : Request) → overlay n sites s.table ≡ (step s (call_of q)).after.table
      → at (stored_of q s.store.count n) sites s.table ≡ overlay n sites s.table
  all-stored Load e = between_first n sites s.table
  all-stored (Change i w) e = by_one i _ (one_place s (call_of (Change i w)) i _ refl) e
  all-stored (Add f d w) e = by_one s.store.count _ (one_place s (call_of (Add f d w)) s.store.count _ refl) e
  all-stored Propose e = by-none _ (no_place s (call_of Propose) refl) e
  all-stored (Share i) e = by-none _ (no_place s (call_of (Share i)) refl) e
  all-stored (Depot a) e = by-none _ (no_place s (call_of (Depot a)) refl) e
  all-stored (Difference a b) e = by-none _ (no_place s (call_of (Difference a b)) refl) e
  all-stored Written e = by-none _ (no_place s (call_of Written) refl) e
  all-stored (AtLeast m) e = by-none _ (no_place s (call_of (AtLeast m)) refl) e
  all-stored ListWritten e = by-none _ (no_place s (call_of ListWritten) refl) e

-- a state of an edition and a reply, as a step leaves them
abbrev done : Edition → Store → Reply → List Site → Done
done e k r table = record { after = on e k table; reply = r }

-- a step from a state of an edition
abbrev step_of : Edition → Store → Request → List ℕ → List ℕ → List Site → Done
step_of e k q input buffer table = step (on e k table) (record { request = q; input = input; buffer = buffer })

module _ (e : Edition) (k : Store) (table sites : List Site) (n : ℕ) (input buffer : List ℕ) (few : n ≤ length sites) (room : n ≤ length table)
    (q : Request) (k' : Store) (r : Reply) where
  pub stored-steps : done e k' r (overlay n sites table) ≡ step_of e k q input buffer table → done e k' r (at (stored_of q k.count n) sites table) ≡ step_of e k q input buffer table
  stored-steps h = ap (done e k' r) (all-stored (on e k table) sites n input buffer few room q (ap (λ (x : Done). x.after.table) h)) ∙ h

-- ---- sites of any type, seen as the definition has them

module _ {X : Type 0} (f : X → Site) (e : Edition) (k : Store) (table sites : List X) (n : ℕ) (input buffer : List ℕ) (few : n ≤ length sites) (room : n ≤ length table)
    (q : Request) (k' : Store) (r : Reply) where
  pub seen-steps : done e k' r (map f (overlay n sites table)) ≡ step_of e k q input buffer (map f table)
      → done e k' r (map f (at (stored_of q k.count n) sites table)) ≡ step_of e k q input buffer (map f table)
  seen-steps h =
      let p = stored_of q k.count n in
      ap (done e k' r) (map-between f p.from p.to sites table)
      ∙ stored-steps e k (map f table) (map f sites) n input buffer (omega (arith, few, length-map sites f)) (omega (arith, room, length-map table f)) q k' r
      (ap (done e k' r) (sym (map-overlay f n sites table)) ∙ h)
