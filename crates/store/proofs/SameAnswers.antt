-- A question for a figure is answered by the list and the plan held alone, at any state that is not corrupt: neither by its edition nor by its table, nor by what stands behind the plan; so through
-- the step to edition 2 it gets the figure that it would have got before. Assumes nothing.
use mathlib.Core.Path.{◌≡◌, refl, sym, ap, ap₂, ◌∙◌}
use mathlib.Core.Logic.{inl, inr}
use mathlib.Core.Bool.{Bool, true, false, cond}
use mathlib.Core.List.{List}
use mathlib.Core.Option.{Option, none, some}
use Prim.Native.Nat.{ℕ, ◌<◌, ◌*◌}
use native.Mathlib.Omega.{arith}
use borrow.Author.Tests.{leb-false}
use lib.Dec.{leb}
use lib.ListN.{length, get_or}
use lib.Seq.{get_or-take}
use Rattle.sets.specs.Set.{set_of}
use Rattle.density.specs.declared.Site.{Site}
use Rattle.density.specs.Network.{Listing, network}
use Rattle.density.specs.Plan.{place, group_litres, group_size, whole}
use Rattle.density.specs.Rows.{first_row}
use Rattle.density.specs.Figures.{difference_of, depots_read}
use Rattle.records.specs.declared.Edition.{Edition}
use Rattle.records.specs.Values.{Plan}
use Rattle.held_state.specs.Held.{State, list_of, plan_held, corrupt}
use Rattle.held_state.proofs.Intact.{sized, intact→}
use Rattle.store.specs.declared.Request.{Request}
use Rattle.store.specs.declared.Request.TheVariants.{Load, Change, Add, Propose, Share, Depot, Difference, Written, AtLeast, ListWritten}
use Rattle.store.specs.Calls.{Call, migrate, Reply, Told, same, refused, done, shared, loaded, differ, reached}
use Rattle.store.specs.Model.{Model, held, rows_of}
use Rattle.store.specs.State.{model_of, effect_of, settle, step}
use Rattle.store.specs.Trace.{Goes, Figure, Migrates}
use Rattle.store.proofs.Steps.{row-zero-off}
use Rattle.store.proofs.Migrate.{migration-or-row-2, still-sound}

-- ---- the answer by the list and the plan

module _ (l : Listing) where
  -- W and q of a depot's group
  abbrev litres_by : Plan → ℕ → ℕ
  litres_by p d = group_litres (network l) p.groups (place p.groups d)

  abbrev size_by : Plan → ℕ → ℕ
  size_by p d = group_size (network l) p.groups (place p.groups d)

  abbrev tell_by : Plan → Request → Told
  tell_by p Load = done
  tell_by p (Change i w) = done
  tell_by p (Add f d w) = done
  tell_by p Propose = done
  tell_by p (Share i) = shared (get_or p.shares i 0) (whole (network l) p.groups i)
  tell_by p (Depot d) = loaded (litres_by p d) (size_by p d)
  tell_by p (Difference a d) = differ (difference_of (litres_by p a) (size_by p a) (litres_by p d) (size_by p d)) (size_by p a * size_by p d)
  tell_by p Written = done
  tell_by p (AtLeast m) = reached (set_of (depots_read (network l) p.groups m) 64)
  tell_by p ListWritten = done

  -- refused by a row, or told
  abbrev ruled : Call → Option ℕ → Told → Reply
  ruled c (some n) a = same c (refused n)
  ruled c none a = same c a

  -- a model with this list and a plan or none; a question for a figure looks at nothing else of it
  abbrev at : Edition → ℕ → Option Plan → Model
  at e n o = record { edition = e; places = n; list = l; plan = o }

  same_rows : (c : Call) (o : Option Plan) (q : Request) → Figure q → (e e' : Edition) (n n' : ℕ) → first_row (rows_of (at e n o) c q) ≡ first_row (rows_of (at e' n' o) c q)
  same_rows c o Load f e e' n n' = absurd f
  same_rows c o (Change i w) f e e' n n' = absurd f
  same_rows c o (Add i j w) f e e' n n' = absurd f
  same_rows c o Propose f e e' n n' = absurd f
  same_rows c o (Share i) f e e' n n' = refl
  same_rows c o (Depot d) f e e' n n' = refl
  same_rows c o (Difference x y) f e e' n n' = refl
  same_rows c o Written f e e' n n' = absurd f
  same_rows c o (AtLeast m) f e e' n n' = refl
  same_rows c o ListWritten f e e' n n' = absurd f

module _ (s : State) (sound : corrupt s ≡ false) (c : Call) where
  abbrev l : Listing
  l = list_of s

  abbrev b : Option Plan → Model
  b o = at l s.edition (length s.table) o

  -- what the store does for a question, where a plan is held or not
  abbrev stored : Option ℕ → Request → Reply
  stored o q = (settle o s c (effect_of s c q)).reply

  -- without a plan row 17 refuses
  without : (q : Request) → Figure q → stored (first_row (rows_of (b none) c q)) q ≡ ruled l c (first_row (rows_of (b none) c q)) (tell_by l (held none) q)
  unfolding first_row
  without Load f = absurd f
  without (Change i w) f = absurd f
  without (Add i j w) f = absurd f
  without Propose f = absurd f
  without (Share i) f = refl
  without (Depot d) f = refl
  without (Difference x y) f = refl
  without Written f = absurd f
  without (AtLeast m) f = refl
  without ListWritten f = absurd f

  -- with one the figures are those of the plan held
  ruled-by : (o : Option ℕ) (q : Request) (a : Told) → (effect_of s c q).reply ≡ same c a → stored o q ≡ ruled l c o a
  ruled-by none q a e = e
  ruled-by (some n) q a e = refl

  share-by : (i : ℕ) (x : Bool) → leb (length l.sites) i ≡ x
      → stored (cond x (some 18) none) (Share i) ≡ ruled l c (cond x (some 18) none) (tell_by l (plan_held s) (Share i))
  share-by i true e = refl
  share-by i false e =
      let below : i < s.store.count = omega (arith, leb-false (length l.sites) i e, sized s (intact→ s sound).room) in
      ap (λ (x : ℕ). same c (shared x (whole (network l) (plan_held s).groups i))) (sym (get_or-take s.store.count s.store.shares i 0 below))

  with : (q : Request) → Figure q → stored (first_row (rows_of (b (some (plan_held s))) c q)) q ≡ ruled l c (first_row (rows_of (b (some (plan_held s))) c q)) (tell_by l (plan_held s) q)
  unfolding first_row
  with Load f = absurd f
  with (Change i w) f = absurd f
  with (Add i j w) f = absurd f
  with Propose f = absurd f
  with (Share i) f = share-by i (leb (length l.sites) i) refl
  with (Depot d) f = ruled-by (first_row (rows_of (b (some (plan_held s))) c (Depot d))) (Depot d) (tell_by l (plan_held s) (Depot d)) refl
  with (Difference x y) f = ruled-by (first_row (rows_of (b (some (plan_held s))) c (Difference x y))) (Difference x y) (tell_by l (plan_held s) (Difference x y)) refl
  with Written f = absurd f
  with (AtLeast m) f = ruled-by (first_row (rows_of (b (some (plan_held s))) c (AtLeast m))) (AtLeast m) (tell_by l (plan_held s) (AtLeast m)) refl
  with ListWritten f = absurd f

  told-by : (q : Request) → Figure q → (x : Bool) → let o : Option Plan = cond x (some (plan_held s)) none in
      stored (first_row (rows_of (b o) c q)) q ≡ ruled l c (first_row (rows_of (b o) c q)) (tell_by l (held o) q)
  told-by q f true = with q f
  told-by q f false = without q f

  figure-answer : Figure c.request → (step s c).reply ≡ ruled l c (first_row (rows_of (model_of s) c c.request)) (tell_by l (held (model_of s).plan) c.request)
  figure-answer f = ap (λ (o : Option ℕ). (settle o s c (effect_of s c c.request)).reply) (row-zero-off s c sound) ∙ told-by c.request f s.store.held

-- two states with one list and one plan, or none, answer alike
pub figures-same : (s s' : State) → corrupt s ≡ false → corrupt s' ≡ false → (model_of s').list ≡ (model_of s).list → (model_of s').plan ≡ (model_of s).plan
    → (c : Call) → Figure c.request → (step s' c).reply ≡ (step s c).reply
figures-same s s' sound sound' list plan c f =
    let q = c.request in
    figure-answer s' sound' c f
    ∙ ap₂ (λ (l : Listing) (o : Option Plan). ruled l c (first_row (rows_of (at l s'.edition (length s'.table) o) c q)) (tell_by l (held o) q)) list plan
    ∙ ap (λ (o : Option ℕ). ruled (list_of s) c o (tell_by (list_of s) (held (model_of s).plan) q))
    (same_rows (list_of s) c (model_of s).plan q f s'.edition s.edition (length s'.table) (length s.table))
    ∙ sym (figure-answer s sound c f)

-- "each question gets the figure it would have got before": through the step, done or refused
pub same-through : (s : State) → corrupt s ≡ false → (s.store.held ≡ true → length (plan_held s).shares ≡ s.store.count) → (s.edition.roll ≡ false → (list_of s).roll ≡ none)
    → (new : List Site) (r : Reply) (s' : State) → Goes s (migrate new) r s' → (c : Call) → Figure c.request → (step s' c).reply ≡ (step s c).reply
same-through s sound each rolls new r s' x c f = by (migration-or-row-2 s sound each rolls new r s' x)
  where
    by : Migrates s new r s' → (step s' c).reply ≡ (step s c).reply
    by (inl (few, reply, stays)) = ap (λ (z : State). (step z c).reply) stays
    by (inr (few, reply, m)) = figures-same s s' sound (still-sound s sound each rolls new r s' x) m.sites m.plan c f
