-- The step of a state by its row: what is refused and what is granted; a list that is loaded; a list and a plan of the other edition. Assumes nothing.
use mathlib.Core.Path.{◌≡◌, refl, sym, ap, ◌∙◌}
use mathlib.Core.Bool.{true, false, and-false, or-true}
use mathlib.Core.List.{◌++◌}
use mathlib.Core.Option.{Option, none, some}
use Prim.Native.Nat.{ℕ, ◌≤◌}
use native.Mathlib.Omega.{arith}
use lib.Dec.{ltb}
use lib.ListN.{length, drop}
use Rattle.density.specs.Network.{Listing}
use Rattle.density.specs.Rows.{first_row}
use Rattle.records.specs.Record.{wrong_mark}
use Rattle.records.specs.Outcome.{refused, passed, settle as outcome}
use Rattle.records.specs.Values.{roll_array}
use Rattle.records.specs.Format.{listing_of, list_rows, read_list}
use Rattle.records.proofs.RoundTrip.{list-few}
use Rattle.held_state.specs.Held.{State, corrupt}
use Rattle.store.specs.declared.Request.{Request}
use Rattle.store.specs.declared.Request.TheVariants.{Load, Propose}
use Rattle.store.specs.Calls.{Call, Reply, same, done}
use Rattle.store.specs.State.{Done, model_of, tries_zero, row_for, refusal, bare, next, effect_of, settle, step, RefusedBy}
use Rattle.store.specs.Trace.{Steps}
use Rattle.store.proofs.Plans.{settle-refused, settle-passed}

module _ (s : State) (c : Call) where
  pub refused-step : (n : ℕ) → refusal s c ≡ some n → RefusedBy s c n
  refused-step n h = ap (λ (o : Option ℕ). settle o s c (effect_of s c c.request)) h

  pub granted-step : refusal s c ≡ none → step s c ≡ effect_of s c c.request
  granted-step h = ap (λ (o : Option ℕ). settle o s c (effect_of s c c.request)) h

  -- the effect of a request
  pub granted-to : (q : Request) → c.request ≡ q → refusal s c ≡ none → step s c ≡ effect_of s c q
  granted-to q k h = granted-step h ∙ ap (effect_of s c) k

  -- row 0, and the row for a request where it does not apply
  pub zero-step : tries_zero c.request ≡ true → corrupt s ≡ true → RefusedBy s c 0
  zero-step t h = refused-step 0 (rw (t, h))

  pub row_is_lem : corrupt s ≡ false → (q : Request) → c.request ≡ q → refusal s c ≡ row_for (model_of s) c q
  row_is_lem z q k = rw (z, and-false (tries_zero c.request), k)

  -- ---- a list that is loaded

  load_row : c.request ≡ Load → refusal s c ≡ first_row (list_rows s.edition (length s.table) c.input)
  load_row k = rw k

  pub load-refused : (n : ℕ) → c.request ≡ Load → read_list s.edition (length s.table) c.input ≡ refused n → RefusedBy s c n
  unfolding read_list
  load-refused n k h =
      refused-step n
      (load_row k ∙ settle-refused (first_row (list_rows s.edition (length s.table) c.input)) (listing_of s.edition c.input) h)

  pub load_read : (l : Listing) → c.request ≡ Load → read_list s.edition (length s.table) c.input ≡ passed l
      → (step s c ≡ next s (bare (length l.sites) (roll_array l.roll)) (l.sites ++ drop (length l.sites) s.table) (same c done))
      × (length l.sites ≤ 512)
      × (length l.sites ≤ length s.table)
  unfolding read_list
  load_read l k h =
      let p = settle-passed (first_row (list_rows s.edition (length s.table) c.input)) (listing_of s.edition c.input) h in
      let few = list-few s.edition (length s.table) c.input h in (
        granted-to Load k (load_row k ∙ p.0)
            ∙ ap (λ (l : Listing). next s (bare (length l.sites) (roll_array l.roll)) (l.sites ++ drop (length l.sites) s.table) (same c done)) p.1,
        few.0,
        few.1,
      )

  -- a load that is answered by success has read its list
  pub load-done : (r : Reply) (s' : State) → c.request ≡ Load → Steps s c r s' → r.answer ≡ done
      → read_list s.edition (length s.table) c.input ≡ passed (listing_of s.edition c.input)
  unfolding read_list
  load-done r s' k x a =
      let rows = list_rows s.edition (length s.table) c.input in
      let e : r.answer ≡ (settle (first_row rows) s c (effect_of s c c.request)).reply.answer =
      ap (λ (d : Done). d.reply.answer) x ∙ ap (λ (o : Option ℕ). (settle o s c (effect_of s c c.request)).reply.answer) (load_row k) in
      ap (λ (o : Option ℕ). outcome o (listing_of s.edition c.input)) (not-refused (first_row rows) (sym e ∙ a))
    where
      not-refused : (o : Option ℕ) → (settle o s c (effect_of s c c.request)).reply.answer ≡ done → o ≡ none
      not-refused none e = refl
      not-refused (some n) e = absurd (let z : ◌≡◌ {A = ℕ} 0 1 = cc in omega arith)

-- ---- document 02, c: "A desk takes lists and plans of its own edition only; row 1 or row 7 refuses the other"

pub other-list : (s : State) (c : Call) → c.request ≡ Load → wrong_mark s.edition.mark.list c.input ≡ true → refusal s c ≡ some 1
unfolding first_row
other-list s c k w = rw (k, w, or-true (ltb (length c.input) 4)) refl

pub other-plan : (s : State) (c : Call) → c.request ≡ Propose → corrupt s ≡ false → wrong_mark s.edition.mark.plan c.input ≡ true → refusal s c ≡ some 7
unfolding first_row
other-plan s c k h w = rw (k, h, w, or-true (ltb (length c.input) 5)) refl
