-- The step of a state by what is decided of a proposal, a change, an added site and the step to edition 2. Assumes nothing.
use mathlib.Core.Path.{◌≡◌, refl, sym, ap, ap₂, ◌∙◌}
use mathlib.Core.Logic.{◌⊎◌, inl, inr, ⊎_elim}
use mathlib.Core.Bool.{false}
use mathlib.Core.List.{List}
use mathlib.Core.Option.{Option, none, some}
use Prim.Native.Nat.{ℕ, ◌+◌, ◌≤◌, ◌<◌}
use native.Mathlib.Nat.{lt_of_not-le}
use native.Mathlib.Omega.{arith}
use borrow.Author.Tests.{ltb-false}
use lib.Dec.{leb, le→leb}
use lib.ListN.{length, get_or, set, length-map}
use lib.Seq.{get_or-take}
use Rattle.sets.proofs.Test.{fails}
use Rattle.density.specs.declared.Site.{Site}
use Rattle.density.specs.Network.{network, no_site, site_at}
use Rattle.density.specs.Rows.{Row, first_row, plan_rows}
use Rattle.records.specs.Values.{Plan}
use Rattle.records.specs.Format.{group_count, layout_rows, plan_of, read_plan}
use Rattle.records.specs.Outcome.{Outcome, refused, passed, settle as settled, gate, bind}
use Rattle.records.proofs.RoundTrip.{plan-read}
use Rattle.records.proofs.Records.{length-records}
use Rattle.records.proofs.Outcomes.{Clear, clear, or-false}
use Rattle.judge.specs.Check.{judged_for}
use Rattle.held_state.specs.Held.{State, list_of, corrupt}
use Rattle.held_state.proofs.Intact.{intact→, sized}
use Rattle.store.specs.declared.Request.TheVariants.{Change, Add, Propose}
use Rattle.store.specs.Calls.{Call, migrate, same, unbuffered, refused as row, done}
use Rattle.store.specs.Model.{rows_of, with_litres, site_from, migrate_rows}
use Rattle.store.specs.State.{model_of, plan_row, first_of, bare, holding, next, stays, step, migrated, migrate_step, step_on, RefusedBy}
use Rattle.store.proofs.Migrate.{migrate-sound}
use Rattle.store.proofs.Plans.{settle-refused, settle-passed}
use Rattle.store.proofs.Settled.{refused-step, granted-to, row_is_lem}

below : (m n : ℕ) → leb m n ≡ false → n < m
below m n h = lt_of_not-le (λ l. fails (leb m n) h (le→leb m n l))

-- no row applies
none-clear : (rows : List Row) → first_row rows ≡ none → Clear rows
none-clear rows h = (clear {A = ℕ} rows {a = 0} {b = 0} (ap (λ (o : Option ℕ). settled o 0) h)).0

-- what is read, and then judged
bind-refused : (o : Outcome Plan) (f : Plan → Outcome Plan) (n : ℕ) → bind o f ≡ refused n
    → (o ≡ refused n) ⊎ ((p : Plan) × (o ≡ passed p) × (f p ≡ refused n))
bind-refused (refused m) f n h = inl h
bind-refused (passed p) f n h = inr (p, refl, h)

bind-passed : (o : Outcome Plan) (f : Plan → Outcome Plan) (q : Plan) → bind o f ≡ passed q → (p : Plan) × (o ≡ passed p) × (f p ≡ passed q)
bind-passed (refused m) f q h = absurd (let z : ◌≡◌ {A = ℕ} 0 1 = cc in omega arith)
bind-passed (passed p) f q h = (p, refl, h)

-- the number of sites held, and a held site
pub held-count : (s : State) → corrupt s ≡ false → (s.store.count ≤ 512) × (s.store.count ≤ length s.table) × (length (list_of s).sites ≡ s.store.count)
held-count s z = let i = intact→ s z in (i.few, i.room, sized s i.room)

pub held-site : (s : State) (i : ℕ) → i < s.store.count → site_at (list_of s) i ≡ get_or s.table i no_site
held-site s i l = get_or-take s.store.count s.table i no_site l

module _ (s : State) (c : Call) where
  -- ---- calls at a state that is not corrupt

  module _ (z : corrupt s ≡ false) where
    abbrev count : ℕ
    count = s.store.count

    size : length (list_of s).sites ≡ count
    size = (held-count s z).2

    abbrev judge : Plan → Outcome Plan
    judge p = gate (plan_rows (network (list_of s)) p.groups p.shares) p

    abbrev layout : Option ℕ
    layout = first_row (layout_rows s.edition (length (list_of s).sites) c.input)

    abbrev laid : Plan
    laid = plan_of s.edition (length (list_of s).sites) c.input

    -- a plan that is read is the one laid out
    laid_out : (p : Plan) → read_plan s.edition (length (list_of s).sites) c.input ≡ passed p → (layout ≡ none) × (laid ≡ p)
    unfolding read_plan
    laid_out p h = settle-passed layout laid h

    pub proposal-refused : (n : ℕ) → c.request ≡ Propose → judged_for s.edition (list_of s) c.input ≡ refused n → RefusedBy s c n
    unfolding read_plan
    proposal-refused n q h =
        refused-step s c n
        (row_is_lem s c z Propose q
        ∙ ⊎_elim
        (λ u. ap (λ (o : Option ℕ). first_of o (plan_row (model_of s) laid)) (settle-refused layout laid u))
        (λ u.
        let k = laid_out u.0 u.1 in
        ap₂ (λ (o : Option ℕ) (p : Plan). first_of o (plan_row (model_of s) p)) k.0 k.1
        ∙ settle-refused (plan_row (model_of s) u.0) u.0 u.2)
        (bind-refused (read_plan s.edition (length (list_of s).sites) c.input) judge n h))

    pub proposal-passed : (p : Plan) → c.request ≡ Propose → judged_for s.edition (list_of s) c.input ≡ passed p
        → (step s c ≡ next s (holding s.store p) s.table (same c done)) × (length p.groups ≤ 64) × (length p.shares ≡ s.store.count)
    proposal-passed p q h =
        let u = bind-passed (read_plan s.edition (length (list_of s).sites) c.input) judge p h in
        let k = laid_out u.0 u.1 in
        let j = settle-passed (plan_row (model_of s) u.0) u.0 u.2 in
        let is : laid ≡ p = k.1 ∙ j.1 in
        let r = plan-read s.edition (length (list_of s).sites) c.input u.1 in
        let groups : length p.groups ≡ group_count c.input = ap (λ (x : Plan). length x.groups) (sym is) ∙ rw (length-map, length-records) in
        let shares : length p.shares ≡ length (list_of s).sites = ap (λ (x : Plan). length x.shares) (sym is) ∙ rw (length-map, length-records) in (
          granted-to s c Propose q (row_is_lem s c z Propose q ∙ ap₂ (λ (o : Option ℕ) (p : Plan). first_of o (plan_row (model_of s) p)) k.0 k.1 ∙ j.0)
              ∙ ap (λ (x : Plan). next s (holding s.store x) s.table (same c done))
              (ap (λ (n : ℕ). plan_of s.edition n c.input) (sym size) ∙ is),
          omega (arith, groups, r.few),
          shares ∙ size,
        )

    pub change-refused : (i w n : ℕ) → c.request ≡ Change i w → first_row (rows_of (model_of s) c (Change i w)) ≡ some n → RefusedBy s c n
    change-refused i w n q h = refused-step s c n (row_is_lem s c z (Change i w) q ∙ h)

    pub change-passed : (i w : ℕ) → c.request ≡ Change i w → first_row (rows_of (model_of s) c (Change i w)) ≡ none
        → (step s c ≡ next s (bare s.store.count s.store.roll) (set s.table i (with_litres (site_at (list_of s) i) w)) (same c done)) × (i < s.store.count)
    change-passed i w q h =
        let o = h in
        let k = none-clear (rows_of (model_of s) c (Change i w)) o in
        let l = below (length (list_of s).sites) i k.1.0 in
        (granted-to s c (Change i w) q (row_is_lem s c z (Change i w) q ∙ o), omega (arith, size))

    pub add-refused : (f d w n : ℕ) → c.request ≡ Add f d w → first_row (rows_of (model_of s) c (Add f d w)) ≡ some n → RefusedBy s c n
    add-refused f d w n q h = refused-step s c n (row_is_lem s c z (Add f d w) q ∙ h)

    pub add-passed : (f d w : ℕ) → c.request ≡ Add f d w → first_row (rows_of (model_of s) c (Add f d w)) ≡ none
        → (step s c ≡ next s (bare (s.store.count + 1) s.store.roll) (set s.table s.store.count (site_from f d w)) (same c done))
        × (s.store.count < 512)
        × (s.store.count < length s.table)
    add-passed f d w q h =
        let o = h in
        let k = none-clear (rows_of (model_of s) c (Add f d w)) o in
        let m = or-false (leb 512 (length (list_of s).sites)) (leb (length s.table) (length (list_of s).sites)) k.0 in
        let few = below 512 (length (list_of s).sites) m.0 in
        let room = below (length s.table) (length (list_of s).sites) m.1 in
        (granted-to s c (Add f d w) q (row_is_lem s c z (Add f d w) q ∙ o), omega (arith, size), omega (arith, size))

-- ---- document 02, e: the step to edition 2

module _ (s : State) (table : List Site) where
  abbrev rows : List Row
  rows = migrate_rows (model_of s) (length table)

  module _ (z : corrupt s ≡ false) where
    pub migrate-refused : (n : ℕ) → first_row rows ≡ some n → step_on s (migrate table) ≡ stays s (unbuffered (row n))
    migrate-refused n h = ap (λ (o : Option ℕ). migrate_step o s table) (migrate-sound s table z ∙ h)

    pub migrate-passed : first_row rows ≡ none
        → (step_on s (migrate table) ≡ record { after = migrated s table; reply = unbuffered done }) × (s.store.count ≤ length table)
    migrate-passed h =
        let o = h in
        let few = ltb-false (length table) (length (list_of s).sites) (none-clear rows o).0 in
        (ap (λ (o : Option ℕ). migrate_step o s table) (migrate-sound s table z ∙ o), omega (arith, (held-count s z).2))
