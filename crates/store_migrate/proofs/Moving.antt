-- The step to edition 2 on values is the step at every table that they stand for: what carries over, what is refused and what is done, and the same of edition 1's structs.
-- Assumes nothing.
use mathlib.Core.Path.{◌≡◌, refl, sym, ap, ap₂, ◌∙◌, subst}
use mathlib.Core.Bool.{true, false}
use mathlib.Core.List.{List, ◌++◌, map}
use mathlib.Core.Option.{Option, none, some}
use Prim.Native.Nat.{ℕ, ◌≤◌, zero-le}
use native.Mathlib.Omega.{arith}
use lib.ListN.{length, take, drop, replicate, length-map, length-replicate}
use lib.Seq.{length-take-le}
use Rattle.std.specs.declared.result.Result.TheVariants.{Ok, Err}
use Rattle.sets.proofs.Test.{passes}
use Rattle.density.specs.declared.Site.{Site}
use Rattle.density.specs.Network.{no_site}
use Rattle.density.specs.Rows.{first_row}
use Rattle.records.specs.declared.Edition.{Edition}
use Rattle.records.specs.declared.RollArray.{RollArray}
use Rattle.records.specs.declared.refusal.Refusal.{Refusal}
use Rattle.records.specs.declared.refusal.Refusal.TheVariants.{CorruptStore}
use Rattle.records.specs.Refusals.{number}
use Rattle.records.specs.Values.{roll_array}
use Rattle.records.specs.Format.{edition1}
use Rattle.records.specs.Answer.{filled}
use Rattle.records.proofs.Records.{filled-front}
use Rattle.table.specs.declared.Site1.{Site1}
use Rattle.table.specs.Table.{overlay, between, held_of}
use Rattle.table.specs.Widths.{no_site1, widened}
use Rattle.table.proofs.Overlay.{overlay-none, between_first, held-stands, map-take}
use Rattle.held_state.specs.declared.Store.{Store}
use Rattle.held_state.specs.Held.{State, on, list_of, plan_held, corrupt}
use Rattle.held_state.proofs.Intact.{intact→}
use Rattle.store.specs.declared.Decision.{Decision}
use Rattle.store.specs.declared.Answer.TheVariants as of
use Rattle.store.specs.Model.{Model, migrate_rows}
use Rattle.store.specs.Calls.{migrate, unbuffered, refused, done}
use Rattle.store.specs.State.{Done, model_of, stays, carried, migrated, step_on}
use Rattle.store.proofs.Migrate.{migrate-zero}
use Rattle.store_calls.proofs.Steps.{held-count, migrate-refused, migrate-passed}
use Rattle.serve.proofs.FirstPlaces.{same-front, a-table}
use Rattle.serve.proofs.ServeRules.{AtTable, Zero, few, room as places-enough}
use Rattle.edition1.specs.declared.Store1.{Store1}
use Rattle.edition1.specs.Edition1.{store_of1, view1}
use Rattle.store_migrate.specs.Migrate.{MovedOver, Decided}

-- ---- what carries over, without a roll

pub carries-none : (s : Store) {roll : RollArray} → roll ≡ roll_array none → s.held ≡ false → (e : Edition) (table : List Site)
    → record { count = s.count; held = false; grouped = 0; groups = replicate 64 0; shares = replicate 512 0; roll = roll } ≡ carried (on e s table)
carries-none s r h e table = rw (r, h) refl

-- places filled from the front
overlaid : (n k : ℕ) (xs : List ℕ) {ys : List ℕ} → ys ≡ overlay n xs (replicate k 0) → n ≤ length xs → ys ≡ filled k (take n xs) 0
unfolding overlay
overlaid n k xs e h = e ∙ filled-front n k {ys = take n xs} {zs = take n xs} refl (length-take-le n xs h)

pub carries-plan : (s : Store) {roll : RollArray} {gs ss : List ℕ} → roll ≡ roll_array none → s.held ≡ true → s.count ≤ 512 → s.grouped ≤ 64
    → (gs ≡ overlay s.grouped s.groups (replicate 64 0)) × (length s.groups ≡ 64)
    → (ss ≡ overlay s.count s.shares (replicate 512 0)) × (length s.shares ≡ 512)
    → (e : Edition) (table : List Site) → record { count = s.count; held = true; grouped = s.grouped; groups = gs; shares = ss; roll = roll } ≡ carried (on e s table)
carries-plan s {roll} {gs} {ss} r t some-sites small (g, many) (x, each) e table =
    let p = plan_held (on e s table) in
    let n : s.grouped ≡ length p.groups = sym (length-take-le s.grouped s.groups (omega (arith, small, many))) in
    let a : gs ≡ filled 64 p.groups 0 = overlaid s.grouped 64 s.groups g (omega (arith, small, many)) in
    let b : ss ≡ filled 512 p.shares 0 = overlaid s.count 512 s.shares x (omega (arith, some-sites, each)) in
    ap (λ (o : RollArray). record { count = s.count; held = true; grouped = s.grouped; groups = gs; shares = ss; roll = o }) r
    ∙ ap₂ (λ (k : ℕ) (q : List ℕ × List ℕ). record { count = s.count; held = true; grouped = k; groups = q.0; shares = q.1; roll = roll_array none }) n
    (ap₂ (λ (x y : List ℕ). (x, y)) a b)
    ∙ sym (rw t refl)

-- ---- what the step leaves

module _ (s : State) (new : List Site) where
  moved-refused : (x : Refusal) → step_on s (migrate new) ≡ stays s (unbuffered (refused (number x))) → MovedOver s new (Err x) s.store new
  moved-refused x h =
      record { answered = ap (λ (d : Done). d.reply.answer) (sym h); stored = ap (λ (d : Done). d.after.store) (sym h); table = refl }

  moved-done : step_on s (migrate new) ≡ record { after = migrated s new; reply = unbuffered done } → MovedOver s new (Ok of.Done) (carried s) ((list_of s).sites ++ drop s.store.count new)
  moved-done h =
      record {
        answered = ap (λ (d : Done). d.reply.answer) (sym h);
        stored = ap (λ (d : Done). d.after.store) (sym h);
        table = ap (λ (d : Done). d.after.table) (sym h);
      }

-- ---- the decision on values

-- the decision is the step from every table that the values stand for to every table of so many places
pub record Moves (store : Store) (sites : List Site) (places room : ℕ) (r : Decision) : Type 0 where
  pub steps : (new : List Site) → room ≡ length new → AtTable store sites places edition1 (λ s. MovedOver s new r.answer r.store (overlay r.n r.sites new))
  pub few : r.n ≤ 512
  pub fits : r.n ≤ room

module _ (store : Store) (sites : List Site) (places room : ℕ) where
  -- what row 2 finds
  abbrev pub MigrateRow : Option ℕ → Type 0
  MigrateRow v = (b : Model) → length b.list.sites ≡ store.count → v ≡ first_row (migrate_rows b room)

  abbrev Goes : Decision → Type 0
  Goes r = Moves store sites places room r

  refuses : (x : Refusal) → ((new : List Site) → room ≡ length new → AtTable store sites places edition1 (λ s. step_on s (migrate new) ≡ stays s (unbuffered (refused (number x)))))
      → (r : Decision) → r ≡ record { answer = Err x; store = store; sites = sites; n = 0 } → Goes r
  refuses x f r q =
      subst Goes (sym q)
      (record {
        steps = λ new l table k h.
            let s = on edition1 store table in
            subst (MovedOver s new (Err x) store) (sym (overlay-none sites new)) (moved-refused s new x (f new l table k h));
        few = zero-le;
        fits = zero-le;
      })

  pub moves-zero : Zero store sites places true → (r : Decision) → r ≡ record { answer = Err CorruptStore; store = store; sites = sites; n = 0 } → Goes r
  moves-zero z = refuses CorruptStore (λ new l table k h. migrate-zero (on edition1 store table) new (sym (z edition1 table k h)))

  module _ (wide : length sites ≡ 512) (zero : Zero store sites places false) where
    row_is_lem : (v : Option ℕ) → MigrateRow v → (new : List Site) → room ≡ length new
        → AtTable store sites places edition1 (λ s. (corrupt s ≡ false) × (first_row (migrate_rows (model_of s) (length new)) ≡ v))
    row_is_lem v m new l table k h =
        let s = on edition1 store table in
        let z = sym (zero edition1 table k h) in
        (z, ap (λ (x : ℕ). first_row (migrate_rows (model_of s) x)) (sym l) ∙ sym (m (model_of s) (held-count s z).2))

    pub moves-refused : (x : Refusal) → MigrateRow (some (number x)) → (r : Decision) → r ≡ record { answer = Err x; store = store; sites = sites; n = 0 } → Goes r
    moves-refused x m =
        refuses x (λ new l table k h.
        let (z, v) = row_is_lem (some (number x)) m new l table k h in
        migrate-refused (on edition1 store table) new z (number x) v)

    -- what is asked to carry the store over
    pub carry-asks : (store.count ≤ 512) × (store.held ≡ true → store.grouped ≤ 64)
    carry-asks =
        let (table, k, h) = a-table sites places wide in
        (few store sites places wide zero, λ t. (intact→ (on edition1 store table) (sym (zero edition1 table k h))).groups (passes store.held t))

    enough : MigrateRow none → store.count ≤ room
    enough m =
        let (table, k, h) = a-table sites places wide in
        let new = replicate room no_site in
        let (z, v) = row_is_lem none m new (sym (length-replicate room no_site)) table k h in
        subst (λ (x : ℕ). store.count ≤ x) (length-replicate room no_site) (migrate-passed (on edition1 store table) new z v).1

    pub moves-done : MigrateRow none → {next : Store} → ((e : Edition) (table : List Site) → next ≡ carried (on e store table))
        → Goes (record { answer = Ok of.Done; store = next; sites = sites; n = store.count })
    unfolding overlay
    moves-done m {next} c =
        record {
          steps = λ new l table k h.
              let s = on edition1 store table in
              let (z, v) = row_is_lem none m new l table k h in
              let front = same-front sites table places h store.count (few store sites places wide zero) (places-enough store sites places wide zero) in
              subst (λ (x : Store). MovedOver s new (Ok of.Done) x (take store.count sites ++ drop store.count new)) (sym (c edition1 table))
              (subst (λ (xs : List Site). MovedOver s new (Ok of.Done) (carried s) (xs ++ drop store.count new)) (sym front)
              (moved-done s new (migrate-passed s new z v).0));
          few = few store sites places wide zero;
          fits = enough m;
        }

-- ---- edition 1's structs

-- the decision on what they are widened to
pub decides : (store : Store1) (sites : List Site1) (places room : ℕ) {w : Store} {a : List Site} {d : Decision} → w ≡ store_of1 store → a ≡ map widened sites
    → Moves w a places room d → Decided store sites places room d
decides store sites places room {w} {a} {d} e f t =
    let u : Moves (store_of1 store) (map widened sites) places room d = rw (e, f) at t in
    record {
      steps = λ table new k h l.
          u.steps new l (map widened table) (k ∙ sym (length-map table widened)) (sym (map-take widened places sites) ∙ ap (map widened) h ∙ map-take widened 512 table);
      few = u.few;
      fits = u.fits;
    }

-- the decision on the old table's first places, stored to the new table
pub moves-over : (store : Store1) (table sites : List Site1) (new last : List Site) (d : Decision) → Decided store sites (length table) (length new) d
    → sites ≡ held_of no_site1 table → last ≡ between 0 d.n d.sites new → MovedOver (view1 store table) new d.answer d.store last
moves-over store table sites new last d t h e =
    subst (MovedOver (view1 store table) new d.answer d.store) (sym (e ∙ between_first d.n d.sites new))
    (t.steps table new refl (ap (take (length table)) h ∙ held-stands no_site1 table) refl)
