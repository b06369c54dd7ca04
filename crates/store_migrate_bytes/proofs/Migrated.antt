-- Document 02, e: the step to edition 2 over lent bytes, from what its parts say: what is read of the old ones is what the new ones get, and it reads back. Assumes nothing.
use Prim.Native.Nat.{ℕ, zero, suc, ◌+◌, ◌-◌, ◌<◌, ◌≤◌, ◌^◌}
use mathlib.Core.Bool.{Bool, true, false, cond, not, ◌&&◌}
use mathlib.Core.List.{List, ◌++◌}
use mathlib.Core.Option.{Option, none, some}
use mathlib.Core.Logic.{⊎_elim}
use mathlib.Core.Path.{◌≡◌, refl, ap, ap₂, subst, sym, ◌∙◌}
use native.Mathlib.Nat.{sub-zero, zero-sub}
use native.Mathlib.Omega.{arith}
use lib.Dec.{T, leb, ltb, ltb→lt, nltb→le, not_T, lit≤}
use lib.ListN.{length, take, drop, get_or, replicate, length-replicate, take-append-drop}
use lib.Seq.{length-take-le, get_or-take, get_or-drop}
use Rattle.sets.proofs.Test.{T?, passes}
use Rattle.density.specs.declared.Site.{Site}
use Rattle.density.specs.Network.{no_site}
use Rattle.density.specs.Rows.{first_row}
use Rattle.records.specs.declared.ListArray.{ListArray}
use Rattle.records.specs.declared.RollArray.{RollArray}
use Rattle.records.specs.Values.{roll_array}
use Rattle.records.specs.Write.{place}
use Rattle.records.specs.Answer.{filled}
use Rattle.records.specs.Bytes.{Bytes, field}
use Rattle.records.specs.Format.{edition1, edition2}
use Rattle.table.specs.Table.{overlay}
use Rattle.held_state.specs.declared.Store.{Store}
use Rattle.held_state.specs.Held.{State, on, list_of, plan_held, corrupt}
use Rattle.held_state.proofs.Intact.{Intact, intact→}
use Rattle.store.specs.Calls.{unbuffered, refused, done}
use Rattle.store.specs.Model.{Model, migrate_rows}
use Rattle.store.specs.State.{Done, model_of, bare, holding, stays, carried, migrated}
use Rattle.store.proofs.Widths.{below, repeated-at}
use Rattle.store.proofs.Migrate.{migrate-zero}
use Rattle.store_calls.proofs.Steps.{held-count, migrate-refused, migrate-passed}
use Rattle.layout.specs.declared.Header.{Header}
use Rattle.layout.specs.Layout.{front_size, roll_part, roll_wrong, places_in, store_at, no_store, store_in, sites_in, table_over, StoreFits, StoreRead}
use Rattle.layout.proofs.Reading.{length-numbers, length-sites}
use Rattle.layout_put.specs.Put.{PutStore, PutFront, PutSites}
use Rattle.layout_put.proofs.RoundTrip.{table-again, put-over, roll-behind}
use Rattle.lent.specs.Lent.{state_in, is_of, lent, laid}
use Rattle.store_migrate_bytes.specs.Migrate.{migrates, Migrated}
use Rattle.lent.proofs.Served.{sized-is, places-fit, Listed, shares-fit, litres-fit}

-- ---- rows of places: the first n are read, the others as they were

drop-zeros : (n k : ℕ) → drop {A = ℕ} n (replicate k 0) ≡ replicate (k - n) 0
drop-zeros zero k = rw sub-zero
drop-zeros (suc n) zero = rw zero-sub
drop-zeros (suc n) (suc k) = let e : suc k - suc n ≡ k - n = omega arith in rw e (drop-zeros n k)

-- zeros behind what is read are what fills the row
filled_is : (k n : ℕ) (xs ys : List ℕ) → n ≤ length ys → take n xs ≡ take n ys → drop n xs ≡ drop n (replicate k 0) → filled k (take n ys) 0 ≡ xs
filled_is k n xs ys h front behind =
    ap₂ (λ (l : List ℕ) (m : ℕ). l ++ replicate (k - m) 0) (sym front) (length-take-le n ys h)
    ∙ ap (λ (l : List ℕ). take n xs ++ l) (sym (behind ∙ drop-zeros n k)) ∙ take-append-drop n xs

-- what holds of each place of those two rows holds of each of this
each-place : (P : ℕ → Type 0) (n : ℕ) (xs ys zs : List ℕ) → take n xs ≡ take n ys → drop n xs ≡ drop n zs
    → ((i : ℕ) → P (get_or ys i 0)) → ((i : ℕ) → P (get_or zs i 0)) → (i : ℕ) → P (get_or xs i 0)
each-place P n xs ys zs front behind f g i =
    ⊎_elim
    (λ (k : T (ltb i n)).
    let l : i < n = ltb→lt i n k in
    subst P (sym (sym (get_or-take n xs i 0 l) ∙ ap (λ (r : List ℕ). get_or r i 0) front ∙ get_or-take n ys i 0 l)) (f i))
    (λ (k : T (ltb i n) → ⊥).
    let l : n ≤ i = nltb→le i n (not_T (ltb i n) k) in
    let e : n + (i - n) ≡ i = omega arith in
    let same : get_or xs (n + (i - n)) 0 ≡ get_or zs (n + (i - n)) 0 =
    sym (get_or-drop n xs (i - n) 0) ∙ ap (λ (r : List ℕ). get_or r (i - n) 0) behind ∙ get_or-drop n zs (i - n) 0 in
    subst P (sym (subst (λ (j : ℕ). get_or xs j 0 ≡ get_or zs j 0) e same)) (g i))
    (T? (ltb i n))

-- a store that is read has all its places
pub store-places : (w : ℕ) (r : Bool) (s : List ℕ) → (length (store_in w r s).groups ≡ 64) × (length (store_in w r s).shares ≡ 512)
unfolding store_in
store-places w r s = by (leb (field s 8 8) 1 && not (roll_wrong r (drop (front_size w) s)))
  where
    by : (z : Bool) → (length (cond z (store_at w r s) no_store).groups ≡ 64) × (length (cond z (store_at w r s) no_store).shares ≡ 512)
    by true = (length-numbers 8 64 24 s, length-numbers w 512 536 s)
    by false = (length-replicate {A = ℕ} 64 0, length-replicate {A = ℕ} 512 0)

-- ---- the step

-- what is read of a store of edition 1 and its table, which row 0 does not refuse, and whether row 2 does
pub record Old (s t t₂ : List ℕ) (h : Header) (gs ss : List ℕ) (list : ListArray) (r : Option ℕ) : Type 0 where
  pub read : StoreRead edition1.share edition1.roll s (replicate 64 0) (replicate 512 0) h gs ss
  pub listed : Listed edition1 t h.count h.roll list
  pub sound : corrupt (state_in edition1 s t) ≡ false
  pub row : (b : Model) → length b.list.sites ≡ h.count → r ≡ first_row (migrate_rows b (places_in edition2.litres t₂))

-- The roll is written behind the front of the new store, and then the front.
pub new-put : (s₂ : List ℕ) (store : Store) {roll : RollArray} {m last : List ℕ} → length store.groups ≡ 64 → length store.shares ≡ 512
    → (((i : ℕ) → get_or store.shares i 0 < 256 ^ edition2.share) → StoreFits edition2.share store) → is_of edition2 s₂ ≡ true → store.roll ≡ roll_array none → roll ≡ roll_array none
    → m ≡ place (front_size edition2.share) (roll_part true roll) s₂ → length m ≡ length s₂ → PutFront edition2.share store m last
    → PutStore edition2.share edition2.roll store last
new-put s₂ store {roll} {m} many each fit sized unrolled lacks is same f =
    let long = sized-is edition2 s₂ sized in
    put-over edition2.share edition2.roll store many each fit m (same ∙ long) f
    (ap (drop (front_size edition2.share)) is
    ∙ roll-behind edition2.share roll s₂ long (ap (λ (o : RollArray). length o.crews) lacks ∙ length-replicate {A = ℕ} 64 0)
    ∙ ap (roll_part true) (lacks ∙ sym unrolled))

module _ (s t s₂ t₂ : List ℕ) where
  abbrev old : State
  old = state_in edition1 s t

  abbrev fresh : List Site
  fresh = sites_in edition2.litres t₂

  -- what is refused writes nothing
  keeps : {n : ℕ} → migrates s t t₂ ≡ stays old (unbuffered (refused n)) → Migrated s t s₂ t₂ (refused n) s₂ t₂
  keeps h =
      record {
        is = ap (laid edition2 s₂ t₂) (sym h);
        long = refl;
        reads = λ e. absurd (let z : ◌≡◌ {A = ℕ} 0 1 = cc in omega arith);
      }

  pub migrate-corrupt : corrupt old ≡ true → Migrated s t s₂ t₂ (refused 0) s₂ t₂
  migrate-corrupt z = keeps (migrate-zero old fresh z)

  module _ {h : Header} {gs ss : List ℕ} {list : ListArray} {r : Option ℕ} (o : Old s t t₂ h gs ss list r) where
    abbrev read : StoreRead edition1.share edition1.roll s (replicate 64 0) (replicate 512 0) h gs ss
    read = o.read

    intact : Intact old
    intact = intact→ old o.sound

    pub migrate-few : h.count ≤ 512
    migrate-few = omega (arith, intact.few, read.count)

    room : h.count ≤ places_in edition1.litres t
    room = omega (arith, intact.room, read.count, length-sites edition1.litres t)

    row_is_lem : r ≡ first_row (migrate_rows (model_of old) (length fresh))
    row_is_lem =
        o.row (model_of old) ((held-count old o.sound).2 ∙ sym read.count)
        ∙ ap (λ (m : ℕ). first_row (migrate_rows (model_of old) m)) (sym (length-sites edition2.litres t₂))

    pub migrate-refuses : {n : ℕ} → r ≡ some n → Migrated s t s₂ t₂ (refused n) s₂ t₂
    migrate-refuses {n} e = keeps (migrate-refused old fresh o.sound n (sym row_is_lem ∙ e))

    module _ (e : r ≡ none) where
      passed : (migrates s t t₂ ≡ record { after = migrated old fresh; reply = unbuffered done }) × (old.store.count ≤ length fresh)
      passed = migrate-passed old fresh o.sound (sym row_is_lem ∙ e)

      pub migrate-room : h.count ≤ places_in edition2.litres t₂
      migrate-room = omega (arith, passed.1, read.count, length-sites edition2.litres t₂)

      sites-are : take h.count list.sites ≡ take h.count (sites_in edition1.litres t)
      sites-are = o.listed.2 migrate-few room

      table_is : (list_of old).sites ++ drop old.store.count fresh ≡ overlay h.count list.sites fresh
      unfolding overlay
      table_is =
          ap (λ (m : ℕ). take m (sites_in edition1.litres t) ++ drop m fresh) (sym read.count)
          ∙ ap (λ (l : List Site). l ++ drop h.count fresh) (sym sites-are)

      -- litres of 2 bytes have 4
      litres-wide : Bytes t → (i : ℕ) → i < h.count → (get_or list.sites i no_site).litres < 256 ^ edition2.litres
      litres-wide b i l =
          let wide : 256 ^ edition1.litres ≤ 256 ^ edition2.litres = lit≤ tt in
          let same : get_or (sites_in edition1.litres t) i no_site ≡ get_or list.sites i no_site =
          sym (get_or-take h.count (sites_in edition1.litres t) i no_site l) ∙ ap (λ (x : List Site). get_or x i no_site) (sym sites-are)
          ∙ get_or-take h.count list.sites i no_site l in
          subst (λ (x : Site). x.litres < 256 ^ edition2.litres) same (omega (arith, litres-fit edition1 t b i))

      puts : {store : Store} {s' t' : List ℕ} → carried old ≡ store → store.roll ≡ roll_array none → ((i : ℕ) → get_or store.shares i 0 < 256 ^ edition2.share) → Bytes t → Bytes t₂
          → PutStore edition2.share edition2.roll store s' → length s' ≡ length s₂ → PutSites edition2.litres h.count list.sites t₂ t' → Migrated s t s₂ t₂ done s' t'
      puts {store} {s'} {t'} c unrolled fits bt bt₂ p long q =
          let n = h.count in
          let table = overlay n list.sites fresh in
          let steps : migrates s t t₂ ≡ record { after = on edition2 store table; reply = unbuffered done } =
          passed.0 ∙ ap₂ (λ (x : Store) (y : List Site). record { after = on edition2 x y; reply = unbuffered done }) c table_is in
          let many : n ≤ length list.sites = omega (arith, q.many, migrate-few) in
          let over : t' ≡ table_over edition2.litres table t₂ =
          q.bytes ∙ sym (table-again edition2.litres n list.sites t₂ many (places-fit edition2.litres n t₂ migrate-room) bt₂) in
          record {
            is = ap₂ (λ (x y : List ℕ). lent x y (unbuffered done)) p.bytes over ∙ ap (laid edition2 s₂ t₂) (sym steps);
            long = long;
            reads = λ d. ap₂ (λ (x : Store) (y : List Site). on edition2 x y) (p.reads fits (λ z. unrolled)) (q.reads (litres-wide bt)) ∙ ap (λ (d : Done). d.after) (sym steps);
          }

      -- the sites, and no plan and no roll
      abbrev empty : Store
      empty = bare old.store.count (roll_array none)

      -- the lack of a plan
      pub migrate-bare : {s' t' : List ℕ} → h.held ≡ false → Bytes t → Bytes t₂ → PutStore edition2.share edition2.roll (bare h.count (roll_array none)) s' → length s' ≡ length s₂
          → PutSites edition2.litres h.count list.sites t₂ t' → Migrated s t s₂ t₂ done s' t'
      migrate-bare lacks =
          puts (ap (λ (b : Bool). cond b (holding empty (plan_held old)) empty) (sym read.held ∙ lacks) ∙ ap (λ (n : ℕ). bare n (roll_array none)) (sym read.count)) refl
          (repeated-at (λ (x : ℕ). x < 256 ^ edition2.share) 0 (below edition2.share) 512)

      -- the plan held
      module _ (held : h.held ≡ true) where
        abbrev pub written : Store
        written = record { count = h.count; held = true; grouped = h.grouped; groups = gs; shares = ss; roll = roll_array none }

        few-groups : h.grouped ≤ 64
        few-groups = omega (arith, intact.groups (passes old.store.held (sym read.held ∙ held)), read.grouped)

        groups-are : filled 64 (plan_held old).groups 0 ≡ gs
        groups-are =
            let all = old.store.groups in
            ap (λ (m : ℕ). filled 64 (take m all) 0) (sym read.grouped)
            ∙ filled_is 64 h.grouped gs all (omega (arith, few-groups, (store-places edition1.share edition1.roll s).0)) (read.groups few-groups) (read.groups-behind few-groups)

        grouped-is : length (plan_held old).groups ≡ h.grouped
        grouped-is =
            let all = old.store.groups in
            ap (λ (m : ℕ). length (take m all)) (sym read.grouped)
            ∙ length-take-le h.grouped all (omega (arith, few-groups, (store-places edition1.share edition1.roll s).0))

        shares-are : filled 512 (plan_held old).shares 0 ≡ ss
        shares-are =
            let all = old.store.shares in
            ap (λ (m : ℕ). filled 512 (take m all) 0) (sym read.count)
            ∙ filled_is 512 h.count ss all (omega (arith, migrate-few, (store-places edition1.share edition1.roll s).1)) (read.shares migrate-few) (read.shares-behind migrate-few)

        carries : carried old ≡ written
        carries =
            ap (λ (b : Bool). cond b (holding empty (plan_held old)) empty) (sym read.held ∙ held)
            ∙ ap₂ (λ (n k : ℕ). record { count = n; held = true; grouped = k; groups = filled 64 (plan_held old).groups 0; shares = filled 512 (plan_held old).shares 0; roll = roll_array none })
            (sym read.count) grouped-is
            ∙ ap₂ (λ (g p : List ℕ). record { count = h.count; held = true; grouped = h.grouped; groups = g; shares = p; roll = roll_array none }) groups-are shares-are

        -- shares of 4 bytes have 8
        shares-wide : Bytes s → (i : ℕ) → get_or ss i 0 < 256 ^ edition2.share
        shares-wide b =
            let wide : 256 ^ edition1.share ≤ 256 ^ edition2.share = lit≤ tt in
            each-place (λ (x : ℕ). x < 256 ^ edition2.share) h.count ss old.store.shares (replicate 512 0) (read.shares migrate-few) (read.shares-behind migrate-few)
            (λ i. omega (arith, shares-fit edition1 s b i)) (repeated-at (λ (x : ℕ). x < 256 ^ edition2.share) 0 (below edition2.share) 512)

        pub migrate-plan : {s' t' : List ℕ} → Bytes s → Bytes t → Bytes t₂ → PutStore edition2.share edition2.roll written s' → length s' ≡ length s₂
            → PutSites edition2.litres h.count list.sites t₂ t' → Migrated s t s₂ t₂ done s' t'
        migrate-plan b = puts carries refl (shares-wide b)
