-- A call on lent bytes, from what its parts say: what is read of them, what is kept, and what is done is written and reads back. Assumes nothing.
use Prim.Native.Nat.{ℕ, zero, suc, ◌*◌, ◌<◌, ◌≤◌, ◌^◌}
use mathlib.Core.Bool.{Bool, true, false, cond, not, ◌&&◌}
use mathlib.Core.List.{List, map}
use mathlib.Core.Option.{Option, none, some}
use mathlib.Core.Path.{◌≡◌, refl, ap, ap₂, subst, sym, ◌∙◌}
use native.Mathlib.Nat.{mul_comm, mul-le-mul_right, le-div_iff_mul-le}
use native.Mathlib.Omega.{arith}
use borrow.Author.Tests.{eqb-true}
use lib.Dec.{eqb, leb}
use lib.ListN.{length, take, drop, get_or, set, length-drop}
use lib.Seq.{get_or-take}
use Rattle.sets.specs.Sum.{any}
use Rattle.sets.proofs.Sum.{any-cong}
use Rattle.density.specs.declared.Site.{Site}
use Rattle.density.specs.Network.{no_site, site_at}
use Rattle.records.specs.declared.Edition.{Edition}
use Rattle.records.specs.declared.ListArray.{ListArray}
use Rattle.records.specs.declared.RollArray.{RollArray}
use Rattle.records.specs.Values.{roll_array, roll_in}
use Rattle.records.specs.Bytes.{Bytes, field, value}
use Rattle.records.specs.Record.{records}
use Rattle.records.specs.Write.{place, Whole}
use Rattle.records.proofs.Bytes.{bytes_take, bytes_drop, field-small}
use Rattle.table.specs.Table.{overlay}
use Rattle.table.proofs.Overlay.{overlay-at}
use Rattle.held_state.specs.declared.Store.{Store}
use Rattle.held_state.specs.declared.Summary.{Summary}
use Rattle.held_state.specs.Held.{State, on, list_of, bad_site}
use Rattle.held_state.specs.Values.{BadKnown, Stands}
use Rattle.store.specs.declared.Request.{Request}
use Rattle.store.specs.declared.Request.TheVariants.{Load, Change, Add, Propose, Share, Depot, Difference, Written, AtLeast, ListWritten}
use Rattle.store.specs.Calls.{Call, Reply, Told, same, done}
use Rattle.store.specs.Model.{with_litres}
use Rattle.store.specs.State.{Done, bare, next, stays, effect_of, refusal, settle, step}
use Rattle.store.specs.Trace.{ReadsOnly}
use Rattle.store.specs.Widths.{Named, Fits}
use Rattle.store.proofs.Rules.{reading-leaves}
use Rattle.store.proofs.Widths.{below, repeated-at, read_at, step_fits}
use Rattle.store_calls.proofs.Steps.{held-site}
use Rattle.layout.specs.declared.Header.{Header}
use Rattle.layout.specs.Layout.{front_size, store_size, roll_behind, roll_wrong, place_size, places_in, store_bytes, store_at, no_store, store_in, place_bytes, place_in, sites_in, table_over, StoreFits, StoreRead}
use Rattle.layout.proofs.Reading.{length-sites, site-here}
use Rattle.layout_put.specs.Put.{PutStore, PutFront, PutSites}
use Rattle.layout_put.proofs.RoundTrip.{table-again, put-kept}
use Rattle.layout_put.proofs.Places.{site-back, site-over, table_same, length-zeros, bare-fits}
use Rattle.lent.specs.Lent.{state_in, is_of, Lent, is_kept, lent, laid, Called, Freshened}

-- ---- lengths and places

pub sized-is : (e : Edition) (s : List ℕ) → is_of e s ≡ true → length s ≡ store_size e.share e.roll
sized-is e s = eqb-true (length s) (store_size e.share e.roll)

-- there is room for what stands in front of a roll
pub front-room : (e : Edition) (s : List ℕ) → is_of e s ≡ true → front_size e.share ≤ length s
front-room e s h = omega (arith, sized-is e s h)

pub places-fit : (w n : ℕ) (t : List ℕ) → n ≤ places_in w t → place_size w * n ≤ length t
places-fit w n t h = rw mul_comm ((le-div_iff_mul-le {k = place_size w} {x = n} {y = length t} (omega arith)).0 h)

-- a place of a held site is far below 2 ^ 64
pub at_small : {w i : ℕ} → w ≤ 4 → i ≤ 512 → place_size w * i < 2 ^ 64
at_small {w} {i} h l = let m : place_size w * i ≤ 6 * i = mul-le-mul_right i (omega arith) in omega arith

-- ---- what bytes stand for has the widths of the edition

-- numbers that are read have their width
numbers_fit : (w n : ℕ) (s : List ℕ) → Bytes s → (i : ℕ) → get_or (map value (records w n s)) i 0 < 256 ^ w
unfolding records
numbers_fit w zero s b i = below w
numbers_fit w (suc n) s b zero = field-small s 0 w b
numbers_fit w (suc n) s b (suc i) = numbers_fit w n (drop w s) (bytes_drop w s b) i

module _ (e : Edition) where
  abbrev is_store : List ℕ → Bool
  is_store s = leb (field s 8 8) 1 && not (roll_wrong e.roll (drop (front_size e.share) s))

  pub shares-fit : (s : List ℕ) → Bytes s → (i : ℕ) → get_or (store_in e.share e.roll s).shares i 0 < 256 ^ e.share
  unfolding store_in
  shares-fit s b i = by (is_store s)
    where
      by : (z : Bool) → get_or (cond z (store_at e.share e.roll s) no_store).shares i 0 < 256 ^ e.share
      by true = numbers_fit e.share 512 (drop 536 s) (bytes_drop 536 s b) i
      by false = repeated-at (λ (x : ℕ). x < 256 ^ e.share) 0 (below e.share) 512 i

  pub litres-fit : (t : List ℕ) → Bytes t → (i : ℕ) → (get_or (sites_in e.litres t) i no_site).litres < 256 ^ e.litres
  unfolding sites_in
  litres-fit t b i =
      read_at (λ (x : Site). x.litres < 256 ^ e.litres) no_site (place_in e.litres) (λ r k. field-small r 2 e.litres k) (below e.litres)
      (place_size e.litres) (places_in e.litres t) t b i

  -- without rolls there is none
  pub unrolled : (s : List ℕ) → e.roll ≡ false → (store_in e.share e.roll s).roll ≡ roll_array none
  unfolding store_in
  unrolled s h = by (is_store s)
    where
      by : (z : Bool) → (cond z (store_at e.share e.roll s) no_store).roll ≡ roll_array none
      by true = ap (λ (b : Bool). roll_behind b (drop (front_size e.share) s)) h
      by false = refl

  state-fits : (m : ℕ) (s t : List ℕ) → Bytes s → Bytes t → Fits m (state_in e s t)
  state-fits m s t b k = record { litres = λ i l. litres-fit t k i; shares = shares-fit s b; roll = unrolled s }

  -- Of a store that row 0 may pass the number in front of a roll is 0 or 1, and its roll is the one that stands there.
  pub roll-stands : (s : List ℕ) → (store_in e.share e.roll s).count ≤ 512
      → (roll_wrong e.roll (drop (front_size e.share) s) ≡ false) × ((store_in e.share e.roll s).roll ≡ roll_behind e.roll (drop (front_size e.share) s))
  unfolding store_in
  roll-stands s = by (leb (field s 8 8) 1) (roll_wrong e.roll (drop (front_size e.share) s))
    where
      by : (a b : Bool) → (cond (a && not b) (store_at e.share e.roll s) no_store).count ≤ 512
          → (b ≡ false) × ((cond (a && not b) (store_at e.share e.roll s) no_store).roll ≡ roll_behind e.roll (drop (front_size e.share) s))
      by true false h = (refl, refl)
      by true true h = absurd (omega arith)
      by false b h = absurd (omega arith)

  -- A roll has a byte for each depot, where a store of an edition with rolls has its length.
  pub roll-whole : (s : List ℕ) → (e.roll ≡ true → is_of e s ≡ true) → Whole e (roll_in (store_in e.share e.roll s).roll)
  unfolding store_in
  roll-whole s sized = by (is_store s) e.roll refl
    where
      behind : List ℕ
      behind = drop 8 (drop (front_size e.share) s)

      whole : (z : Bool) → e.roll ≡ true → Whole e (cond z (some behind) none)
      whole true h =
          let long = sized-is e s (sized h) ∙ ap (store_size e.share) h in
          (h, rw (length-drop, length-drop) (omega (arith, long)))
      whole false h = tt

      by : (z r : Bool) → e.roll ≡ r → Whole e (roll_in (cond z (store_at e.share r s) no_store).roll)
      by true true h = whole (eqb (field (drop (front_size e.share) s) 0 8) 1) h
      by true false h = tt
      by false r h = tt

-- ---- a fresh store

pub fresh-put : (e : Edition) {s' : List ℕ} → PutStore e.share e.roll (bare 0 (roll_array none)) s' → Freshened e s'
fresh-put e p = record { is = p.bytes; reads = p.reads (repeated-at (λ (x : ℕ). x < 256 ^ e.share) 0 (below e.share) 512) (λ z. refl) }

-- ---- what is read

-- the list that is read of a table's first places, with a roll or none
abbrev pub Listed : Edition → List ℕ → ℕ → RollArray → ListArray → Type 0
Listed e t n roll list =
    (list.count ≡ n) × (list.roll ≡ roll) × (n ≤ 512 → n ≤ places_in e.litres t → take n list.sites ≡ take n (sites_in e.litres t))

take-any : (n : ℕ) (a b : List Site) → take n a ≡ take n b → any (λ i. bad_site (get_or a i no_site)) n ≡ any (λ i. bad_site (get_or b i no_site)) n
take-any n a b h =
    any-cong (λ i. bad_site (get_or a i no_site)) (λ i. bad_site (get_or b i no_site)) n
    (λ i l. ap bad_site (sym (get_or-take n a i no_site l) ∙ ap (λ (x : List Site). get_or x i no_site) h ∙ get_or-take n b i no_site l))

pub marks : (e : Edition) (t : List ℕ) {n : ℕ} (k : Summary) → k.places ≡ places_in e.litres t
    → (n ≤ 512 → n ≤ places_in e.litres t → k.bad ≡ any (λ i. bad_site (get_or (sites_in e.litres t) i no_site)) n)
    → (list : ListArray) → list.count ≡ n → (n ≤ 512 → n ≤ places_in e.litres t → take n list.sites ≡ take n (sites_in e.litres t)) → BadKnown list k
marks e t {n} k p bad list c l =
    subst (λ (m : ℕ). m ≤ 512 → m ≤ k.places → k.bad ≡ any (λ i. bad_site (get_or list.sites i no_site)) m) (sym c)
    (λ a b.
    let room : n ≤ places_in e.litres t = omega (arith, p) in
    bad a room ∙ sym (take-any n list.sites (sites_in e.litres t) (l a room)))

-- the values that are read are those of the state
pub stands : (e : Edition) (s t : List ℕ) {h : Header} {gs₀ ss₀ gs ss : List ℕ} {list : ListArray} {k : Summary} → StoreRead e.share e.roll s gs₀ ss₀ h gs ss
    → Listed e t h.count h.roll list
    → k.places ≡ places_in e.litres t → k.held ≡ h.held → k.grouped ≡ h.grouped → Stands (state_in e s t) list k gs ss
stands e s t {h} {gs = gs} {ss} {list} {k} r l p d g =
    record {
      count = l.0 ∙ r.count;
      places = p ∙ sym (length-sites e.litres t);
      held = d ∙ r.held;
      grouped = g ∙ r.grouped;
      sites = subst (λ (n : ℕ). n ≤ 512 → n ≤ k.places → take n list.sites ≡ take n (sites_in e.litres t)) (sym l.0) (λ a b. l.2 a (omega (arith, p)));
      roll = l.1 ∙ r.roll;
      groups = subst (λ (n : ℕ). n ≤ 64 → take n gs ≡ take n (store_in e.share e.roll s).groups) (sym g) r.groups;
      shares = subst (λ (n : ℕ). n ≤ 512 → take n ss ≡ take n (store_in e.share e.roll s).shares) (sym l.0) r.shares;
    }

-- ---- a call that only reads is so answered that nothing is written

module _ (s : State) (c : Call) where
  reads-by : (o : Option ℕ) (q : Request) → ReadsOnly q → is_kept (settle o s c (effect_of s c q)).reply.answer ≡ true
  reads-by (some n) q h = refl
  reads-by none Load h = absurd h
  reads-by none (Change i w) h = absurd h
  reads-by none (Add f d w) h = absurd h
  reads-by none Propose h = absurd h
  reads-by none (Share i) h = refl
  reads-by none (Depot d) h = refl
  reads-by none (Difference a d) h = refl
  reads-by none Written h = refl
  reads-by none (AtLeast m) h = refl
  reads-by none ListWritten h = refl

-- ---- a call

module _ (e : Edition) (s t : List ℕ) (c : Call) (bytes : Bytes c.input) where
  abbrev state : State
  state = state_in e s t

  abbrev laid_by : Bool → Done → Lent
  laid_by b d = cond b (lent s t d.reply) (lent (store_bytes e.share e.roll d.after.store) (table_over e.litres d.after.table t) d.reply)

  -- Where the call is refused or only reads, nothing is written.
  pub keeps : {a : Told} {last : List ℕ} → is_kept a ≡ true → step state c ≡ stays state (record { answer = a; buffer = last }) → Called e s t c a s t last
  keeps {a} {last} k h =
      record {
        is = ap (λ (b : Bool). laid_by b (stays state (record { answer = a; buffer = last }))) (sym k) ∙ ap (laid e s t) (sym h);
        long = refl;
        reads = ap (λ (d : Done). d.after) (sym h);
        bytes = bytes;
      }

  pub asks : {a : Told} {last : List ℕ} → ReadsOnly c.request → record { answer = a; buffer = last } ≡ (step state c).reply → Called e s t c a s t last
  asks q h =
      keeps (ap (λ (r : Reply). is_kept r.answer) h ∙ reads-by state c (refusal state c) c.request q)
      (ap₂ (λ (x : State) (r : Reply). record { after = x; reply = r }) (reading-leaves (refusal state c) state c c.request q) (sym h))

  -- Where it is done, what is done is written, and reads back.
  module _ (bs : Bytes s) (bt : Bytes t) (named : Named (256 ^ e.litres) c.request) where
    abbrev Steps : Store → List Site → Type 0
    Steps store table = step state c ≡ next state store table (same c done)

    after-fits : {store : Store} {table : List Site} → Steps store table → (m : ℕ) → Fits m (on e store table)
    after-fits h m = subst (λ (d : Done). Fits m d.after) h (step_fits m state (state-fits e m s t bs bt) c bytes named)

    pub puts : {store : Store} {table : List Site} {s' t' : List ℕ} → Steps store table → PutStore e.share e.roll store s' → length s' ≡ length s
        → t' ≡ table_over e.litres table t → (((i : ℕ) → (get_or table i no_site).litres < 256 ^ e.litres) → sites_in e.litres t' ≡ table)
        → Called e s t c done s' t' c.buffer
    puts {store} {table} h p long over back =
        record {
          is = ap₂ (λ (x y : List ℕ). lent x y (same c done)) p.bytes over ∙ ap (laid e s t) (sym h);
          long = long;
          reads =
              ap₂ (λ (x : Store) (y : List Site). on e x y) (p.reads (after-fits h 0).shares (after-fits h 0).roll) (back (λ i. (after-fits h (suc i)).litres i (omega arith)))
              ∙ ap (λ (d : Done). d.after) (sym h);
          bytes = bytes;
        }

    -- the first n sites are written
    pub puts-sites : {n : ℕ} {roll : RollArray} {sites : List Site} {s' t' : List ℕ} → n ≤ 512 → n ≤ places_in e.litres t → Steps (bare n roll) (overlay n sites (sites_in e.litres t))
        → PutStore e.share e.roll (bare n roll) s' → length s' ≡ length s → PutSites e.litres n sites t t' → Called e s t c done s' t' c.buffer
    puts-sites {n} {sites = sites} few room h p long q =
        let many : n ≤ length sites = omega (arith, q.many) in
        puts h p long (q.bytes ∙ sym (table-again e.litres n sites t many (places-fit e.litres n t room) bt))
        (λ f.
        q.reads
        (λ i l. subst (λ (x : Site). x.litres < 256 ^ e.litres) (overlay-at n sites (sites_in e.litres t) i no_site l many) (f i)))

    -- one site is written
    pub puts-site : {i n : ℕ} {roll : RollArray} {x : Site} {s' t' : List ℕ} → i < places_in e.litres t → x.first < 256 → x.second < 256 → x.litres < 256 ^ e.litres
        → Steps (bare n roll) (set (sites_in e.litres t) i x) → PutStore e.share e.roll (bare n roll) s' → length s' ≡ length s
        → t' ≡ place (place_size e.litres * i) (place_bytes e.litres x) t → Called e s t c done s' t' c.buffer
    puts-site {i} {x = x} l a b w h p long q =
        puts h p long (q ∙ site-over e.litres t i x bt l) (λ f. ap (sites_in e.litres) q ∙ site-back e.litres t i x l a b w)

    -- a plan is written
    pub puts-plan : {store : Store} {s' : List ℕ} → Steps store (sites_in e.litres t) → PutStore e.share e.roll store s' → length s' ≡ length s
        → Called e s t c done s' t c.buffer
    puts-plan h p long = puts h p long (sym (table_same e.litres t bt)) (λ f. refl)

-- ---- a store whose roll stays

-- A store that is written in front of the roll of one that row 0 may pass, and has that roll.
pub keeps-roll : (e : Edition) (s : List ℕ) {s' : List ℕ} (store : Store) → is_of e s ≡ true → Bytes s → (store_in e.share e.roll s).count ≤ 512
    → length store.groups ≡ 64 → length store.shares ≡ 512 → (((i : ℕ) → get_or store.shares i 0 < 256 ^ e.share) → StoreFits e.share store)
    → store.roll ≡ (store_in e.share e.roll s).roll → PutFront e.share store s s' → PutStore e.share e.roll store s'
keeps-roll e s store long b few many each fit is =
    let k = roll-stands e s few in
    put-kept e.share e.roll store many each fit s (sized-is e s long) b k.0 (is ∙ k.1)

pub keeps-bare : (e : Edition) (s : List ℕ) {s' : List ℕ} {n : ℕ} → is_of e s ≡ true → Bytes s → (store_in e.share e.roll s).count ≤ 512 → n < 256 ^ 8
    → (roll : RollArray) → roll ≡ (store_in e.share e.roll s).roll → PutFront e.share (bare n roll) s s' → PutStore e.share e.roll (bare n roll) s'
keeps-bare e s {n = n} long b few small roll =
    keeps-roll e s (bare n roll) long b few (length-zeros 64) (length-zeros 512) (bare-fits e.share n roll small)

-- ---- a site that is changed

module _ (e : Edition) (s t : List ℕ) {i : ℕ} (l : i < (state_in e s t).store.count) (room : i < places_in e.litres t) where
  abbrev part : List ℕ
  part = take (place_size e.litres) (drop (place_size e.litres * i) t)

  pub changed-is : (w : ℕ) → with_litres (site_at (list_of (state_in e s t)) i) w ≡ with_litres (place_in e.litres part) w
  changed-is w = ap (λ (x : Site). with_litres x w) (held-site (state_in e s t) i l ∙ site-here e.litres t i room)

  pub changed-small : Bytes t → ((place_in e.litres part).first < 256) × ((place_in e.litres part).second < 256)
  changed-small b =
      let k = bytes_take (place_size e.litres) (drop (place_size e.litres * i) t) (bytes_drop (place_size e.litres * i) t b) in
      (field-small part 0 1 k, field-small part 1 1 k)

-- ---- a call by the case of its request

pub called-as : {e : Edition} {s t s' t' input buffer last : List ℕ} {a : Told} {q r : Request} → q ≡ r
    → Called e s t (record { request = r; input = input; buffer = buffer }) a s' t' last → Called e s t (record { request = q; input = input; buffer = buffer }) a s' t' last
called-as {e} {s} {t} {s'} {t'} {input} {buffer} {last} {a} k x =
    subst (λ (q : Request). Called e s t (record { request = q; input = input; buffer = buffer }) a s' t' last) (sym k) x
