-- Laws of the two layouts, over the width: what is written reads back, and a table that is read is written again. Assumes nothing.
use Prim.Native.Nat.{ℕ, zero, suc, ◌+◌, ◌*◌, ◌-◌, ◌/◌, ◌<◌, ◌≤◌, ◌^◌}
use mathlib.Core.Bool.{Bool, true, false, cond}
use mathlib.Core.List.{List, [], ◌∷◌, ◌++◌, append_assoc, append-nil, flat_map, map, map-append}
use mathlib.Core.Option.{none}
use mathlib.Core.Path.{◌≡◌, refl, ap, ap₂, sym, ◌∙◌}
use native.Mathlib.Nat.{mul-suc, mul-zero, mul_comm, mul-add, sub-zero, le_of_suc-le-suc, not-suc-le-zero, mul-div-le, le-div_iff_mul-le}
use native.Mathlib.Omega.{arith}
use borrow.Author.Tests.{leb-true, le-leb, ltb-false}
use lib.Dec.{eqb, leb, ltb, lit<}
use lib.ListN.{length, take, drop, get_or, length-append, length-map, length-drop, drop_of_length-le}
use lib.Seq.{drop_at, drop-drop, length-take-le}
use Rattle.density.specs.declared.Site.{Site}
use Rattle.records.specs.declared.RollArray.{RollArray}
use Rattle.records.specs.Values.{roll_array}
use Rattle.records.specs.Bytes.{Bytes, le, value, field}
use Rattle.records.specs.Record.{records}
use Rattle.records.specs.Write.{place, onto, All}
use Rattle.records.proofs.Bytes.{length-le, value-le, le-value, bytes_drop}
use Rattle.records.proofs.Records.{length-records, all_from}
use Rattle.records.proofs.Codec.{field-here, field-last, field-behind, le-field, le-field-last, records-flat, flat-records, map_back}
use Rattle.records.proofs.Buffers.{Front, flat_append, length-flat, place-onto}
use Rattle.table.specs.Table.{overlay}
use Rattle.table.proofs.Overlay.{map-drop}
use Rattle.held_state.specs.declared.Store.{Store}
use Rattle.layout.specs.Layout.{front_size, store_size, front_bytes, roll_part, roll_behind, roll_wrong, place_size, places_in, store_bytes, numbers, store_in, place_bytes, place_in, sites_in, table_over, StoreFits, SiteFits}
use Rattle.layout_put.specs.Put.{PutStore, PutFront}

-- ---- numbers, one after another

numbers-back : (w : ℕ) (xs t : List ℕ) (n : ℕ) → length xs ≡ n → ((i : ℕ) → get_or xs i 0 < 256 ^ w) → map value (records w n (flat_map (le w) xs ++ t)) ≡ xs
numbers-back w xs t n h f =
    ap (λ (k : ℕ). map value (records w k (flat_map (le w) xs ++ t))) (sym h)
    ∙ ap (map value) (records-flat (le w) w (length-le w) xs t)
    ∙ map_back (le w) value (λ (x : ℕ). x < 256 ^ w) (value-le w) xs (all_from (λ (x : ℕ). x < 256 ^ w) 0 xs (λ i l. f i))

-- ---- a store

abbrev bit : Bool → ℕ
bit b = cond b 1 0

bit-fits : (b : Bool) → bit b < 256 ^ 8
bit-fits true = lit< tt
bit-fits false = lit< tt

bit-few : (b : Bool) → leb (bit b) 1 ≡ true
bit-few true = refl
bit-few false = refl

bit-back : (b : Bool) → eqb (bit b) 1 ≡ b
bit-back true = refl
bit-back false = refl

bit-low : (b : Bool) → ltb 1 (bit b) ≡ false
bit-low true = refl
bit-low false = refl

-- the roll behind the front
pub length-roll : (r : Bool) (o : RollArray) → length o.crews ≡ 64 → length (roll_part r o) ≡ cond r 72 0
length-roll true o h = rw (length-append, length-le 8, h)
length-roll false o h = refl

roll-back : (r : Bool) (o : RollArray) → (r ≡ false → o ≡ roll_array none) → roll_behind r (roll_part r o) ≡ o
roll-back true o h =
    ap₂ (λ (t : Bool) (c : List ℕ). record { there = t; crews = c })
    (ap (λ (n : ℕ). eqb n 1) (field-here 8 (bit o.there) o.crews (bit-fits o.there)) ∙ bit-back o.there)
    (drop_at (le 8 (bit o.there)) o.crews 8 (length-le 8 (bit o.there)))
roll-back false o h = sym (h refl)

roll-right : (r : Bool) (o : RollArray) → roll_wrong r (roll_part r o) ≡ false
roll-right true o = ap (ltb 1) (field-here 8 (bit o.there) o.crews (bit-fits o.there)) ∙ bit-low o.there
roll-right false o = refl

pub length_front : (w : ℕ) (s : Store) → length s.groups ≡ 64 → length s.shares ≡ 512 → length (front_bytes w s) ≡ front_size w
unfolding front_bytes
length_front w s h k =
    rw (
      length-append,
      length-append,
      length-append,
      length-append,
      length-le 8,
      length-le 8,
      length-le 8,
      length-flat (le 8) 8 (length-le 8),
      length-flat (le w) w (length-le w),
      h,
      k,
    )
    (omega arith)

pub length-store : (w : ℕ) (r : Bool) (s : Store) → length s.groups ≡ 64 → length s.shares ≡ 512 → length s.roll.crews ≡ 64 → length (store_bytes w r s) ≡ store_size w r
length-store w r s h k l = length-append (front_bytes w s) (roll_part r s.roll) ∙ ap₂ (λ (m n : ℕ). m + n) (length_front w s h k) (length-roll r s.roll l)

module _ (w : ℕ) (r : Bool) (s : Store) (f : StoreFits w s) where
  abbrev gs : List ℕ
  gs = flat_map (le 8) s.groups

  abbrev ss : List ℕ
  ss = flat_map (le w) s.shares

  -- what stands behind the number of sites, the held number, the number of groups and the groups
  abbrev behind₃ : List ℕ
  behind₃ = ss ++ roll_part r s.roll

  abbrev behind₂ : List ℕ
  behind₂ = gs ++ behind₃

  abbrev behind₁ : List ℕ
  behind₁ = le 8 s.grouped ++ behind₂

  abbrev behind₀ : List ℕ
  behind₀ = le 8 (bit s.held) ++ behind₁

  abbrev whole : List ℕ
  whole = le 8 s.count ++ behind₀

  parts : store_bytes w r s ≡ whole
  unfolding front_bytes
  parts = simp append_assoc

  held_back : field whole 8 8 ≡ bit s.held
  held_back = field-behind (le 8 s.count) behind₀ 8 0 8 (length-le 8 s.count) ∙ field-here 8 (bit s.held) behind₁ (bit-fits s.held)

  grouped-back : field whole 16 8 ≡ s.grouped
  grouped-back =
      field-behind (le 8 s.count) behind₀ 8 8 8 (length-le 8 s.count)
      ∙ field-behind (le 8 (bit s.held)) behind₁ 8 0 8 (length-le 8 (bit s.held))
      ∙ field-here 8 s.grouped behind₂ f.grouped

  behind-head : drop 24 whole ≡ behind₂
  behind-head =
      sym (drop-drop 16 8 whole)
      ∙ ap (drop 16) (drop_at (le 8 s.count) behind₀ 8 (length-le 8 s.count))
      ∙ sym (drop-drop 8 8 behind₀)
      ∙ ap (drop 8) (drop_at (le 8 (bit s.held)) behind₁ 8 (length-le 8 (bit s.held)))
      ∙ drop_at (le 8 s.grouped) behind₂ 8 (length-le 8 s.grouped)

  behind-groups : drop 536 whole ≡ behind₃
  behind-groups =
      sym (drop-drop 512 24 whole) ∙ ap (drop 512) behind-head
      ∙ drop_at gs behind₃ 512 (length-flat (le 8) 8 (length-le 8) s.groups ∙ ap (λ (k : ℕ). 8 * k) f.many)

  behind-shares : drop (front_size w) whole ≡ roll_part r s.roll
  behind-shares =
      sym (drop-drop (w * 512) 536 whole) ∙ ap (drop (w * 512)) behind-groups
      ∙ drop_at ss (roll_part r s.roll) (w * 512) (length-flat (le w) w (length-le w) s.shares ∙ ap (λ (k : ℕ). w * k) f.each)

  whole_back : (r ≡ false → s.roll ≡ roll_array none) → store_in w r whole ≡ s
  unfolding store_in
  whole_back unrolled =
      rw (
        behind-shares,
        roll-right r s.roll,
        roll-back r s.roll unrolled,
        held_back,
        bit-few s.held,
        bit-back s.held,
        field-here 8 s.count behind₀ f.count,
        grouped-back,
      )
      (ap₂ (λ (g h : List ℕ). record { count = s.count; held = s.held; grouped = s.grouped; groups = g; shares = h; roll = s.roll })
      (ap (λ (l : List ℕ). map value (records 8 64 l)) behind-head ∙ numbers-back 8 s.groups behind₃ 64 f.many f.sets)
      (ap (λ (l : List ℕ). map value (records w 512 l)) behind-groups ∙ numbers-back w s.shares (roll_part r s.roll) 512 f.each f.shares))

  -- a store that is written reads back
  pub store-back : (r ≡ false → s.roll ≡ roll_array none) → store_in w r (store_bytes w r s) ≡ s
  store-back unrolled = ap (store_in w r) parts ∙ whole_back unrolled

-- ---- a table

pub length-place : (w : ℕ) (x : Site) → length (place_bytes w x) ≡ place_size w
length-place w x = rw (length-append, length-append, length-le 1, length-le 1, length-le w) (omega arith)

pub place-back : (w : ℕ) (x : Site) → SiteFits w x → place_in w (place_bytes w x) ≡ x
place-back w x (f, g, h) =
    let a = le 1 x.first in
    let b = le 1 x.second in
    let c = le w x.litres in
    rw (
      field-here 1 x.first (b ++ c) f,
      field-behind a (b ++ c) 1 0 1 (length-le 1 x.first) ∙ field-here 1 x.second c g,
      field-behind a (b ++ c) 1 1 w (length-le 1 x.first) ∙ field-behind b c 1 0 w (length-le 1 x.second) ∙ field-last w x.litres h,
    )

-- a place that is read is written again
site-again : (w : ℕ) (r : List ℕ) → length r ≡ place_size w → Bytes r → place_bytes w (place_in w r) ≡ r
site-again w r h b =
    rw (le-field-last r 2 w b h, le-field r 1 1 b (omega arith), le-field r 0 1 b (omega arith))

mul-sub : (k m n : ℕ) → n ≤ m → k * n + k * (m - n) ≡ k * m
mul-sub k m n h = let e : m ≡ n + (m - n) = omega arith in sym (ap (λ (x : ℕ). k * x) e ∙ mul-add k n (m - n))

drop-records : (size n m : ℕ) (s : List ℕ) → n ≤ m → drop n (records size m s) ≡ records size (m - n) (drop (size * n) s)
unfolding records
drop-records size zero m s h = rw (mul-zero, sub-zero)
drop-records size (suc n) zero s h = absurd (not-suc-le-zero h)
drop-records size (suc n) (suc m) s h =
    let e : size * suc n ≡ size + size * n = rw mul-suc (omega arith) in
    let k : suc m - suc n ≡ m - n = omega arith in
    rw (e, k, ← (drop-drop (size * n) size s)) (drop-records size n m (drop size s) (le_of_suc-le-suc h))

records-split : (size n m : ℕ) (s : List ℕ) → n ≤ m → records size m s ≡ records size n s ++ records size (m - n) (drop (size * n) s)
unfolding records
records-split size zero m s h = rw (mul-zero, sub-zero)
records-split size (suc n) zero s h = absurd (not-suc-le-zero h)
records-split size (suc n) (suc m) s h =
    let e : size * suc n ≡ size + size * n = rw mul-suc (omega arith) in
    let k : suc m - suc n ≡ m - n = omega arith in
    rw (e, k, ← (drop-drop (size * n) size s)) (ap (λ (l : List (List ℕ)). take size s ∷ l) (records-split size n m (drop size s) (le_of_suc-le-suc h)))

-- the places of a table
pub places-room : (w : ℕ) (t : List ℕ) → place_size w * places_in w t ≤ length t
places-room w t = mul-div-le (length t) (place_size w)

pub room-places : (w n : ℕ) (t : List ℕ) → place_size w * n ≤ length t → n ≤ places_in w t
room-places w n t h = (le-div_iff_mul-le {k = place_size w} {x = n} {y = length t} (omega arith)).1 (rw mul_comm h)

flat-length : (w : ℕ) (l : List Site) → length (flat_map (place_bytes w) l) ≡ place_size w * length l
flat-length w = length-flat (place_bytes w) (place_size w) (length-place w)

module _ (w n : ℕ) (sites : List Site) (t : List ℕ) (many : n ≤ length sites) (room : place_size w * n ≤ length t) where
  abbrev k : ℕ
  k = place_size w

  abbrev new : List ℕ
  new = flat_map (place_bytes w) (take n sites)

  abbrev places : ℕ
  places = places_in w t

  fewer : n ≤ places
  fewer = room-places w n t room

  new-length : length new ≡ k * n
  new-length = flat-length w (take n sites) ∙ ap (λ (m : ℕ). k * m) (length-take-le n sites many)

  over-is : table_over w (take n sites) t ≡ new ++ drop (k * n) t
  over-is = ap (λ (m : ℕ). new ++ drop m t) new-length

  over-length : length (new ++ drop (k * n) t) ≡ length t
  over-length = rw (length-append, new-length, length-drop) (omega arith)

  -- the places behind those that are written
  behind : drop n (map (place_in w) (records k places t)) ≡ map (place_in w) (records k (places - n) (drop (k * n) t))
  behind = sym (map-drop (place_in w) n (records k places t)) ∙ ap (map (place_in w)) (drop-records k n places t fewer)

  -- sites that are written read back, and the other places as they were
  pub table-back : All (SiteFits w) (take n sites) → sites_in w (table_over w (take n sites) t) ≡ overlay n sites (sites_in w t)
  unfolding sites_in overlay
  table-back fits =
      let l = new ++ drop (k * n) t in
      let front : records k n l ≡ map (place_bytes w) (take n sites) =
      ap (λ (m : ℕ). records k m l) (sym (length-take-le n sites many))
      ∙ records-flat (place_bytes w) k (length-place w) (take n sites) (drop (k * n) t) in
      ap (λ (d : List ℕ). map (place_in w) (records k (length d / k) d)) over-is
      ∙ ap (λ (m : ℕ). map (place_in w) (records k (m / k) l)) over-length
      ∙ ap (map (place_in w)) (records-split k n places l fewer)
      ∙ map-append (place_in w) (records k n l) (records k (places - n) (drop (k * n) l))
      ∙ ap₂ (λ (a b : List Site). a ++ b)
      (ap (map (place_in w)) front ∙ map_back (place_bytes w) (place_in w) (SiteFits w) (place-back w) (take n sites) fits)
      (ap (λ (d : List ℕ). map (place_in w) (records k (places - n) d)) (drop_at new (drop (k * n) t) (k * n) new-length) ∙ sym behind)

  -- the whole table written is those sites written
  pub table-again : Bytes t → table_over w (overlay n sites (sites_in w t)) t ≡ table_over w (take n sites) t
  unfolding sites_in overlay
  table-again bytes =
      let rest = map (place_in w) (records k (places - n) (drop (k * n) t)) in
      let all : flat_map (place_bytes w) (take n sites ++ drop n (map (place_in w) (records k places t))) ≡ new ++ flat_map (place_bytes w) rest =
      flat_append (place_bytes w) (take n sites) (drop n (map (place_in w) (records k places t)))
      ∙ ap (λ (l : List Site). new ++ flat_map (place_bytes w) l) behind in
      let size : length (flat_map (place_bytes w) rest) ≡ k * (places - n) =
      flat-length w rest
      ∙ ap (λ (m : ℕ). k * m) (length-map (records k (places - n) (drop (k * n) t)) (place_in w) ∙ length-records k (places - n) (drop (k * n) t)) in
      ap (λ (p : List ℕ). onto p t) all
      ∙ ap (λ (m : ℕ). (new ++ flat_map (place_bytes w) rest) ++ drop m t) (length-append new (flat_map (place_bytes w) rest) ∙ ap₂ (λ (a b : ℕ). a + b) new-length size)
      ∙ append_assoc new (flat_map (place_bytes w) rest) (drop (k * n + k * (places - n)) t)
      ∙ ap (λ (d : List ℕ). new ++ (flat_map (place_bytes w) rest ++ d)) (sym (drop-drop (k * (places - n)) (k * n) t))
      ∙ ap (λ (d : List ℕ). new ++ d)
      (flat-records (place_bytes w) k (place_in w) (λ (r : List ℕ). false) (λ r h b e. site-again w r h b) (places - n) (drop (k * n) t)
      (rw length-drop (rest-room)) (bytes_drop (k * n) t bytes)
      (all_from (λ (r : List ℕ). ◌≡◌ {A = Bool} false false) [] (records k (places - n) (drop (k * n) t)) (λ i l. refl)))
      ∙ sym over-is
    where
      rest-room : k * (places - n) ≤ length t - k * n
      rest-room = omega (arith, mul-sub k places n fewer, places-room w t)

-- ---- the front of a store that is written

regroup : (w : ℕ) (s : Store) {b : ℕ} → b ≡ cond s.held 1 0
    → (((([] ++ le 8 s.count) ++ le 8 b) ++ le 8 s.grouped) ++ flat_map (le 8) s.groups) ++ flat_map (le w) s.shares ≡ front_bytes w s
unfolding front_bytes
regroup w s e = rw e (simp append_assoc)

pub front-put : (w : ℕ) (s : Store) {d out : List ℕ} {b k : ℕ} → b ≡ cond s.held 1 0
    → Front ((((([] ++ le 8 s.count) ++ le 8 b) ++ le 8 s.grouped) ++ flat_map (le 8) s.groups) ++ flat_map (le w) s.shares) d out k → PutFront w s d out
front-put w s {d} e front = front.is ∙ ap (λ (p : List ℕ). onto p d) (regroup w s e)

-- ---- a store that is read is written again

bit-again : (x : ℕ) → leb x 1 ≡ true → cond (eqb x 1) 1 0 ≡ x
bit-again zero h = refl
bit-again (suc zero) h = refl
bit-again (suc (suc x)) h = let k = leb-true (suc (suc x)) 1 h in absurd (omega arith)

number-again : (w : ℕ) (r : List ℕ) → length r ≡ w → Bytes r → le w (value r) ≡ r
number-again w r h b = ap (λ (k : ℕ). le k (value r)) (sym h) ∙ le-value r b

roll-again : (r : Bool) (t : List ℕ) → length t ≡ cond r 72 0 → Bytes t → roll_wrong r t ≡ false → roll_part r (roll_behind r t) ≡ t
roll-again true t long b h =
    let few : field t 0 8 ≤ 1 = ltb-false 1 (field t 0 8) h in
    rw (bit-again (field t 0 8) (le-leb (field t 0 8) 1 few), le-field t 0 8 b (omega arith))
roll-again false [] long b h = refl
roll-again false (x ∷ t) long b h = let z : ⊥ = omega arith in absurd z

module _ (w : ℕ) (r : Bool) (s : List ℕ) (long : length s ≡ store_size w r) (b : Bytes s) where
  no_test : (rs : List (List ℕ)) → All (λ (r : List ℕ). ◌≡◌ {A = Bool} false false) rs
  no_test rs = all_from (λ (r : List ℕ). ◌≡◌ {A = Bool} false false) [] rs (λ i l. refl)

  groups-again : flat_map (le 8) (numbers 8 64 24 s) ++ drop 536 s ≡ drop 24 s
  groups-again =
      ap (λ (l : List ℕ). flat_map (le 8) (numbers 8 64 24 s) ++ l) (sym (drop-drop 512 24 s))
      ∙ flat-records (le 8) 8 value (λ (r : List ℕ). false) (λ r h b e. number-again 8 r h b) 64 (drop 24 s) (rw length-drop (omega arith)) (bytes_drop 24 s b)
      (no_test (records 8 64 (drop 24 s)))

  shares-again : flat_map (le w) (numbers w 512 536 s) ++ drop (front_size w) s ≡ drop 536 s
  shares-again =
      ap (λ (l : List ℕ). flat_map (le w) (numbers w 512 536 s) ++ l) (sym (drop-drop (w * 512) 536 s))
      ∙ flat-records (le w) w value (λ (r : List ℕ). false) (λ r h b e. number-again w r h b) 512 (drop 536 s) (rw length-drop (omega arith)) (bytes_drop 536 s b)
      (no_test (records w 512 (drop 536 s)))

  -- what stands behind the front, where its number is 0 or 1
  pub last-again : roll_wrong r (drop (front_size w) s) ≡ false → roll_part r (roll_behind r (drop (front_size w) s)) ≡ drop (front_size w) s
  last-again = roll-again r (drop (front_size w) s) (rw length-drop (omega arith)) (bytes_drop (front_size w) s b)

  pub store-again : leb (field s 8 8) 1 ≡ true → roll_wrong r (drop (front_size w) s) ≡ false → store_bytes w r (store_in w r s) ≡ s
  unfolding front_bytes store_in
  store-again h z =
      rw (
        h,
        z,
        bit-again (field s 8 8) h,
        last-again z,
        append_assoc,
        append_assoc,
        append_assoc,
        append_assoc,
        shares-again,
        groups-again,
        le-field s 16 8 b (omega arith),
        le-field s 8 8 b (omega arith),
        le-field s 0 8 b (omega arith),
      )

-- ---- a store whose front and whose roll are written apart

pub all-over : (p d : List ℕ) → length p ≡ length d → onto p d ≡ p
all-over p d h = rw (drop_of_length-le d {i = length p} (omega arith)) (append-nil p)

module _ (w : ℕ) (r : Bool) (s : Store) (many : length s.groups ≡ 64) (each : length s.shares ≡ 512)
    (fit : ((i : ℕ) → get_or s.shares i 0 < 256 ^ w) → StoreFits w s) (first : List ℕ) (long : length first ≡ store_size w r) {last : List ℕ} where
  store_is : last ≡ store_bytes w r s → PutStore w r s last
  store_is is = record { bytes = is; reads = λ fits unrolled. ap (store_in w r) is ∙ store-back w r s (fit fits) unrolled }

  -- the roll is written behind the front
  pub put_both : length s.roll.crews ≡ 64 → {front : List ℕ} → PutFront w s first front → last ≡ place (front_size w) (roll_part r s.roll) front → PutStore w r s last
  put_both crews {front} f l =
      let p = front_bytes w s in
      let q = roll_part r s.roll in
      let size : length (p ++ q) ≡ length first = length-store w r s many each crews ∙ sym long in
      store_is (l ∙ ap (place (front_size w) q) f ∙ place-onto (front_size w) p q first (length_front w s many each) ∙ all-over (p ++ q) first size)

  -- what stands behind the front is as it was
  pub put-over : PutFront w s first last → drop (front_size w) first ≡ roll_part r s.roll → PutStore w r s last
  put-over f e = store_is (f ∙ ap (λ (n : ℕ). front_bytes w s ++ drop n first) (length_front w s many each) ∙ ap (λ (t : List ℕ). front_bytes w s ++ t) e)

  -- that is the roll read, where its number is 0 or 1
  pub put-kept : Bytes first → roll_wrong r (drop (front_size w) first) ≡ false → s.roll ≡ roll_behind r (drop (front_size w) first) → PutFront w s first last → PutStore w r s last
  put-kept b z e f = put-over f (sym (ap (roll_part r) e ∙ last-again w r first long b z))

  -- or nothing, where the edition has no rolls
  pub put_front : r ≡ false → PutFront w s first last → PutStore w r s last
  put_front e f =
      put-over f
      (drop_of_length-le first {i = front_size w} (omega (arith, long ∙ ap (store_size w) e)) ∙ sym (ap (λ (b : Bool). roll_part b s.roll) e))

-- a roll that is written stands behind the front
pub roll-behind : (w : ℕ) (o : RollArray) (d : List ℕ) → length d ≡ store_size w true → length o.crews ≡ 64
    → drop (front_size w) (place (front_size w) (roll_part true o) d) ≡ roll_part true o
roll-behind w o d long crews =
    let q = roll_part true o in
    let rest : drop (front_size w + length q) d ≡ [] = drop_of_length-le d {i = front_size w + length q} (omega (arith, long, length-roll true o crews)) in
    drop_at (take (front_size w) d) (q ++ drop (front_size w + length q) d) (front_size w) (length-take-le (front_size w) d (omega (arith, long)))
    ∙ ap (λ (t : List ℕ). q ++ t) rest
    ∙ append-nil q
