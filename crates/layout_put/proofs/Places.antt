-- Laws of places that are written: one site written alone, the first sites, and zeros. Assumes nothing.
use Prim.Native.Nat.{ℕ, zero, suc, ◌+◌, ◌*◌, ◌-◌, ◌/◌, ◌<◌, ◌≤◌, ◌^◌}
use mathlib.Core.List.{List, [], ◌∷◌, ◌++◌, append_assoc, flat_map, map}
use mathlib.Core.Path.{◌≡◌, refl, ap, ap₂, sym, ◌∙◌}
use native.Mathlib.Nat.{mul-suc, mul-zero, zero-add, suc-add, add_assoc, not-suc-le-zero, le_of_suc-le-suc}
use native.Mathlib.Numerals.{add-one}
use native.Mathlib.Omega.{arith}
use borrow.Rule.Slice.PartMut.{put_mid}
use lib.Dec.{lit<}
use lib.ListN.{length, take, drop, get_or, set, replicate, length-drop, length-replicate, length-set}
use lib.Seq.{drop_at, take_at, drop-drop, length-take-le, take-add, take-set-le, get_or-set_same}
use Rattle.density.specs.declared.Site.{Site}
use Rattle.density.specs.Network.{no_site}
use Rattle.records.specs.Bytes.{Bytes, le}
use Rattle.records.specs.declared.RollArray.{RollArray}
use Rattle.records.specs.Record.{records}
use Rattle.records.specs.Write.{place, onto, All}
use Rattle.records.proofs.Records.{zeros, mul-room}
use Rattle.records.proofs.Buffers.{Front, run_step, length-place}
use Rattle.table.proofs.Overlay.{overlay-none, overlay-same, overlay-set}
use Rattle.store.specs.State.{bare}
use Rattle.layout.specs.Layout.{place_size, places_in, front_bytes, place_bytes, place_in, sites_in, table_over, StoreFits, SiteFits}
use Rattle.layout.proofs.Reading.{length-sites}
use Rattle.layout_put.specs.Put.{PutFront, PutSites}
use Rattle.layout_put.proofs.RoundTrip.{place-back, length-place as length-bytes, places-room, table-back, table-again}

-- ---- one site written alone

place-more : (k j : ℕ) (p t : List ℕ) → place (k + j) p t ≡ take k t ++ place j p (drop k t)
place-more k j p t =
    rw (take-add k j t, append_assoc, add_assoc, ← (drop-drop (j + length p) k t))

records-place : (size i n : ℕ) (p t : List ℕ) → i < n → length p ≡ size → size * n ≤ length t → records size n (place (size * i) p t) ≡ set (records size n t) i p
unfolding records
records-place size i zero p t h e l = absurd (not-suc-le-zero h)
records-place size zero (suc n) p t h e l =
    let k : 0 + size ≡ size = omega arith in
    rw (mul-zero, take_at p (drop (0 + length p) t) size e, drop_at p (drop (0 + length p) t) size e, e, k)
records-place size (suc i) (suc n) p t h e l =
    let m : size * suc i ≡ size + size * i = rw mul-suc (omega arith) in
    let m₂ : size * suc n ≡ size + size * n = rw mul-suc (omega arith) in
    let long : length (take size t) ≡ size = length-take-le size t (omega (arith, m₂)) in
    rw (m, place-more size (size * i) p t, take_at (take size t) (place (size * i) p (drop size t)) size long, drop_at (take size t) (place (size * i) p (drop size t)) size long)
    (ap (λ (r : List (List ℕ)). take size t ∷ r) (records-place size i n p (drop size t) (le_of_suc-le-suc h) e (rw length-drop (omega (arith, m₂)))))

map-set : {A B : Type 0} (f : A → B) (l : List A) (i : ℕ) (x : A) → map f (set l i x) ≡ set (map f l) i (f x)
map-set f [] i x = refl
map-set f (y ∷ l) zero x = refl
map-set {B = B} f (y ∷ l) (suc i) x = ap (λ (r : List B). f y ∷ r) (map-set f l i x)

-- it reads back, and the other places as they were
pub site-back : (w : ℕ) (t : List ℕ) (i : ℕ) (x : Site) → i < places_in w t → x.first < 256 → x.second < 256 → x.litres < 256 ^ w
    → sites_in w (place (place_size w * i) (place_bytes w x) t) ≡ set (sites_in w t) i x
unfolding sites_in
site-back w t i x h a b c =
    let k = place_size w in
    let p = place_bytes w x in
    let room : k * i + length p ≤ length t = omega (arith, mul-room k h, places-room w t, length-bytes w x) in
    ap (λ (m : ℕ). map (place_in w) (records k (m / k) (place (k * i) p t))) (length-place (k * i) p t room)
    ∙ ap (map (place_in w)) (records-place k i (places_in w t) p t h (length-bytes w x) (places-room w t))
    ∙ map-set (place_in w) (records k (places_in w t) t) i p
    ∙ ap (set (map (place_in w) (records k (places_in w t) t)) i) (place-back w x (a, b, c))

-- the whole table written again
pub table_same : (w : ℕ) (t : List ℕ) → Bytes t → table_over w (sites_in w t) t ≡ t
unfolding flat_map
table_same w t b = ap (λ (l : List Site). table_over w l t) (sym (overlay-none [] (sites_in w t))) ∙ table-again w 0 [] t (omega arith) (omega arith) b

-- it is the table with that site written whole
pub site-over : (w : ℕ) (t : List ℕ) (i : ℕ) (x : Site) → Bytes t → i < places_in w t → place (place_size w * i) (place_bytes w x) t ≡ table_over w (set (sites_in w t) i x) t
site-over w t i x b h =
    let k = place_size w in
    let old = sites_in w t in
    let new = set old i x in
    let long : length old ≡ places_in w t = length-sites w t in
    let many : length new ≡ places_in w t = length-set old i x ∙ long in
    let front : onto (flat_map (place_bytes w) (take i new)) t ≡ t =
    ap (λ (l : List Site). table_over w l t) (take-set-le i old i x (omega arith))
    ∙ sym (table-again w i old t (omega (arith, long)) (omega (arith, mul-room k h, places-room w t)) b)
    ∙ ap (λ (l : List Site). table_over w l t) (overlay-same i old old refl) ∙ table_same w t b in
    ap₂ (λ (y : Site) (d : List ℕ). place (k * i) (place_bytes w y) d) (sym (get_or-set_same old i x no_site (omega (arith, long)))) (sym front)
    ∙ run_step (place_bytes w) k (length-bytes w) new t i no_site (omega (arith, many))
    ∙ sym (table-again w (i + 1) new t (omega (arith, many)) (rw (add-one, mul-suc) (omega (arith, mul-room k h, places-room w t))) b)
    ∙ ap (λ (l : List Site). table_over w l t) (overlay-set (i + 1) old old i x (omega arith) refl)

-- ---- the first sites written

pub sites-put : (w n : ℕ) (sites : List Site) (t last : List ℕ) → length sites ≡ 512 → n ≤ 512 → place_size w * n ≤ length t
    → (((i : ℕ) → i < n → (get_or sites i no_site).litres < 256 ^ w) → All (SiteFits w) (take n sites)) → last ≡ table_over w (take n sites) t → PutSites w n sites t last
sites-put w n sites t last many few room fit is =
    record {
      bytes = is;
      reads = λ fits. ap (sites_in w) is ∙ table-back w n sites t (omega arith) room (fit fits);
      many = many;
    }

-- ---- zeros

pub length-zeros : (k : ℕ) → length (zeros k) ≡ k
length-zeros k = length-replicate k 0

pub zero-at : (k i : ℕ) → ◌≡◌ {A = ℕ} (get_or (replicate k 0) i 0) 0
zero-at zero i = refl
zero-at (suc k) zero = refl
zero-at (suc k) (suc i) = zero-at k i

zeros-add : (m n : ℕ) → zeros m ++ zeros n ≡ zeros (m + n)
zeros-add zero n = rw zero-add
zeros-add (suc m) n = rw suc-add (ap (λ (l : List ℕ). 0 ∷ l) (zeros-add m n))

le-zero : (w : ℕ) → le w 0 ≡ replicate w 0
unfolding le
le-zero zero = refl
le-zero (suc w) = ap (λ (l : List ℕ). 0 ∷ l) (le-zero w)

flat-zero : (w n : ℕ) → flat_map (le w) (replicate n 0) ≡ replicate (w * n) 0
unfolding flat_map
flat-zero w zero = rw mul-zero
flat-zero w (suc n) =
    let m : w * suc n ≡ w + w * n = rw mul-suc (omega arith) in
    ap₂ (λ (a b : List ℕ). a ++ b) (le-zero w) (flat-zero w n) ∙ zeros-add w (w * n) ∙ ap (λ (k : ℕ). replicate k 0) (sym m)

-- a store that holds no plan is its count and zeros
bare-bytes : (w n : ℕ) (roll : RollArray) → front_bytes w (bare n roll) ≡ le 8 n ++ replicate (528 + w * 512) 0
unfolding front_bytes
bare-bytes w n roll =
    let e : 8 + (8 + (8 * 64 + w * 512)) ≡ 528 + w * 512 = omega arith in
    ap (λ (l : List ℕ). le 8 n ++ l)
    (ap₂ (λ (a b : List ℕ). a ++ b) (le-zero 8)
    (ap₂ (λ (a b : List ℕ). a ++ b) (le-zero 8)
    (ap₂ (λ (a b : List ℕ). a ++ b) (flat-zero 8 64) (flat-zero w 512) ∙ zeros-add (8 * 64) (w * 512)) ∙ zeros-add 8 (8 * 64 + w * 512)) ∙ zeros-add 8 (8 + (8 * 64 + w * 512)) ∙ ap (λ (k : ℕ). replicate k 0) e)

-- a part `&mut d[at..end]` that comes back cleared
pub cleared : (at end : ℕ) (d : List ℕ) {ys : List ℕ} → at ≤ end → end ≤ length d → ys ≡ zeros (length (take (end - at) (drop at d)))
    → put_mid at (end - at) d ys ≡ place at (zeros (end - at)) d
cleared at end d l h e =
    let k : end - at ≤ length (drop at d) = rw length-drop (omega arith) in
    rw (e, length-take-le (end - at) (drop at d) k, drop-drop, length-zeros)

-- a store of n sites that holds no plan, and whatever roll behind it
pub bare-put : (w n : ℕ) (roll : RollArray) {d out : List ℕ} {m k : ℕ} → m ≡ 528 + w * 512 → Front (([] ++ le 8 n) ++ zeros m) d out k → PutFront w (bare n roll) d out
bare-put w n roll {d} e front = front.is ∙ ap (λ (j : ℕ). onto (le 8 n ++ replicate j 0) d) e ∙ ap (λ (p : List ℕ). onto p d) (sym (bare-bytes w n roll))

pub bare-fits : (w n : ℕ) (roll : RollArray) → n < 256 ^ 8 → ((i : ℕ) → get_or (bare n roll).shares i 0 < 256 ^ w) → StoreFits w (bare n roll)
bare-fits w n roll small fits =
    record {
      count = small;
      grouped = lit< tt;
      many = length-zeros 64;
      sets = λ i. rw zero-at (lit< tt);
      each = length-zeros 512;
      shares = fits;
    }
