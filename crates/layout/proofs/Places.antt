-- Laws of one place: its bytes as one number, one site read alone, and numbers read one by one. Assumes nothing.
use Prim.Native.Nat.{ℕ, suc, ◌+◌, ◌*◌, ◌-◌, ◌/◌, ◌%◌, ◌<◌, ◌≤◌, ◌^◌}
use mathlib.Core.List.{List}
use mathlib.Core.Path.{◌≡◌, ap, sym, ◌∙◌}
use native.Mathlib.Nat.{mul-div-le, add-zero}
use native.Mathlib.Omega.{arith}
use lib.ListN.{length, take, drop, get_or, length-take}
use Rattle.density.specs.Network.{no_site}
use Rattle.records.specs.Bytes.{Bytes, value, Value, field}
use Rattle.records.specs.Record.{records}
use Rattle.records.proofs.Bytes.{value-below, bytes_take, bytes_drop, field-first, field-part, field-small}
use Rattle.records.proofs.Records.{length-records, records-from, mul-room}
use Rattle.layout.specs.Layout.{place_size, places_in, numbers, place_in, site_of_number, sites_in}
use Rattle.layout.proofs.Reading.{map_at, site-here}

-- ---- numbers

-- the i-th number, read at its place
pub number-here : (w from : ℕ) {i n y : ℕ} (s : List ℕ) → i < n → Value (take w (drop (from + w * i) s)) y → y ≡ get_or (numbers w n from s) i 0
number-here w from {i} {n} s h r =
    r.is ∙ ap value (sym (records-from w from s h))
    ∙ sym (map_at value (records w n (drop from s)) i 0 (rw length-records h))

-- ---- a place's bytes as one number

module _ (w at : ℕ) (t : List ℕ) (b : Bytes t) (l : at + place_size w ≤ length t) where
  abbrev part : List ℕ
  part = take (place_size w) (drop at t)

  parts : field t at (place_size w) ≡ field part 0 1 + 256 * (field part 1 1 + 256 * field part 2 w)
  parts =
      let k : 2 + w ≡ suc (suc w) = omega arith in
      let k₁ : suc at ≡ at + 1 = omega arith in
      let k₂ : suc (at + 1) ≡ at + 2 = omega arith in
      let e₀ = field-first t at (suc w) (omega arith) in
      let e₁ = field-first t (at + 1) w (omega arith) in
      rw (field-part t at (place_size w) 0 1 (omega arith), field-part t at (place_size w) 1 1 (omega arith), field-part t at (place_size w) 2 w (omega arith), add-zero at, k)
      (rw (k₁, e₁, k₂) at e₀)

  bytes : Bytes part
  bytes = bytes_take (place_size w) (drop at t) (bytes_drop at t b)

  first-is : field t at (place_size w) % 256 ≡ field part 0 1
  first-is = omega (arith, parts, field-small part 0 1 bytes)

  second_is : field t at (place_size w) / 256 % 256 ≡ field part 1 1
  second_is = omega (arith, parts, field-small part 0 1 bytes, field-small part 1 1 bytes)

  litres-is : field t at (place_size w) / 65536 ≡ field part 2 w
  litres-is = omega (arith, parts, field-small part 0 1 bytes, field-small part 1 1 bytes)

  site-is : site_of_number (field t at (place_size w)) ≡ place_in w part
  site-is j = record { first = first-is j; second = second_is j; litres = litres-is j }

pub place_read : (w size at : ℕ) (t : List ℕ) {x : ℕ} → size ≡ place_size w → Bytes t → at + size ≤ length t → Value (take size (drop at t)) x
    → site_of_number x ≡ place_in w (take (place_size w) (drop at t))
place_read w size at t e b l v = ap site_of_number (v.is ∙ ap (field t at) e) ∙ site-is w at t b (omega (arith, e))

-- it is below the bound of 6 bytes
pub place-small : (size : ℕ) (r : List ℕ) {x : ℕ} → size ≤ 6 → Value (take size r) x → x < 2 ^ 48
place-small size r h v = value-below 6 (rw length-take (omega arith)) v

pub places-by : (size : ℕ) (t : List ℕ) → 2 ≤ size → places_in (size - 2) t ≡ length t / size
places-by size t h = let e : place_size (size - 2) ≡ size = omega arith in ap (λ (k : ℕ). length t / k) e

pub place-room : (size i : ℕ) (t : List ℕ) → i < length t / size → size * i + size ≤ length t
place-room size i t h = omega (arith, mul-room size h, mul-div-le (length t) size)

-- the site at the i-th place
pub site-at : (size at i : ℕ) (t : List ℕ) {x : ℕ} → 2 ≤ size → Bytes t → i < length t / size → at ≡ size * i → Value (take size (drop at t)) x
    → site_of_number x ≡ get_or (sites_in (size - 2) t) i no_site
site-at size at i t h b l e v =
    let k : size ≡ place_size (size - 2) = omega arith in
    place_read (size - 2) size at t k b (omega (arith, e, place-room size i t l)) v
    ∙ ap (λ (j : ℕ). place_in (size - 2) (take (place_size (size - 2)) (drop j t))) (e ∙ ap (λ (m : ℕ). m * i) k)
    ∙ sym (site-here (size - 2) t i (rw (places-by size t h) l))
