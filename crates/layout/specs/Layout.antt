-- The desk's store and its table as bytes that the caller lends, by the width of a share and of a site's litres and by whether the edition has rolls. Document 01: "stored numbers are unsigned, low byte first".
use Rattle.std.specs.Prelude.{◌≡◌, Bool, true, false, cond, not, ◌&&◌, ℕ, ◌+◌, ◌*◌, ◌/◌, ◌%◌, ◌<◌, ◌≤◌, ◌^◌, eqb, leb, ltb, length, take, drop, get_or, replicate}
use mathlib.Core.List.{List, [], ◌++◌, map, flat_map}
use Rattle.std.proofs.Math.Option.{none}
use Rattle.density.specs.declared.Site.{Site}
use Rattle.records.specs.Bytes.{le, value, field}
use Rattle.records.specs.Record.{records}
use Rattle.records.specs.declared.RollArray.{RollArray}
use Rattle.records.specs.Values.{roll_array}
use Rattle.records.specs.Write.{onto}
use Rattle.held_state.specs.declared.Store.{Store}
use Rattle.layout.specs.declared.Header.{Header}

-- A store: the number of sites (8), whether a plan is held (8; 0 or 1), the number of groups (8), "its 64 places for groups" (8 each) and "512 places for
-- shares", w bytes each. Document 02, g, where the edition has rolls: behind these whether there is a roll (8; 0 or 1), and a byte for each depot. That is 2,584 bytes in
-- edition 1 and 4,704 in edition 2.
abbrev pub front_size : ℕ → ℕ
front_size w = 536 + w * 512

abbrev pub store_size : ℕ → Bool → ℕ
store_size w r = front_size w + cond r 72 0

unfoldable pub front_bytes : ℕ → Store → List ℕ
front_bytes w s =
    le 8 s.count
    ++ (le 8 (cond s.held 1 0)
    ++ (le 8 s.grouped
    ++ (flat_map (le 8) s.groups
    ++ flat_map (le w) s.shares)))

abbrev pub roll_part : Bool → RollArray → List ℕ
roll_part true roll = le 8 (cond roll.there 1 0) ++ roll.crews
roll_part false roll = []

abbrev pub store_bytes : ℕ → Bool → Store → List ℕ
store_bytes w r s = front_bytes w s ++ roll_part r s.roll

-- the figures of a store have the widths of its bytes
pub record StoreFits (w : ℕ) (s : Store) : Type 0 where
  pub count : s.count < 256 ^ 8
  pub grouped : s.grouped < 256 ^ 8
  pub many : length s.groups ≡ 64
  pub sets : (i : ℕ) → get_or s.groups i 0 < 256 ^ 8
  pub each : length s.shares ≡ 512
  pub shares : (i : ℕ) → get_or s.shares i 0 < 256 ^ w

-- the n numbers of w bytes each from a place of s on
abbrev pub numbers : ℕ → ℕ → ℕ → List ℕ → List ℕ
numbers w n at s = map value (records w n (drop at s))

-- the roll or none that stands behind the front of a store; without rolls there is none
abbrev pub roll_behind : Bool → List ℕ → RollArray
roll_behind true t = record { there = eqb (field t 0 8) 1; crews = drop 8 t }
roll_behind false t = roll_array none

abbrev pub roll_wrong : Bool → List ℕ → Bool
roll_wrong true t = ltb 1 (field t 0 8)
roll_wrong false t = false

abbrev pub store_at : ℕ → Bool → List ℕ → Store
store_at w r s =
    record {
      count = field s 0 8;
      held = eqb (field s 8 8) 1;
      grouped = field s 16 8;
      groups = numbers 8 64 24 s;
      shares = numbers w 512 536 s;
      roll = roll_behind r (drop (front_size w) s);
    }

abbrev pub is_sized : ℕ → Bool → List ℕ → Bool
is_sized w r s = eqb (length s) (store_size w r)

-- Bytes whose held number, or whose roll's, is neither 0 nor 1 read as a store that row 0 refuses.
abbrev pub no_store : Store
no_store = record { count = 513; held = false; grouped = 0; groups = replicate 64 0; shares = replicate 512 0; roll = roll_array none }

-- the first words of such a store
abbrev pub no_header : Header
no_header = record { count = 513; held = false; grouped = 0; roll = roll_array none }

unfoldable pub store_in : ℕ → Bool → List ℕ → Store
store_in w r s = cond (leb (field s 8 8) 1 && not (roll_wrong r (drop (front_size w) s))) (store_at w r s) no_store

-- A place of a table: first depot (1), second depot (1), litres (w). Bytes behind the last whole place belong to no place.
abbrev pub place_size : ℕ → ℕ
place_size w = 2 + w

abbrev pub place_bytes : ℕ → Site → List ℕ
place_bytes w x = le 1 x.first ++ (le 1 x.second ++ le w x.litres)

abbrev pub place_in : ℕ → List ℕ → Site
place_in w r = record { first = field r 0 1; second = field r 1 1; litres = field r 2 w }

-- the figures of a site have the widths of its bytes
abbrev pub SiteFits : ℕ → Site → Type 0
SiteFits w x = (x.first < 256 ^ 1) × (x.second < 256 ^ 1) × (x.litres < 256 ^ w)

-- the site of a place whose bytes are this number
abbrev pub site_of_number : ℕ → Site
site_of_number b = record { first = b % 256; second = b / 256 % 256; litres = b / 65536 }

abbrev pub places_in : ℕ → List ℕ → ℕ
places_in w t = length t / place_size w

unfoldable pub sites_in : ℕ → List ℕ → List Site
sites_in w t = map (place_in w) (records (place_size w) (places_in w t) t)

-- the bytes of a table whose places have these sites
abbrev pub table_over : ℕ → List Site → List ℕ → List ℕ
table_over w sites t = onto (flat_map (place_bytes w) sites) t

-- What is read of a store: its first words, its roll or none, and as many groups and shares as they say; the places behind these are as they were.
pub record StoreRead (w : ℕ) (rolls : Bool) (s gs₀ ss₀ : List ℕ) (r : Header) (gs ss : List ℕ) : Type 0 where
  pub count : r.count ≡ (store_in w rolls s).count
  pub held : r.held ≡ (store_in w rolls s).held
  pub grouped : r.grouped ≡ (store_in w rolls s).grouped
  pub roll : r.roll ≡ (store_in w rolls s).roll
  pub groups : r.grouped ≤ 64 → take r.grouped gs ≡ take r.grouped (store_in w rolls s).groups
  pub shares : r.count ≤ 512 → take r.count ss ≡ take r.count (store_in w rolls s).shares
  pub groups-behind : r.grouped ≤ 64 → drop r.grouped gs ≡ drop r.grouped gs₀
  pub shares-behind : r.count ≤ 512 → drop r.count ss ≡ drop r.count ss₀
