-- Laws of a table and of a store that are read, over the width. Assumes nothing.
use Prim.Native.Nat.{ℕ, zero, suc, ◌+◌, ◌*◌, ◌<◌, ◌≤◌, min}
use mathlib.Core.Bool.{Bool, true, false, cond, ◌&&◌}
use mathlib.Core.List.{List, [], ◌∷◌, ◌++◌, map}
use mathlib.Core.Path.{◌≡◌, refl, ap, sym, ◌∙◌}
use native.Mathlib.Nat.{le_of_suc-le-suc, not-suc-le-zero}
use native.Mathlib.Omega.{arith}
use borrow.Author.Tests.{le-leb, lt-leb}
use lib.Dec.{eqb, leb}
use lib.ListN.{length, take, drop, get_or, length-map}
use lib.Seq.{take_at, drop_at}
use Rattle.density.specs.Network.{no_site}
use Rattle.records.specs.Bytes.{value, Value, field}
use Rattle.records.specs.Record.{records}
use Rattle.records.specs.declared.RollArray.{RollArray}
use Rattle.records.proofs.Records.{records-at, length-records}
use Rattle.table.proofs.Overlay.{map-take}
use Rattle.held_state.specs.declared.Store.{Store}
use Rattle.layout.specs.declared.Header.{Header}
use Rattle.layout.specs.Layout.{front_size, roll_behind, roll_wrong, place_size, places_in, numbers, store_at, no_store, store_in, place_in, sites_in, StoreRead, no_header}

pub map_at : {A B : Type 0} (f : List A → B) (rs : List (List A)) (i : ℕ) (z : B) → i < length rs → get_or (map f rs) i z ≡ f (get_or rs i [])
map_at f [] i z h = absurd (not-suc-le-zero h)
map_at f (x ∷ rs) zero z h = refl
map_at f (x ∷ rs) (suc i) z h = map_at f rs i z (le_of_suc-le-suc h)

-- ---- a table that is read

pub length-sites : (w : ℕ) (t : List ℕ) → length (sites_in w t) ≡ places_in w t
unfolding sites_in
length-sites w t = length-map (records (place_size w) (places_in w t) t) (place_in w) ∙ length-records (place_size w) (places_in w t) t

pub site-here : (w : ℕ) (t : List ℕ) (i : ℕ) → i < places_in w t → get_or (sites_in w t) i no_site ≡ place_in w (take (place_size w) (drop (place_size w * i) t))
unfolding sites_in
site-here w t i h =
    map_at (place_in w) (records (place_size w) (places_in w t) t) i no_site (rw length-records h)
    ∙ ap (place_in w) (records-at (place_size w) t h)

-- ---- a store that is read

not-held : (w : ℕ) (r : Bool) (s : List ℕ) {x : ℕ} → Value (take 8 (drop 8 s)) x → 1 < x → store_in w r s ≡ no_store
unfolding store_in
not-held w r s v h = let k : leb (field s 8 8) 1 ≡ false = lt-leb (field s 8 8) 1 (omega (arith, v.is)) in rw k

not-rolled : (w : ℕ) (r : Bool) (s : List ℕ) → roll_wrong r (drop (front_size w) s) ≡ true → store_in w r s ≡ no_store
unfolding store_in
not-rolled w r s h = rw h (by (leb (field s 8 8) 1))
  where
    by : (b : Bool) → cond (b && false) (store_at w r s) no_store ≡ no_store
    by true = refl
    by false = refl

is_held : (w : ℕ) (r : Bool) (s : List ℕ) {x : ℕ} → Value (take 8 (drop 8 s)) x → x ≤ 1 → roll_wrong r (drop (front_size w) s) ≡ false → store_in w r s ≡ store_at w r s
unfolding store_in
is_held w r s v l z = let k : leb (field s 8 8) 1 ≡ true = le-leb (field s 8 8) 1 (omega (arith, v.is)) in rw (k, z)

-- where the edition has rolls, there is room for one
pub rolls-room : (at : ℕ) (s : List ℕ) {r : Bool} → r ≡ true → length s ≡ at + cond r 72 0 → length s ≡ at + 72
rolls-room at s e h = h ∙ ap (λ (b : Bool). at + cond b 72 0) e

take-records : (size n m : ℕ) (s : List ℕ) → n ≤ m → take n (records size m s) ≡ records size n s
unfolding records
take-records size zero m s h = refl
take-records size (suc n) zero s h = absurd (not-suc-le-zero h)
take-records size (suc n) (suc m) s h = ap (λ (l : List (List ℕ)). take size s ∷ l) (take-records size n m (drop size s) (le_of_suc-le-suc h))

-- the first numbers, where as many are read
take-numbers : (w n m at : ℕ) (s : List ℕ) → n ≤ m → take n (numbers w m at s) ≡ numbers w n at s
take-numbers w n m at s h = sym (map-take value n (records w m (drop at s))) ∙ ap (map value) (take-records w n m (drop at s) h)

pub length-numbers : (w n at : ℕ) (s : List ℕ) → length (numbers w n at s) ≡ n
length-numbers w n at s = length-map (records w n (drop at s)) value ∙ length-records w n (drop at s)

-- as many numbers as are asked for, and no more than there are places, are read in front of what stood behind them
module _ (w c m at : ℕ) (s ys old : List ℕ) {k j : ℕ} (e : k ≡ min c m) (f : j ≡ k) (g : ys ≡ numbers w j at s) (h : c ≤ m) where
  all_read : ys ≡ numbers w c at s
  all_read = let n : j ≡ c = omega (arith, e, f, h) in g ∙ ap (λ (i : ℕ). numbers w i at s) n

  as_many : length ys ≡ c
  as_many = ap length all_read ∙ length-numbers w c at s

  pub front_read : take c (ys ++ drop k old) ≡ take c (numbers w m at s)
  front_read = take_at ys (drop k old) c as_many ∙ all_read ∙ sym (take-numbers w c m at s h)

  pub behind-kept : drop c (ys ++ drop k old) ≡ drop c old
  behind-kept = let n : k ≡ c = omega (arith, e, h) in drop_at ys (drop k old) c as_many ∙ ap (λ (i : ℕ). drop i old) n

pub store-read : (w : ℕ) (r : Bool) (s : List ℕ) {x n g : ℕ} {gs₀ ss₀ gs ss : List ℕ} {o : RollArray} → Value (take 8 (drop 8 s)) x → x ≤ 1 → roll_wrong r (drop (front_size w) s) ≡ false
    → Value (take 8 (drop 0 s)) n → Value (take 8 (drop 16 s)) g → o ≡ roll_behind r (drop (front_size w) s)
    → (g ≤ 64 → take g gs ≡ take g (numbers 8 64 24 s)) → (n ≤ 512 → take n ss ≡ take n (numbers w 512 536 s))
    → (g ≤ 64 → drop g gs ≡ drop g gs₀) → (n ≤ 512 → drop n ss ≡ drop n ss₀) → StoreRead w r s gs₀ ss₀ (record { count = n; held = eqb x 1; grouped = g; roll = o }) gs ss
store-read w r s {x} {n} {g} v l z c d o gs ss gs-behind ss-behind =
    let e = is_held w r s v l z in
    record {
      count = c.is ∙ sym (ap (λ (t : Store). t.count) e);
      held = ap (λ (k : ℕ). eqb k 1) v.is ∙ sym (ap (λ (t : Store). t.held) e);
      grouped = d.is ∙ sym (ap (λ (t : Store). t.grouped) e);
      roll = o ∙ sym (ap (λ (t : Store). t.roll) e);
      groups = λ h. gs h ∙ sym (ap (λ (t : Store). take g t.groups) e);
      shares = λ h. ss h ∙ sym (ap (λ (t : Store). take n t.shares) e);
      groups-behind = gs-behind;
      shares-behind = ss-behind;
    }

none_read : (w : ℕ) (r : Bool) (s gs ss : List ℕ) {h : Header} → store_in w r s ≡ no_store → h ≡ no_header → StoreRead w r s gs ss h gs ss
none_read w r s gs ss e is =
    rw is
    (record {
      count = sym (ap (λ (t : Store). t.count) e);
      held = sym (ap (λ (t : Store). t.held) e);
      grouped = sym (ap (λ (t : Store). t.grouped) e);
      roll = sym (ap (λ (t : Store). t.roll) e);
      groups = λ l. refl;
      shares = λ l. absurd (omega arith);
      groups-behind = λ l. refl;
      shares-behind = λ l. refl;
    })

pub store-none : (w : ℕ) (r : Bool) (s gs ss : List ℕ) {x : ℕ} {h : Header} → Value (take 8 (drop 8 s)) x → 1 < x → h ≡ no_header → StoreRead w r s gs ss h gs ss
store-none w r s gs ss v h = none_read w r s gs ss (not-held w r s v h)

pub store-wrong : (w : ℕ) (r : Bool) (s gs ss : List ℕ) {h : Header} → roll_wrong r (drop (front_size w) s) ≡ true → h ≡ no_header → StoreRead w r s gs ss h gs ss
store-wrong w r s gs ss z = none_read w r s gs ss (not-rolled w r s z)
