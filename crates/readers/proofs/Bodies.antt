-- The sites that the bodies of a list's records say are those that its records say. Assumes nothing.
use Prim.Native.Nat.{ℕ, zero, suc, ◌+◌, ◌*◌, ◌/◌, ◌%◌, ◌<◌, ◌≤◌, ◌^◌}
use mathlib.Core.Bool.{Bool, ◌||◌}
use mathlib.Core.List.{List, [], ◌∷◌, ◌++◌, map}
use mathlib.Core.Path.{◌≡◌, refl, ap, ap₂, sym, ◌∙◌}
use native.Mathlib.Omega.{arith}
use lib.ListN.{length, take, drop, get_or, length-map, length-drop, length-take, length-append, get_or-map}
use lib.Seq.{take_all, take-append_seam}
use Rattle.sets.specs.Sum.{any}
use Rattle.sets.proofs.Sum.{any-cong}
use Rattle.density.specs.Network.{no_site}
use Rattle.density.specs.declared.Site.{Site}
use Rattle.records.specs.Answer.{filled, sites_by}
use Rattle.records.specs.Bytes.{Bytes, field, value}
use Rattle.records.specs.Record.{records, any_of, wrong_mark}
use Rattle.records.specs.Format.{site_of, wrong_depot, no_litres, body_of}
use Rattle.records.proofs.Bytes.{bytes_take, bytes_drop, field_below}
use Rattle.records.specs.Write.{All}
use Rattle.records.proofs.Records.{mul-room, length-records, records-from, all_from, all-at, body-first, body-second, body-litres}
use Rattle.readers.specs.declared.SiteBody.{SiteBody}
use Rattle.readers.specs.Body.{site_body, site_bodies}

-- a site's record of litres of w bytes
abbrev pub Whole : ℕ → List ℕ → Type 0
Whole w r = Bytes r × (length r ≡ 4 + w)

module _ (w : ℕ) (r : List ℕ) (h : Whole w r) where
  all : take (4 + w) r ≡ r
  all = take_all (4 + w) r (omega (arith, h.1))

  room : 0 + (4 + w) ≤ length r
  room = omega (arith, h.1)

  body_is : site_body (body_of (2 + w) r) ≡ record { site = site_of w r; depot = wrong_depot r; litres = no_litres w r }
  body_is =
      let a : body_of (2 + w) r % 256 ≡ field r 2 1 = rw all at (body-first r 0 w h.0 room) in
      let b : body_of (2 + w) r / 256 % 256 ≡ field r 3 1 = rw all at (body-second r 0 w h.0 room) in
      let c : body_of (2 + w) r / 65536 ≡ field r 4 w = rw all at (body-litres r 0 w h.0 room) in
      rw (a, b, c)

  pub body-small : w ≤ 4 → body_of (2 + w) r < 2 ^ 48
  body-small k = field_below r 2 (2 + w) 6 h.0 (omega arith)

-- the body of the i-th record
none : (k : ℕ) → field [] 2 k ≡ 0
unfolding value
none zero = refl
none (suc k) = refl

body_at : (w : ℕ) (rs : List (List ℕ)) (i : ℕ) → get_or (map (body_of (2 + w)) rs) i 0 ≡ body_of (2 + w) (get_or rs i [])
body_at w rs i = ap (get_or (map (body_of (2 + w)) rs) i) (sym (none (2 + w))) ∙ get_or-map (body_of (2 + w)) rs i []

-- of all records
pub sites-same : (w : ℕ) (rs : List (List ℕ)) → All (Whole w) rs → map (λ b. (site_body b).site) (map (body_of (2 + w)) rs) ≡ map (site_of w) rs
sites-same w [] a = refl
sites-same w (r ∷ rs) a = ap₂ (λ (x : Site) (xs : List Site). x ∷ xs) (ap (λ (z : SiteBody). z.site) (body_is w r a.0)) (sites-same w rs a.1)

pub tests_same : (w : ℕ) (p : SiteBody → Bool) (q : List ℕ → Bool) (rs : List (List ℕ)) → All (Whole w) rs → ((r : List ℕ) → q r ≡ p (record { site = site_of w r; depot = wrong_depot r; litres = no_litres w r }))
    → any (λ i. p (site_body (get_or (map (body_of (2 + w)) rs) i 0))) (length (map (body_of (2 + w)) rs)) ≡ any_of q rs
tests_same w p q rs a e =
    ap (any (λ i. p (site_body (get_or (map (body_of (2 + w)) rs) i 0)))) (length-map rs (body_of (2 + w)))
    ∙ any-cong _ _ (length rs) (λ i l. ap (λ (k : ℕ). p (site_body k)) (body_at w rs i) ∙ ap p (body_is w (get_or rs i []) (all-at (Whole w) [] rs a i l)) ∙ sym (e (get_or rs i [])))

pub all_whole : (w n : ℕ) (s : List ℕ) → Bytes s → 4 + (4 + w) * n ≤ length s → All (Whole w) (records (4 + w) n (drop 4 s))
all_whole w n s b room =
    all_from (Whole w) [] (records (4 + w) n (drop 4 s)) (λ i l.
    let m : i < n = omega (arith, l, length-records (4 + w) n (drop 4 s)) in
    let k : 4 + (4 + w) * i + (4 + w) ≤ length s = omega (arith, mul-room (4 + w) m) in
    rw (records-from (4 + w) 4 s m) (bytes_take (4 + w) (drop (4 + (4 + w) * i) s) (bytes_drop (4 + (4 + w) * i) s b), omega (arith, k, length-take (4 + w) (drop (4 + (4 + w) * i) s), length-drop (4 + (4 + w) * i) s)))

pub bodies-small : (w : ℕ) (rs : List (List ℕ)) → w ≤ 4 → All (Whole w) rs → (i : ℕ) → i < length (map (body_of (2 + w)) rs) → get_or (map (body_of (2 + w)) rs) i 0 < 2 ^ 48
bodies-small w rs k a i l =
    let m : i < length rs = omega (arith, l, length-map rs (body_of (2 + w))) in
    rw (body_at w rs i) (body-small w (get_or rs i []) (all-at (Whole w) [] rs a i m) k)

-- what one pass over the bodies is asked, and what it says, of the records of n sites behind the head
module _ (w n : ℕ) (s : List ℕ) (b : Bytes s) (k : w ≤ 4) (few : n ≤ 512) (room : 4 + (4 + w) * n ≤ length s) where
  abbrev recs : List (List ℕ)
  recs = records (4 + w) n (drop 4 s)

  many : length (map (body_of (2 + w)) recs) ≡ n
  many = length-map recs (body_of (2 + w)) ∙ length-records (4 + w) n (drop 4 s)

  -- the records read by a reader that is lent the first n places
  pub read-bodies : (m size : ℕ) (ys : List ℕ) → m ≡ n → size ≡ 4 + w → ys ≡ map (body_of (2 + w)) (records size m (drop 4 s)) → ys ≡ map (body_of (2 + w)) recs
  read-bodies m size ys e f g = g ∙ ap₂ (λ (x y : ℕ). map (body_of (2 + w)) (records x y (drop 4 s))) f e

  -- a list has no groups
  pub read-marks : (group mark m size : ℕ) (t : Bool) → m ≡ n → size ≡ 4 + w → t ≡ (any_of (wrong_mark group) (records 10 0 (drop 4 s)) || any_of (wrong_mark mark) (records size m (drop 4 s))) → t ≡ any_of (wrong_mark mark) recs
  unfolding records any
  read-marks group mark m size t e f g = g ∙ ap₂ (λ (x y : ℕ). any_of (wrong_mark mark) (records x y (drop 4 s))) f e

  pub front : (ys zs : List ℕ) → ys ≡ map (body_of (2 + w)) recs → take n (ys ++ zs) ≡ map (body_of (2 + w)) recs
  front ys zs e = ap (λ (j : ℕ). take j (ys ++ zs)) (sym many ∙ sym (ap length e)) ∙ take-append_seam ys zs ∙ e

  pub long : (ys zs : List ℕ) → ys ≡ map (body_of (2 + w)) recs → n ≡ length (take n (ys ++ zs))
  long ys zs e = sym (ap length (front ys zs e) ∙ many)

  pub holds : (ys zs : List ℕ) → ys ≡ map (body_of (2 + w)) recs → n ≤ length (ys ++ zs)
  holds ys zs e = omega (arith, length-append ys zs, ap length e, many)

  pub asked : (bs : List ℕ) → bs ≡ map (body_of (2 + w)) recs → (length bs ≤ 512) × ((i : ℕ) → i < length bs → get_or bs i 0 < 2 ^ 48)
  asked bs e = rw e (omega (arith, many, few), bodies-small w recs k (all_whole w n s b room))

  pub said : (mark : ℕ) (bs : List ℕ) (t : Bool) → bs ≡ map (body_of (2 + w)) recs → t ≡ any_of (wrong_mark mark) recs → site_bodies bs t ≡ sites_by mark w n s
  said mark bs t e f =
      let a = all_whole w n s b room in
      ap₂ site_bodies e f ∙ (λ j. record {
        sites = filled 512 (sites-same w recs a j) no_site;
        marks = any_of (wrong_mark mark) recs;
        depots = tests_same w (λ (x : SiteBody). x.depot) wrong_depot recs a (λ r. refl) j;
        litres = tests_same w (λ (x : SiteBody). x.litres) (no_litres w) recs a (λ r. refl) j;
      })
