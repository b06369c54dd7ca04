-- A list and a plan that were written are read back, and what was read is written again, byte for byte, over the edition; what passed says. Assumes nothing.
use Prim.Native.Nat.{ℕ, ◌+◌, ◌*◌, ◌<◌, ◌≤◌, ◌^◌}
use mathlib.Core.Bool.{Bool, true, false, cond, ◌&&◌, ◌||◌, and-false, or-true}
use mathlib.Core.List.{List, ◌++◌, flat_map, map}
use mathlib.Core.Logic.{⊎_elim}
use mathlib.Core.Option.{Option, none, some}
use mathlib.Core.Path.{◌≡◌, refl, ap, sym, ◌∙◌}
use borrow.Author.Tests.{lt-ltb, eq-eqb, ne_eqb, le-ltb, eqb-true, ltb-false, eqb-false, not-false}
use lib.Dec.{T, ltb, eqb, eqb→eq}
use lib.ListN.{length, drop, length-append, length-drop, length-map, drop_of_length-le}
use lib.Seq.{drop_at, drop-drop}
use native.Mathlib.Omega.{arith}
use Rattle.density.specs.declared.Site.{Site}
use Rattle.density.specs.Network.{Listing, no_site, site_at, depots_in_range, crews_above, sites_uncrewed, in_range}
use Rattle.sets.proofs.Test.{and_i, and_r, or_cases, passes, fails}
use Rattle.sets.proofs.Sum.{all_from as Each-from}
use Rattle.records.specs.declared.Edition.{Edition}
use Rattle.records.specs.Values.{Plan}
use Rattle.records.specs.Bytes.{Bytes, le, field}
use Rattle.records.specs.Record.{any_of, wrong_mark}
use Rattle.records.specs.Outcome.{passed}
use Rattle.records.specs.Format.{site_size, site_count, site_records, sites_of, site_of, wrong_depot, no_litres, list_size, rolled, roll_record, roll_of, listing_of, list_rows, read_list, group_count, group_records, share_records, share_size, body_of, plan_of, layout_rows, read_plan}
use Rattle.records.specs.Write.{site_bytes, roll_bytes, list_bytes, mark_bytes, plan_bytes, LaidOut, All, Marked, Allowed, Good, Whole, Crewed, GoodPlan}
use Rattle.records.proofs.Bytes.{length-le, bytes_drop, field-small}
use Rattle.records.proofs.Records.{all_from, all-at, all_map, all_both, none_of, length-records}
use Rattle.records.proofs.Buffers.{length-flat, length-mark, length-plan, length-site, length-list}
use Rattle.records.proofs.Outcomes.{pass, clear, or-false}
use Rattle.records.proofs.Codec.{field-here, field-last, field-behind, le-field, le-field-last, records-flat, records-flat-last, flat-records, flat-records-last, bytes-records, any-map, map_back}

-- there is a roll
abbrev is_some : Option (List ℕ) → Bool
is_some none = false
is_some (some roll) = true

module _ (e : Edition) (m : Marked e) where
  -- the fields of a site's record
  site-mark : (x : Site) → field (site_bytes e x) 0 2 ≡ e.mark.site
  site-mark x = field-here 2 e.mark.site _ m.site

  site-first : (x : Site) → Good e x → field (site_bytes e x) 2 1 ≡ x.first
  site-first x g = field-behind (le 2 e.mark.site) _ 2 0 1 (length-le 2 e.mark.site) ∙ field-here 1 x.first _ (omega (arith, g.allowed.first))

  site-second : (x : Site) → Good e x → field (site_bytes e x) 3 1 ≡ x.second
  site-second x g =
      field-behind (le 2 e.mark.site) _ 2 1 1 (length-le 2 e.mark.site)
      ∙ field-behind (le 1 x.first) _ 1 0 1 (length-le 1 x.first)
      ∙ field-here 1 x.second _ (omega (arith, g.allowed.second))

  site-litres : (x : Site) → Good e x → field (site_bytes e x) 4 e.litres ≡ x.litres
  site-litres x g =
      field-behind (le 2 e.mark.site) _ 2 2 e.litres (length-le 2 e.mark.site)
      ∙ field-behind (le 1 x.first) _ 1 1 e.litres (length-le 1 x.first)
      ∙ field-behind (le 1 x.second) _ 1 0 e.litres (length-le 1 x.second)
      ∙ field-last e.litres x.litres g.fits

  site-back : (x : Site) → Good e x → site_of e.litres (site_bytes e x) ≡ x
  site-back x g = rw (site-first x g, site-second x g, site-litres x g)

  -- the parts of a list that was written
  module _ (l : Listing) (few : length l.sites ≤ 512) where
    list-mark : field (list_bytes e l) 0 2 ≡ e.mark.list
    unfolding list_bytes
    list-mark = field-here 2 e.mark.list _ m.list

    list_count : site_count (list_bytes e l) ≡ length l.sites
    unfolding list_bytes
    list_count = field-behind (le 2 e.mark.list) _ 2 0 2 (length-le 2 e.mark.list) ∙ field-here 2 (length l.sites) _ (omega arith)

    list-records : site_records e (list_bytes e l) ≡ map (site_bytes e) l.sites
    unfolding list_bytes le
    list-records = rw list_count (records-flat (site_bytes e) (site_size e) (length-site e) l.sites (roll_bytes e l.roll))

    -- what stands behind its sites
    list-rest : roll_record e (list_bytes e l) ≡ roll_bytes e l.roll
    unfolding list_bytes le
    list-rest =
        rw list_count
        (sym (drop-drop (site_size e * length l.sites) 4 (list_bytes e l))
        ∙ drop_at (flat_map (site_bytes e) l.sites) (roll_bytes e l.roll) _ (length-flat (site_bytes e) (site_size e) (length-site e) l.sites))

    -- its roll or none: whether there is one is told by the length
    module _ (c : Crewed e l) where
      list-rolled : rolled e (list_bytes e l) ≡ is_some l.roll
      list-rolled = rw (list_count, length-list e l) (by l.roll c.whole)
        where
          by : (roll : Option (List ℕ)) → Whole e roll → (e.roll && eqb (list_size e (length l.sites) + length (roll_bytes e roll)) (list_size e (length l.sites) + 66)) ≡ is_some roll
          by none w = rw (ne_eqb (list_size e (length l.sites) + 0) (list_size e (length l.sites) + 66) (λ z. omega arith)) (and-false e.roll)
          by (some roll) w =
              let k : length (le 2 e.mark.roll ++ roll) ≡ 66 = rw (length-append, length-le, w.1) in
              rw (w.0, k, eq-eqb _ _ refl)

      list-roll : roll_of e (list_bytes e l) ≡ l.roll
      list-roll = rw (list-rolled, list-rest) (by l.roll)
        where
          by : (roll : Option (List ℕ)) → cond (is_some roll) (some (drop 2 (roll_bytes e roll))) none ≡ roll
          by none = refl
          by (some roll) = ap some (drop_at (le 2 e.mark.roll) roll 2 (length-le 2 e.mark.roll))

      roll-marked : (rolled e (list_bytes e l) && wrong_mark e.mark.roll (roll_record e (list_bytes e l))) ≡ false
      roll-marked = rw (list-rolled, list-rest) (by l.roll)
        where
          by : (roll : Option (List ℕ)) → (is_some roll && wrong_mark e.mark.roll (roll_bytes e roll)) ≡ false
          by none = refl
          by (some roll) = rw (field-here 2 e.mark.roll roll m.roll, eq-eqb _ _ refl)

      list-long : (eqb (length (list_bytes e l)) (list_size e (site_count (list_bytes e l))) || rolled e (list_bytes e l)) ≡ true
      list-long = rw (list-rolled, list_count, length-list e l) (by l.roll)
        where
          by : (roll : Option (List ℕ)) → (eqb (list_size e (length l.sites) + length (roll_bytes e roll)) (list_size e (length l.sites)) || is_some roll) ≡ true
          by none = rw (eq-eqb (list_size e (length l.sites) + 0) (list_size e (length l.sites)) (omega arith))
          by (some roll) = or-true (eqb (list_size e (length l.sites) + length (roll_bytes e (some roll))) (list_size e (length l.sites)))

      list-listing : All (Good e) l.sites → listing_of e (list_bytes e l) ≡ l
      list-listing good =
          ap (λ (xs : List Site). record { sites = xs; roll = roll_of e (list_bytes e l) }) (rw list-records (map_back (site_bytes e) (site_of e.litres) (Good e) site-back l.sites good))
          ∙ ap (λ (r : Option (List ℕ)). record { sites = l.sites; roll = r }) list-roll

      -- a list that was written is read back
      pub list_back : (places : ℕ) → length l.sites ≤ places → All (Good e) l.sites → read_list e places (list_bytes e l) ≡ passed l
      unfolding read_list
      list_back places h good =
          pass (list_rows e places (list_bytes e l)) (
            rw (le-ltb (length (list_bytes e l)) 4 (omega (arith, length-list e l)), list-mark, eq-eqb _ _ refl),
            (
              rw (list_count, le-ltb _ _ few, le-ltb _ _ h),
              (
                rw list-long,
                (
                  rw roll-marked (rw list-records (rw (any-map (site_bytes e) (wrong_mark e.mark.site) (Good e) (λ (x : Site) (g : Good e x). rw (site-mark x, eq-eqb _ _ refl)) l.sites good))),
                  (
                    rw list-records (any-map (site_bytes e) wrong_depot (Good e) (λ (x : Site) (g : Good e x). rw (site-first x g, site-second x g, le-ltb _ _ g.allowed.first, le-ltb _ _ g.allowed.second)) l.sites good),
                    (
                      rw list-records (any-map (site_bytes e) (no_litres e.litres) (Good e) (λ (x : Site) (g : Good e x). rw (site-litres x g) (ne_eqb x.litres 0 (omega (arith, g.allowed.some)))) l.sites good),
                      (
                        rw list-roll c.few-crews,
                        (
                          rw (list-listing good) c.crewed,
                          tt,
                        ),
                      ),
                    ),
                  ),
                ),
              ),
            ),
          )
          ∙ ap passed (list-listing good)

-- a site's record that was read is written again
site-again : (e : Edition) (r : List ℕ) → length r ≡ site_size e → Bytes r → wrong_mark e.mark.site r ≡ false → site_bytes e (site_of e.litres r) ≡ r
site-again e r l b t =
    let k : field r 0 2 ≡ e.mark.site = eqb-true _ _ (not-false _ t) in
    rw (← k, le-field-last r 4 e.litres b l, le-field r 3 1 b (omega arith), le-field r 2 1 b (omega arith), le-field r 0 2 b (omega arith))

-- a record that passed the tests is that of an allowed site
site-allowed : (e : Edition) (r : List ℕ) → (wrong_depot r ≡ false) × (no_litres e.litres r ≡ false) → Allowed (site_of e.litres r)
site-allowed e r t =
    let d = or-false (ltb 63 (field r 2 1)) (ltb 63 (field r 3 1)) t.0 in
    record { first = ltb-false _ _ d.0; second = ltb-false _ _ d.1; some = omega (arith, eqb-false (field r 4 e.litres) 0 t.1) }

site-good : (e : Edition) (r : List ℕ) → ((wrong_depot r ≡ false) × (no_litres e.litres r ≡ false)) × Bytes r → Good e (site_of e.litres r)
site-good e r t = record { allowed = site-allowed e r t.0; fits = field-small r 4 e.litres t.1 }

-- what a list is that was read
pub record ListFacts (e : Edition) (places : ℕ) (s : List ℕ) (l : Listing) : Type 0 where
  pub mark : field s 0 2 ≡ e.mark.list
  pub few : site_count s ≤ 512
  pub room : site_count s ≤ places
  pub size : (eqb (length s) (list_size e (site_count s)) || rolled e s) ≡ true
  pub marks : any_of (wrong_mark e.mark.site) (site_records e s) ≡ false
  pub roll-mark : (rolled e s && wrong_mark e.mark.roll (roll_record e s)) ≡ false
  pub depots : any_of (wrong_depot) (site_records e s) ≡ false
  pub litres : any_of (no_litres e.litres) (site_records e s) ≡ false
  pub few-crews : crews_above l.roll ≡ false
  pub crewed : sites_uncrewed l ≡ false
  pub sites : sites_of e s ≡ l.sites
  pub roll : roll_of e s ≡ l.roll
  pub count : length l.sites ≡ site_count s

pub list_read_lem : (e : Edition) (places : ℕ) (s : List ℕ) {l : Listing} → read_list e places s ≡ passed l → ListFacts e places s l
unfolding read_list
list_read_lem e places s h =
    let c = clear (list_rows e places s) h in
    let head = or-false (ltb (length s) 4) (wrong_mark e.mark.list s) c.0.0 in
    let many = or-false (ltb 512 (site_count s)) (ltb places (site_count s)) c.0.1.0 in
    record {
      mark = eqb-true _ _ (not-false _ head.1);
      few = ltb-false _ _ many.0;
      room = ltb-false _ _ many.1;
      size = not-false _ c.0.1.1.0;
      marks = (or-false (any_of (wrong_mark e.mark.site) (site_records e s)) _ c.0.1.1.1.0).0;
      roll-mark = (or-false (any_of (wrong_mark e.mark.site) (site_records e s)) _ c.0.1.1.1.0).1;
      depots = c.0.1.1.1.1.0;
      litres = c.0.1.1.1.1.1.0;
      few-crews = sym (ap (λ (l : Listing). crews_above l.roll) c.1) ∙ c.0.1.1.1.1.1.1.0;
      crewed = sym (ap sites_uncrewed c.1) ∙ c.0.1.1.1.1.1.1.1.0;
      sites = ap (λ (l : Listing). l.sites) c.1;
      roll = ap (λ (l : Listing). l.roll) c.1;
      count = sym (ap (λ (l : Listing). length l.sites) c.1) ∙ length-map (site_records e s) (site_of e.litres) ∙ length-records _ _ _;
    }

-- where the length is right, all the sites are there
pub list-size : (e : Edition) (s : List ℕ) → (eqb (length s) (list_size e (site_count s)) || rolled e s) ≡ true → list_size e (site_count s) ≤ length s
list-size e s h =
    ⊎_elim (λ t. let z = eqb→eq (length s) (list_size e (site_count s)) t in omega arith)
    (λ t. let z = eqb→eq (length s) (list_size e (site_count s) + 66) (and_r e.roll _ t) in omega arith)
    (or_cases (eqb (length s) (list_size e (site_count s))) (rolled e s) (passes _ h))

-- a roll that was read is written again
roll-again : (e : Edition) (s : List ℕ) → Bytes s → (eqb (length s) (list_size e (site_count s)) || rolled e s) ≡ true
    → (rolled e s && wrong_mark e.mark.roll (roll_record e s)) ≡ false → roll_bytes e (roll_of e s) ≡ roll_record e s
roll-again e s b h w = by (rolled e s) refl w
  where
    by : (r : Bool) → rolled e s ≡ r → (r && wrong_mark e.mark.roll (roll_record e s)) ≡ false → roll_bytes e (cond r (some (drop 2 (roll_record e s))) none) ≡ roll_record e s
    by true q w =
        let z = eqb→eq (length s) (list_size e (site_count s) + 66) (and_r e.roll _ (passes _ q)) in
        let k : field (roll_record e s) 0 2 ≡ e.mark.roll = eqb-true _ _ (not-false _ w) in
        rw (← k) (le-field (roll_record e s) 0 2 (bytes_drop (list_size e (site_count s)) s b) (rw length-drop (omega arith)))
    by false q w =
        let z : length s ≡ list_size e (site_count s) = eqb→eq _ _ (⊎_elim (λ t. t) (λ t. absurd (fails _ q t)) (or_cases (eqb (length s) (list_size e (site_count s))) (rolled e s) (passes _ h))) in
        sym (drop_of_length-le s {i = list_size e (site_count s)} (omega arith))

-- a list that was read is written again
pub list-again : (e : Edition) (places : ℕ) (s : List ℕ) {l : Listing} → Bytes s → read_list e places s ≡ passed l → list_bytes e l ≡ s
unfolding list_bytes
list-again e places s {l = l} b h =
    let r = list_read_lem e places s h in
    let k = list-size e s r.size in
    let body =
    flat-records (site_bytes e) (site_size e) (site_of e.litres) (wrong_mark e.mark.site) (site-again e)
    (site_count s) (drop 4 s) (rw length-drop (omega arith)) (bytes_drop 4 s b) (none_of (wrong_mark e.mark.site) (site_records e s) r.marks) in
    let tail = ap (roll_bytes e) (sym r.roll) ∙ roll-again e s b r.size r.roll-mark ∙ sym (drop-drop (site_size e * site_count s) 4 s) in
    let behind : flat_map (site_bytes e) l.sites ++ roll_bytes e l.roll ≡ drop 4 s =
    ap (λ (xs : List Site). flat_map (site_bytes e) xs ++ roll_bytes e l.roll) (sym r.sites) ∙ ap (λ (t : List ℕ). flat_map (site_bytes e) (sites_of e s) ++ t) tail ∙ body in
    ap (λ (m : ℕ). le 2 m ++ (le 2 (length l.sites) ++ (flat_map (site_bytes e) l.sites ++ roll_bytes e l.roll))) (sym r.mark)
    ∙ ap (λ (n : ℕ). le 2 (field s 0 2) ++ (le 2 n ++ (flat_map (site_bytes e) l.sites ++ roll_bytes e l.roll))) r.count
    ∙ ap (λ (t : List ℕ). le 2 (field s 0 2) ++ (le 2 (site_count s) ++ t)) behind
    ∙ ap (λ (t : List ℕ). le 2 (field s 0 2) ++ t) (le-field s 2 2 b (omega arith))
    ∙ le-field s 0 2 b (omega arith)

-- its sites are allowed, and where it is of bytes they are good
list-tests : (e : Edition) (places : ℕ) (s : List ℕ) {l : Listing} → read_list e places s ≡ passed l
    → All (λ (r : List ℕ). (wrong_depot r ≡ false) × (no_litres e.litres r ≡ false)) (site_records e s)
list-tests e places s h =
    let r = list_read_lem e places s h in
    let rs = site_records e s in
    all_both (λ (x : List ℕ). wrong_depot x ≡ false) (λ (x : List ℕ). no_litres e.litres x ≡ false) rs (none_of wrong_depot rs r.depots) (none_of (no_litres e.litres) rs r.litres)

pub list-allowed : (e : Edition) (places : ℕ) (s : List ℕ) {l : Listing} → read_list e places s ≡ passed l → All Allowed l.sites
list-allowed e places s h =
    rw (← (list_read_lem e places s h).sites)
    (all_map (site_of e.litres) (λ (r : List ℕ). (wrong_depot r ≡ false) × (no_litres e.litres r ≡ false)) Allowed (site-allowed e) (site_records e s) (list-tests e places s h))

pub list-good : (e : Edition) (places : ℕ) (s : List ℕ) {l : Listing} → Bytes s → read_list e places s ≡ passed l → All (Good e) l.sites
list-good e places s b h =
    let rs = site_records e s in
    rw (← (list_read_lem e places s h).sites)
    (all_map (site_of e.litres) (λ (r : List ℕ). ((wrong_depot r ≡ false) × (no_litres e.litres r ≡ false)) × Bytes r) (Good e) (site-good e) rs
    (all_both (λ (r : List ℕ). (wrong_depot r ≡ false) × (no_litres e.litres r ≡ false)) Bytes rs (list-tests e places s h)
    (bytes-records (site_size e) (site_count s) (drop 4 s) (bytes_drop 4 s b))))

-- what the mathematics asks of a list that was read
list-depots : (e : Edition) (places : ℕ) (s : List ℕ) {l : Listing} → read_list e places s ≡ passed l → T (depots_in_range l)
unfolding depots_in_range
list-depots e places s {l = l} h =
    Each-from (λ i. ltb (site_at l i).first 64 && ltb (site_at l i).second 64) (length l.sites) (λ i k.
    let g = all-at Allowed no_site l.sites (list-allowed e places s h) i k in
    and_i (ltb (site_at l i).first 64) (ltb (site_at l i).second 64)
    (passes (ltb (site_at l i).first 64) (lt-ltb (site_at l i).first 64 (omega (arith, g.first))))
    (passes (ltb (site_at l i).second 64) (lt-ltb (site_at l i).second 64 (omega (arith, g.second)))))

pub list-range : (e : Edition) (places : ℕ) (s : List ℕ) {l : Listing} → read_list e places s ≡ passed l → T (in_range l)
unfolding in_range
list-range e places s {l = l} h =
    let r = list_read_lem e places s h in
    rw (r.few-crews, r.crewed) (and_i (depots_in_range l && true) true (and_i (depots_in_range l) true (list-depots e places s h) tt) tt)

pub list-few : (e : Edition) (places : ℕ) (s : List ℕ) {l : Listing} → read_list e places s ≡ passed l
    → (length l.sites ≤ 512) × (length l.sites ≤ places)
list-few e places s h =
    let r = list_read_lem e places s h in
    rw r.count (r.few, r.room)

-- ---- records of a mark and one number

module _ (mark w : ℕ) where
  marks-pass : (xs : List ℕ) → mark < 65536 → All (λ (x : ℕ). x < 256 ^ w) xs → any_of (wrong_mark mark) (map (mark_bytes mark w) xs) ≡ false
  marks-pass xs h a =
      any-map (mark_bytes mark w) (wrong_mark mark) (λ (x : ℕ). x < 256 ^ w) (λ (x : ℕ) (g : x < 256 ^ w). rw (field-here 2 mark (le w x) h, eq-eqb mark mark refl)) xs a

  numbers-back : (xs : List ℕ) → All (λ (x : ℕ). x < 256 ^ w) xs → map (body_of w) (map (mark_bytes mark w) xs) ≡ xs
  numbers-back xs a = map_back (mark_bytes mark w) (body_of w) (λ (x : ℕ). x < 256 ^ w) back xs a
    where
      back : (x : ℕ) → x < 256 ^ w → field (mark_bytes mark w x) 2 w ≡ x
      back x h = field-behind (le 2 mark) (le w x) 2 0 w (length-le 2 mark) ∙ field-last w x h

  mark-again : (r : List ℕ) → length r ≡ 2 + w → Bytes r → wrong_mark mark r ≡ false → mark_bytes mark w (field r 2 w) ≡ r
  mark-again r l b t =
      let k : field r 0 2 ≡ mark = eqb-true _ _ (not-false _ t) in
      rw (← k, le-field-last r 2 w b l, le-field r 0 2 b (omega arith))

-- ---- plans

-- the parts of a plan that was written, whatever its marks
module _ (e : Edition) (p : Plan) (few : length p.groups ≤ 64) where
  plan-groups : group_count (plan_bytes e p) ≡ length p.groups
  unfolding plan_bytes
  plan-groups = field-behind (le 2 e.mark.plan) _ 2 0 1 (length-le 2 e.mark.plan) ∙ field-here 1 (length p.groups) _ (omega arith)

  plan-body : drop 5 (plan_bytes e p)
      ≡ flat_map (mark_bytes e.mark.group 8) p.groups ++ flat_map (mark_bytes e.mark.share e.share) p.shares
  unfolding plan_bytes le
  plan-body = refl

  plan-group-records : group_records (plan_bytes e p) ≡ map (mark_bytes e.mark.group 8) p.groups
  plan-group-records = rw (plan-groups, plan-body) (records-flat (mark_bytes e.mark.group 8) 10 (length-mark e.mark.group 8) p.groups _)

  plan-share-records : share_records e (length p.shares) (plan_bytes e p) ≡ map (mark_bytes e.mark.share e.share) p.shares
  plan-share-records =
      let g : List ℕ = flat_map (mark_bytes e.mark.group 8) p.groups in
      let l : length g ≡ 10 * length p.groups = length-flat (mark_bytes e.mark.group 8) 10 (length-mark e.mark.group 8) p.groups in
      rw (plan-groups, ← (drop-drop (10 * length p.groups) 5 (plan_bytes e p)), plan-body, drop_at g _ _ l)
      (records-flat-last (mark_bytes e.mark.share e.share) (2 + e.share) (length-mark e.mark.share e.share) p.shares)

  -- its numbers, where they have the widths of their fields
  plan-numbers : All (λ (g : ℕ). g < 256 ^ 8) p.groups → All (λ (s : ℕ). s < 256 ^ e.share) p.shares
      → plan_of e (length p.shares) (plan_bytes e p) ≡ p
  plan-numbers g s =
      rw (plan-group-records, plan-share-records, numbers-back e.mark.group 8 p.groups g, numbers-back e.mark.share e.share p.shares s)

module _ (e : Edition) (m : Marked e) (p : Plan) (good : GoodPlan e p) where
  plan-mark : field (plan_bytes e p) 0 2 ≡ e.mark.plan
  unfolding plan_bytes
  plan-mark = field-here 2 e.mark.plan _ m.plan

  plan-sites : field (plan_bytes e p) 3 2 ≡ length p.shares
  unfolding plan_bytes
  plan-sites =
      field-behind (le 2 e.mark.plan) _ 2 1 2 (length-le 2 e.mark.plan)
      ∙ field-behind (le 1 (length p.groups)) _ 1 0 2 (length-le 1 (length p.groups))
      ∙ field-here 2 (length p.shares) _ (omega (arith, good.sites))

  -- a plan that was written is read back
  pub plan-back : read_plan e (length p.shares) (plan_bytes e p) ≡ passed p
  unfolding read_plan
  plan-back =
      pass (layout_rows e (length p.shares) (plan_bytes e p)) (
        rw (le-ltb (length (plan_bytes e p)) 5 (omega (arith, length-plan e p)), plan-mark, eq-eqb _ _ refl),
        (
          rw (plan-groups e p good.few) (le-ltb _ _ good.few),
          (
            rw (plan-sites, eq-eqb _ _ refl),
            (
              rw (plan-groups e p good.few, eq-eqb _ _ (length-plan e p)),
              (
                rw (plan-group-records e p good.few, plan-share-records e p good.few, marks-pass e.mark.group 8 p.groups m.group good.groups) (marks-pass e.mark.share e.share p.shares m.share good.shares),
                tt,
              ),
            ),
          ),
        ),
      )
      ∙ ap passed (plan-numbers e p good.few good.groups good.shares)

-- what a plan is that was read
pub record PlanFacts (e : Edition) (n : ℕ) (s : List ℕ) (p : Plan) : Type 0 where
  pub mark : field s 0 2 ≡ e.mark.plan
  pub few : group_count s ≤ 64
  pub sites : field s 3 2 ≡ n
  pub size : length s ≡ 5 + 10 * group_count s + share_size e * n
  pub groups : any_of (wrong_mark e.mark.group) (group_records s) ≡ false
  pub shares : any_of (wrong_mark e.mark.share) (share_records e n s) ≡ false
  pub plan : plan_of e n s ≡ p

pub plan-read : (e : Edition) (n : ℕ) (s : List ℕ) {p : Plan} → read_plan e n s ≡ passed p → PlanFacts e n s p
unfolding read_plan
plan-read e n s h =
    let c = clear (layout_rows e n s) h in
    let head = or-false (ltb (length s) 5) (wrong_mark e.mark.plan s) c.0.0 in
    let marks = or-false (any_of (wrong_mark e.mark.group) (group_records s)) (any_of (wrong_mark e.mark.share) (share_records e n s)) c.0.1.1.1.1.0 in
    record {
      mark = eqb-true _ _ (not-false _ head.1);
      few = ltb-false _ _ c.0.1.0;
      sites = eqb-true _ _ (not-false _ c.0.1.1.0);
      size = eqb-true _ _ (not-false _ c.0.1.1.1.0);
      groups = marks.0;
      shares = marks.1;
      plan = c.1;
    }

-- a plan that was read is written again
pub plan-again : (e : Edition) (n : ℕ) (s : List ℕ) {p : Plan} → Bytes s → read_plan e n s ≡ passed p → plan_bytes e p ≡ s
unfolding plan_bytes
plan-again e n s b h =
    let r = plan-read e n s h in
    let size = r.size in
    let shares =
    flat-records-last (mark_bytes e.mark.share e.share) (share_size e) (body_of e.share) (wrong_mark e.mark.share)
    (mark-again e.mark.share e.share) n (drop (5 + 10 * group_count s) s) (rw length-drop (omega arith)) (bytes_drop (5 + 10 * group_count s) s b) (none_of (wrong_mark e.mark.share) (share_records e n s) r.shares) in
    let groups =
    flat-records (mark_bytes e.mark.group 8) 10 (body_of 8) (wrong_mark e.mark.group)
    (mark-again e.mark.group 8) (group_count s) (drop 5 s) (rw length-drop (omega arith)) (bytes_drop 5 s b) (none_of (wrong_mark e.mark.group) (group_records s) r.groups) in
    rw (← r.plan, shares, ← (drop-drop (10 * group_count s) 5 s), groups, ← r.mark, length-map, length-records, length-map, length-records, ← r.sites)
    (rw (le-field s 3 2 b (omega arith), le-field s 2 1 b (omega arith), le-field s 0 2 b (omega arith)))

-- ---- a plan that is laid out for a list

-- its bytes say it, whatever its marks and however long the list
pub laid-plan : (e : Edition) (l : Listing) (p : Plan) (s : List ℕ) → LaidOut e l p s → plan_of e (length l.sites) s ≡ p
laid-plan e l p s o =
    rw (o.bytes-are, ← o.each)
    (plan-numbers e p o.few (all_from (λ (g : ℕ). g < 256 ^ 8) 0 p.groups o.sets) (all_from (λ (s : ℕ). s < 256 ^ e.share) 0 p.shares o.fits))

pub laid-read : (e : Edition) → Marked e → (l : Listing) {p : Plan} {s : List ℕ} → length l.sites ≤ 512 → LaidOut e l p s
    → read_plan e (length l.sites) s ≡ passed p
laid-read e m l {p = p} k o =
    let good : GoodPlan e p =
    record {
      few = o.few;
      sites = omega (arith, o.each);
      groups = all_from (λ (g : ℕ). g < 256 ^ 8) 0 p.groups o.sets;
      shares = all_from (λ (s : ℕ). s < 256 ^ e.share) 0 p.shares o.fits;
    } in
    rw (o.bytes-are, ← o.each) (plan-back e m p good)

pub read-laid : (e : Edition) (l : Listing) (s : List ℕ) {p : Plan} → Bytes s → read_plan e (length l.sites) s ≡ passed p → LaidOut e l p s
read-laid e l s {p = p} b h =
    let n = length l.sites in
    let r = plan-read e n s h in
    let gs : map (body_of 8) (group_records s) ≡ p.groups = ap (λ (q : Plan). q.groups) r.plan in
    let ss : map (body_of e.share) (share_records e n s) ≡ p.shares = ap (λ (q : Plan). q.shares) r.plan in
    let at = 5 + 10 * group_count s in
    record {
      few = rw (← gs, length-map, length-records) r.few;
      sets = all-at (λ (g : ℕ). g < 256 ^ 8) 0 p.groups
          (rw (← gs) (all_map (body_of 8) Bytes (λ (g : ℕ). g < 256 ^ 8) (λ (x : List ℕ) (c : Bytes x). field-small x 2 8 c) (group_records s) (bytes-records 10 (group_count s) (drop 5 s) (bytes_drop 5 s b))));
      each = rw (← ss, length-map, length-records);
      fits = all-at (λ (g : ℕ). g < 256 ^ e.share) 0 p.shares
          (rw (← ss) (all_map (body_of e.share) Bytes (λ (g : ℕ). g < 256 ^ e.share) (λ (x : List ℕ) (c : Bytes x). field-small x 2 e.share c) (share_records e n s) (bytes-records (share_size e) n (drop at s) (bytes_drop at s b))));
      bytes-are = sym (plan-again e n s b h);
    }
