-- Row 0 taken apart: the parts of a state that is not corrupt, and the lists that rows 5, 6, 22 and 23 do not refuse. Assumes nothing.
use mathlib.Core.Path.{◌≡◌, ap, subst}
use mathlib.Core.Logic.{⊎_elim}
use mathlib.Core.Bool.{Bool, true, false, ◌&&◌, ◌||◌}
use mathlib.Core.List.{List, [], ◌∷◌, ◌++◌}
use mathlib.Core.Option.{Option, none}
use Prim.Native.Nat.{ℕ, suc, ◌+◌, ◌≤◌, ◌<◌}
use native.Mathlib.Nat.{eq-zero-or-pos, eq-or-lt_of_le}
use native.Mathlib.Omega.{arith}
use lib.Dec.{T, eqb, ltb, eqb→eq, lt→ltb, ltb→lt, nltb→le, not_T}
use lib.ListN.{length, get_or, set, length-append, length-set, get_or-append}
use lib.Seq.{get_or-set_same, get_or-set_other, get_or-append_seam, length-take-le}
use Rattle.sets.specs.Sum.{any}
use Rattle.sets.proofs.Test.{or_l, or_r, or_cases, and_i, and_l, and_r, T?, eq→eqb, is_false, fails}
use Rattle.sets.proofs.Sum.{any_at, any-from, all_from}
use Rattle.density.specs.declared.Site.{Site}
use Rattle.density.specs.Network.{Listing, network, site_at, no_site, depots_in_range, crews_above, uncrewed, sites_uncrewed, in_range, Valid}
use Rattle.density.specs.Rows.{first_row}
use Rattle.density.proofs.Lists.{valid}
use Rattle.records.specs.declared.Edition.{Edition}
use Rattle.records.specs.Format.{sites_of, listing_of, list_rows, read_list}
use Rattle.records.specs.Outcome.{settle, passed}
use Rattle.records.specs.Write.{Allowed}
use Rattle.records.proofs.Records.{all-at}
use Rattle.records.proofs.RoundTrip.{list_read_lem, list-allowed}
use Rattle.held_state.specs.Held.{State, list_of, plan_held, bad_site, bad_plan, corrupt}

pub neither : (a b : Bool) → (T (a || b) → ⊥) → (T a → ⊥) × (T b → ⊥)
neither a b h = (λ t. h (or_l a b t), λ t. h (or_r a b t))

pub or-not : (a b : Bool) → (T a → ⊥) → (T b → ⊥) → T (a || b) → ⊥
or-not a b f g t = ⊎_elim f g (or_cases a b t)

at_most : (m n : ℕ) → n ≤ m → T (ltb m n) → ⊥
at_most m n h t = omega (arith, ltb→lt m n t)

-- ---- lists

-- no site that rows 5 or 6 refuse, no roll that row 22 refuses, and no site that row 23 refuses
pub record Good (l : Listing) : Type 0 where
  pub sites : (i : ℕ) → i < length l.sites → T (bad_site (site_at l i)) → ⊥
  pub roll : crews_above l.roll ≡ false
  pub crewed : (i : ℕ) → i < length l.sites → T (uncrewed l.roll (site_at l i)) → ⊥

abbrev pub listing : Option (List ℕ) → List Site → Listing
listing roll xs = record { sites = xs; roll = roll }

module _ (l : Listing) (g : Good l) where
  good-depots : T (depots_in_range l)
  unfolding depots_in_range
  good-depots =
      all_from (λ i. ltb (site_at l i).first 64 && ltb (site_at l i).second 64) (length l.sites) (λ i m.
      let x = site_at l i in
      let h = (neither (ltb 63 x.first || ltb 63 x.second) (eqb x.litres 0) (g.sites i m)).0 in
      let k = neither (ltb 63 x.first) (ltb 63 x.second) h in
      let a : x.first ≤ 63 = nltb→le 63 x.first (not_T (ltb 63 x.first) k.0) in
      let b : x.second ≤ 63 = nltb→le 63 x.second (not_T (ltb 63 x.second) k.1) in
      and_i (ltb x.first 64) (ltb x.second 64) (lt→ltb x.first 64 (omega arith)) (lt→ltb x.second 64 (omega arith)))

  pub good-litres : (i : ℕ) → i < length l.sites → 0 < (site_at l i).litres
  good-litres i m =
      let x = site_at l i in
      let z = (neither (ltb 63 x.first || ltb 63 x.second) (eqb x.litres 0) (g.sites i m)).1 in
      ⊎_elim (λ e. absurd (z (eq→eqb x.litres 0 e))) (λ p. p) (eq-zero-or-pos x.litres)

  pub good-crewed : sites_uncrewed l ≡ false
  unfolding sites_uncrewed
  good-crewed =
      is_false (sites_uncrewed l) (λ t. let r = any_at (λ i. uncrewed l.roll (site_at l i)) (length l.sites) t in g.crewed r.0 r.1 r.2)

  pub good-range : T (in_range l)
  unfolding in_range
  good-range = rw (g.roll, good-crewed) (and_i (depots_in_range l && true) true (and_i (depots_in_range l) true good-depots tt) tt)

  pub good-valid : Valid (network l)
  good-valid = valid l good-range

-- a test that no site meets: with one site replaced, and with one behind
module _ (f : Site → Bool) (xs : List Site) (x : Site) (g : (i : ℕ) → i < length xs → T (f (get_or xs i no_site)) → ⊥) (h : T (f x) → ⊥) where
  set-each : (i j : ℕ) → j < length (set xs i x) → T (f (get_or (set xs i x) j no_site)) → ⊥
  set-each i j m t =
      let l : j < length xs = rw length-set at m in
      ⊎_elim
      (λ (e : T (eqb j i)).
      let k : j ≡ i = eqb→eq j i e in
      h (subst (λ (y : Site). T (f y)) (get_or-set_same xs i x no_site (rw k at l)) (subst (λ (n : ℕ). T (f (get_or (set xs i x) n no_site))) k t)))
      (λ (n : T (eqb j i) → ⊥).
      g j l (subst (λ (y : Site). T (f y)) (get_or-set_other xs i j x no_site (λ e. n (eq→eqb j i e))) t))
      (T? (eqb j i))

  add-each : (j : ℕ) → j < length (xs ++ (x ∷ [])) → T (f (get_or (xs ++ (x ∷ [])) j no_site)) → ⊥
  add-each j m t =
      let l : j < length xs + 1 = rw length-append at m in
      ⊎_elim
      (λ (e : suc j ≡ suc (length xs)).
      let k : j ≡ length xs = omega arith in
      h (subst (λ (y : Site). T (f y)) (get_or-append_seam xs x [] no_site) (subst (λ (n : ℕ). T (f (get_or (xs ++ (x ∷ [])) n no_site))) k t)))
      (λ (n : suc j < suc (length xs)).
      let k : j < length xs = omega arith in
      g j k (subst (λ (y : Site). T (f y)) (get_or-append xs (x ∷ []) no_site j k) t))
      (eq-or-lt_of_le (let n : suc j ≤ suc (length xs) = omega arith in n))

module _ (roll : Option (List ℕ)) (xs : List Site) (g : Good (listing roll xs)) where
  -- a change keeps the depots of its site
  pub good-set : (i w : ℕ) → i < length xs → (T (eqb w 0) → ⊥)
      → Good (listing roll (set xs i (record { first = (get_or xs i no_site).first; second = (get_or xs i no_site).second; litres = w })))
  good-set i w l z =
      let old = get_or xs i no_site in
      let x : Site = record { first = old.first; second = old.second; litres = w } in
      let depots = ltb 63 old.first || ltb 63 old.second in
      record {
        sites = λ j m t. set-each bad_site xs x g.sites (or-not depots (eqb w 0) (neither depots (eqb old.litres 0) (g.sites i l)).0 z) i j m t;
        roll = g.roll;
        crewed = λ j m t. set-each (uncrewed roll) xs x g.crewed (g.crewed i l) i j m t;
      }

  pub good-add : (x : Site) → (T (bad_site x) → ⊥) → (T (uncrewed roll x) → ⊥) → Good (listing roll (xs ++ (x ∷ [])))
  good-add x h k = record { sites = add-each bad_site xs x g.sites h; roll = g.roll; crewed = add-each (uncrewed roll) xs x g.crewed k }

some-uncrewed : (l : Listing) (i : ℕ) → i < length l.sites → T (uncrewed l.roll (site_at l i)) → T (sites_uncrewed l)
unfolding sites_uncrewed
some-uncrewed l i m t = any-from (λ i. uncrewed l.roll (site_at l i)) (length l.sites) i m t

-- ---- a list that no row refuses

pub record Read (e : Edition) (places : ℕ) (s : List ℕ) : Type 0 where
  pub few : length (sites_of e s) ≤ 512
  pub room : length (sites_of e s) ≤ places
  pub good : Good (listing_of e s)

not-bad : (x : Site) → Allowed x → T (bad_site x) → ⊥
not-bad x a =
    or-not (ltb 63 x.first || ltb 63 x.second) (eqb x.litres 0)
    (or-not (ltb 63 x.first) (ltb 63 x.second) (at_most 63 x.first a.first) (at_most 63 x.second a.second))
    (λ t. let n : x.litres ≡ 0 = eqb→eq x.litres 0 t in omega (arith, a.some))

pub read-list : (e : Edition) (places : ℕ) (s : List ℕ) → first_row (list_rows e places s) ≡ none → Read e places s
unfolding read_list
read-list e places s h =
    let l = listing_of e s in
    let passes : read_list e places s ≡ passed l = ap (λ (o : Option ℕ). settle o l) h in
    let r = list_read_lem e places s passes in
    record {
      few = rw r.count r.few;
      room = rw r.count r.room;
      good =
          record {
            sites = λ i m t. not-bad (site_at l i) (all-at Allowed no_site l.sites (list-allowed e places s passes) i m) t;
            roll = r.few-crews;
            crewed = λ i m t. fails (sites_uncrewed l) r.crewed (some-uncrewed l i m t);
          };
    }

-- ---- states

pub record Intact (s : State) : Type 0 where
  pub few : s.store.count ≤ 512
  pub room : s.store.count ≤ length s.table
  pub good : Good (list_of s)
  pub groups : T s.store.held → s.store.grouped ≤ 64
  pub plan : T s.store.held → T (bad_plan (list_of s) (plan_held s)) → ⊥

module _ (s : State) where
  -- the tests of row 0
  abbrev above : Bool
  above = ltb 512 s.store.count

  abbrev beyond : Bool
  beyond = ltb (length s.table) s.store.count

  abbrev bad : ℕ → Bool
  bad i = bad_site (site_at (list_of s) i)

  abbrev rolls : Bool
  rolls = crews_above (list_of s).roll

  abbrev lacking : Bool
  lacking = sites_uncrewed (list_of s)

  abbrev many : Bool
  many = ltb 64 s.store.grouped

  abbrev broken : Bool
  broken = bad_plan (list_of s) (plan_held s)

  pub sized : s.store.count ≤ length s.table → length (list_of s).sites ≡ s.store.count
  sized h = length-take-le s.store.count s.table h

  pub intact→ : corrupt s ≡ false → Intact s
  unfolding corrupt
  intact→ e =
      let a = neither (above || beyond || any bad s.store.count || rolls || lacking) (s.store.held && (many || broken)) (fails (corrupt s) e) in
      let l = neither (above || beyond || any bad s.store.count || rolls) lacking a.0 in
      let r = neither (above || beyond || any bad s.store.count) rolls l.0 in
      let b = neither (above || beyond) (any bad s.store.count) r.0 in
      let c = neither above beyond b.0 in
      let d : T s.store.held → (T many → ⊥) × (T broken → ⊥) = λ t. neither many broken (λ u. a.1 (and_i s.store.held (many || broken) t u)) in
      let room : s.store.count ≤ length s.table = nltb→le (length s.table) s.store.count (not_T beyond c.1) in
      record {
        few = nltb→le 512 s.store.count (not_T above c.0);
        room = room;
        good =
            record {
              sites = λ i m t. b.1 (any-from bad s.store.count i (rw (sized room) at m) t);
              roll = is_false rolls r.1;
              crewed = λ i m t. l.1 (some-uncrewed (list_of s) i m t);
            };
        groups = λ t. nltb→le 64 s.store.grouped (not_T many (d t).0);
        plan = λ t. (d t).1;
      }

  pub →intact : Intact s → corrupt s ≡ false
  unfolding corrupt
  →intact h =
      is_false (corrupt s)
      (or-not (above || beyond || any bad s.store.count || rolls || lacking) (s.store.held && (many || broken))
      (or-not (above || beyond || any bad s.store.count || rolls) lacking
      (or-not (above || beyond || any bad s.store.count) rolls
      (or-not (above || beyond) (any bad s.store.count)
      (or-not above beyond (λ t. at_most 512 s.store.count h.few t) (λ t. at_most (length s.table) s.store.count h.room t))
      (λ t. let r = any_at bad s.store.count t in h.good.sites r.0 (rw (sized h.room) r.1) r.2))
      (fails rolls h.good.roll))
      (fails lacking (good-crewed (list_of s) h.good)))
      (λ t. let g = and_l s.store.held (many || broken) t in
      or-not many broken (λ u. at_most 64 s.store.grouped (h.groups g) u) (h.plan g) (and_r s.store.held (many || broken) t)))
