-- Document 02, g): a list with a roll of ones and the same list without a roll let the same plans pass, as files. Assumes nothing.
use mathlib.Core.Path.{◌≡◌, refl, sym, ap, subst, ◌∙◌}
use mathlib.Core.Logic.{◌↔◌, ⊎_elim}
use mathlib.Core.Bool.{true}
use mathlib.Core.List.{List, [], ◌∷◌, ◌++◌, append_assoc, append-nil}
use mathlib.Core.Option.{Option, none, some}
use Prim.Native.Nat.{ℕ}
use native.Mathlib.Omega.{arith}
use lib.Dec.{T, ltb, eqb, ltb→lt, eqb→eq}
use lib.ListN.{length, get_or}
use Rattle.sets.specs.Sum.{any}
use Rattle.sets.proofs.Test.{or_l, or_r, or_cases, is_false, eq→eqb, when-on, when-≤}
use Rattle.sets.proofs.Sum.{any_at, any-from}
use Rattle.density.specs.Network.{Listing, names, site_at, named, network, uncrewed, crews_above, sites_uncrewed, depots_in_range, with_roll, RollOfOnes}
use Rattle.density.specs.Plan.{TruePlan}
use Rattle.density.proofs.Lists.{range-depots, named_small}
use Rattle.density.proofs.Rolls.{ones-pass}
use Rattle.records.specs.declared.Edition.{Edition}
use Rattle.records.specs.Bytes.{Bytes, le}
use Rattle.records.specs.Values.{Plan}
use Rattle.records.specs.Outcome.{Outcome, refused, passed}
use Rattle.records.specs.Format.{edition2, read_list}
use Rattle.records.specs.Write.{Marked, Crewed, roll_bytes, list_bytes}
use Rattle.records.proofs.RoundTrip.{list-range, list-few, list-good, list-again, list_back}
use Rattle.records.proofs.Samples.{marked2}
use Rattle.readers.proofs.Editions.{names2}
use Rattle.judge.specs.Check.{check_row, checked_row, True, TrueOf}
use Rattle.judge.proofs.Truth.{formed, check-true-by}

-- ---- two files, by what they read as

-- the list that was read
abbrev read : Outcome Listing → Listing
read (refused n) = record { sites = []; roll = none }
read (passed l) = l

-- a plan true of one list is true of the other, if true plans of one are true plans of the other
turned : (e : Edition) (l m : Listing) → l.sites ≡ m.sites → (p : Plan) (s : List ℕ)
    → (TruePlan (network l) p.groups p.shares → TruePlan (network m) p.groups p.shares) → True e l p s → True e m p s
turned e l m same p s f t =
    let r = f (record { form = formed e l p s t.layout; groups = t.groups; shares = t.shares }) in
    let o = t.layout in
    record {
      layout = record { few = o.few; sets = o.sets; each = o.each ∙ ap length same; fits = o.fits; bytes-are = o.bytes-are };
      groups = r.groups;
      shares = r.shares;
    }

module _ (e : Edition) (l : Listing) (roll : List ℕ) (a b : List ℕ)
    (with : read_list e 512 a ≡ passed (with_roll l (some roll))) (without : read_list e 512 b ≡ passed (with_roll l none)) (ones : RollOfOnes l roll) where
  range : T (depots_in_range l)
  unfolding depots_in_range
  range = range-depots (with_roll l none) (list-range e 512 b without)

  -- what was read is the list
  is : (s : List ℕ) (k : Listing) {m : Listing} → read_list e 512 s ≡ passed k → read_list e 512 s ≡ passed m → m ≡ k
  is s k h g = ap read (sym g ∙ h)

  pub ones-check-by : Marked e → (plan : List ℕ) → Bytes plan → check_row e a plan ≡ none ↔ check_row e b plan ≡ none
  ones-check-by m plan bytes = (
    λ h. (check-true-by e b plan m bytes).1 (to ((check-true-by e a plan m bytes).0 h)),
    λ h. (check-true-by e a plan m bytes).1 (from ((check-true-by e b plan m bytes).0 h)),
  )
    where
      to : TrueOf e a plan → TrueOf e b plan
      to t = (
        with_roll l none,
        t.1,
        without,
        turned e (with_roll l (some roll)) (with_roll l none) refl t.1 plan (ones-pass l roll range ones t.1.groups t.1.shares).0
            (subst (λ (k : Listing). True e k t.1 plan) (is a (with_roll l (some roll)) with t.2) t.3),
      )

      from : TrueOf e b plan → TrueOf e a plan
      from t = (
        with_roll l (some roll),
        t.1,
        with,
        turned e (with_roll l none) (with_roll l (some roll)) refl t.1 plan (ones-pass l roll range ones t.1.groups t.1.shares).1
            (subst (λ (k : Listing). True e k t.1 plan) (is b (with_roll l none) without t.2) t.3),
      )

-- ---- one file, and the same with 66 bytes behind it

-- rows 22 and 23 do not refuse a roll of ones
module _ (e : Edition) (l : Listing) (range : T (depots_in_range l)) (roll : List ℕ) (ones : RollOfOnes l roll) where
  some-crew : (d : ℕ) → T (named l d) → T (eqb (get_or roll d 0) 0) → ⊥
  some-crew d t z = omega (arith, eqb→eq (get_or roll d 0) 0 z, ones d (named_small l range d t), when-on (named l d) 1 t)

  ones-crewed : e.roll ≡ true → length roll ≡ 64 → Crewed e (with_roll l (some roll))
  unfolding crews_above sites_uncrewed
  ones-crewed rolls long =
      record {
        whole = (rolls, long);
        few-crews = is_false _ (λ t. let r = any_at (λ d. ltb 9 (get_or roll d 0)) 64 t in omega (arith, ltb→lt 9 (get_or roll r.0 0) r.2, ones r.0 r.1, when-≤ (named l r.0) 1));
        crewed = is_false _ each;
      }
    where
      each : T (any (λ i. uncrewed (some roll) (site_at l i)) (length l.sites)) → ⊥
      each t =
          let r = any_at (λ i. uncrewed (some roll) (site_at l i)) (length l.sites) t in
          let s = site_at l r.0 in
          ⊎_elim (some-crew s.first (any-from (λ i. names (site_at l i) s.first) (length l.sites) r.0 r.1 (or_l (eqb s.first s.first) (eqb s.second s.first) (eq→eqb s.first s.first refl))))
          (some-crew s.second (any-from (λ i. names (site_at l i) s.second) (length l.sites) r.0 r.1 (or_r (eqb s.first s.second) (eqb s.second s.second) (eq→eqb s.second s.second refl))))
          (or_cases (eqb (get_or roll s.first 0) 0) (eqb (get_or roll s.second 0) 0) r.2)

-- the file of a list without a roll, with a roll behind it, is that of the list with the roll
roll-behind : (e : Edition) (l : Listing) (roll : List ℕ) → l.roll ≡ none → list_bytes e (with_roll l (some roll)) ≡ list_bytes e l ++ roll_bytes e (some roll)
unfolding list_bytes
roll-behind e l roll h = rw (h, append-nil, append_assoc, append_assoc)

-- so it reads as that list
ones-read : (e : Edition) → Marked e → e.roll ≡ true → (file : List ℕ) → Bytes file → (l : Listing) → read_list e 512 file ≡ passed l → l.roll ≡ none
    → (roll : List ℕ) → length roll ≡ 64 → RollOfOnes l roll → read_list e 512 (file ++ roll_bytes e (some roll)) ≡ passed (with_roll l (some roll))
ones-read e m rolls file b l r bare roll long ones =
    let few = (list-few e 512 file r).0 in
    let same = roll-behind e l roll bare ∙ ap (λ (s : List ℕ). s ++ roll_bytes e (some roll)) (list-again e 512 file b r) in
    ap (read_list e 512) (sym same)
    ∙ list_back e m (with_roll l (some roll)) few (ones-crewed e l (range-depots l (list-range e 512 file r)) roll ones rolls long) 512 few (list-good e 512 file b r)

-- "A roll with 1 for each depot that a site names and 0 for every other lets exactly those plans pass that pass without a roll": the file of a list of edition 2 without a roll, and the same file with 44 52
-- and the 64 bytes of such a roll behind it
pub ones-check : (file : List ℕ) → Bytes file → (l : Listing) → read_list edition2 512 file ≡ passed l → l.roll ≡ none → (roll : List ℕ) → length roll ≡ 64 → RollOfOnes l roll
    → (plan : List ℕ) → Bytes plan → checked_row (file ++ (0x44 ∷ 0x52 ∷ roll)) plan ≡ none ↔ checked_row file plan ≡ none
unfolding le
ones-check file b l r bare roll long ones plan bytes =
    let with = ones-read edition2 marked2 refl file b l r bare roll long ones in
    let without = r ∙ ap (λ (x : Option (List ℕ)). passed (with_roll l x)) bare in
    rw (names2 (file ++ (0x44 ∷ 0x52 ∷ roll)) with, names2 file r) (ones-check-by edition2 l roll (file ++ (0x44 ∷ 0x52 ∷ roll)) file with without ones marked2 plan bytes)
