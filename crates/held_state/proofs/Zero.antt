-- Row 0, test by test, on the values. Assumes nothing.
use mathlib.Core.Path.{◌≡◌, refl, sym, ap, ap₂, ◌∙◌}
use mathlib.Core.Bool.{Bool, true, false, ◌&&◌, ◌||◌}
use mathlib.Core.List.{List, [], ◌∷◌}
use Prim.Native.Nat.{ℕ, ◌≤◌, ◌<◌}
use native.Mathlib.Omega.{arith}
use borrow.Author.Tests.{lt-ltb, le-ltb}
use lib.Dec.{ltb, nltb→le, not_T}
use lib.ListN.{length, get_or, take}
use lib.Seq.{get_or-take, length-take-le}
use Rattle.sets.specs.Sum.{any}
use Rattle.sets.proofs.Test.{fails}
use Rattle.sets.proofs.Sum.{any-from, any-cong}
use Rattle.density.specs.declared.Site.{Site}
use Rattle.density.specs.Network.{Listing, network, no_site, site_at, crews_above, uncrewed, sites_uncrewed}
use Rattle.density.specs.Rows.{Row, row, first_row, plan_rows}
use Rattle.records.specs.declared.ListArray.{ListArray}
use Rattle.records.specs.declared.PlanArray.{PlanArray}
use Rattle.records.specs.declared.RollArray.{RollArray}
use Rattle.records.specs.Values.{Plan, roll_in, listing, plan_in}
use Rattle.std.specs.declared.option.Option.TheVariants.{None, Some}
use Rattle.std.specs.declared.result.Result.{Result}
use Rattle.std.specs.declared.result.Result.TheVariants.{Ok, Err}
use Rattle.records.specs.declared.refusal.Refusal.{Refusal}
use Rattle.records.specs.declared.refusal.Refusal.TheVariants.{CorruptStore}
use Rattle.records.specs.Refusals.{refusal_of}
use mathlib.Core.Option.{Option, none, some}
use Rattle.tables.specs.Tables.{Counted, Formed, lent_plan}
use Rattle.tables.specs.declared.Form.{Form}
use Rattle.held_state.specs.declared.Summary.{Summary}
use Rattle.held_state.specs.Held.{State, list_of, plan_held, bad_site, bad_plan, corrupt}
use Rattle.held_state.specs.Values.{Stands, BadKnown, Examined}
use Rattle.held_state.proofs.Intact.{good-range, neither, sized}

-- ---- a verdict on the form

-- whether a test, or one of the rows, applies
unfoldable applies : Bool → List Row → Bool
applies x [] = x
applies x (row n b ∷ rows) = applies (x || b) rows

one-applies : (rows : List Row) → applies true rows ≡ true
unfolding applies
one-applies [] = refl
one-applies (row n b ∷ rows) = one-applies rows

-- whether a row refuses
abbrev refuses : Option ℕ → Bool
refuses none = false
refuses (some n) = true

refused-applies : (rows : List Row) → refuses (first_row rows) ≡ applies false rows
unfolding first_row applies
refused-applies [] = refl
refused-applies (row k true ∷ rows) = sym (one-applies rows)
refused-applies (row k false ∷ rows) = refused-applies rows

-- rows 12 to 14 refuse what row 0 calls a bad plan
form-refuses : (l : Listing) (p : Plan) → refuses (first_row (take 3 (plan_rows (network l) p.groups p.shares))) ≡ bad_plan l p
unfolding applies plan_rows
form-refuses l p = refused-applies (take 3 (plan_rows (network l) p.groups p.shares))

-- ---- the tests

-- more sites than places
abbrev pub far : ListArray → Summary → Bool
far list k = ltb 512 list.count || ltb k.places list.count

pub near : (list : ListArray) (k : Summary) → far list k ≡ false → (list.count ≤ 512) × (list.count ≤ k.places)
near list k e =
    let n = neither (ltb 512 list.count) (ltb k.places list.count) (fails (far list k) e) in
    (nltb→le 512 list.count (not_T (ltb 512 list.count) n.0), nltb→le k.places list.count (not_T (ltb k.places list.count) n.1))

-- a roll that row 22 refuses, and a site that row 23 refuses
abbrev pub above : ListArray → Bool
above list = crews_above (roll_in list.roll)

abbrev lacks : ListArray → ℕ → Bool
lacks list i = uncrewed (roll_in list.roll) (get_or list.sites i no_site)

abbrev pub lacking : ListArray → Bool
lacking list = any (lacks list) list.count

-- rows 5, 6, 22 and 23 refuse nothing that is held
abbrev pub Sound : ListArray → Summary → Type 0
Sound list k = (k.bad ≡ false) × (above list ≡ false) × (lacking list ≡ false)

-- what a plan's form is tried on
pub counted : (list : ListArray) (k : Summary) → length list.sites ≡ 512 → BadKnown list k → far list k ≡ false → Sound list k
    → (plan : PlanArray) → plan.count ≤ 64 → Counted list plan
counted list k wide marked e b plan l =
    let n = near list k e in
    let bad : ℕ → Bool = λ i. bad_site (get_or list.sites i no_site) in
    let none-bad : any bad list.count ≡ false = sym (marked n.0 n.1) ∙ b.0 in
    let long : length (take list.count list.sites) ≡ list.count = length-take-le list.count list.sites (omega (arith, n.0)) in
    record {
      sites = n.0;
      groups = l;
      range = good-range (listing list)
          (record {
            sites = λ i m t.
                let here : i < list.count = omega arith in
                fails (any bad list.count) none-bad (any-from bad list.count i here (rw (get_or-take list.count list.sites i no_site here) at t));
            roll = b.1;
            crewed = λ i m t.
                let here : i < list.count = omega arith in
                fails (lacking list) b.2 (any-from (lacks list) list.count i here (rw (get_or-take list.count list.sites i no_site here) at t));
          });
    }

module _ (s : State) (list : ListArray) (k : Summary) (gs ss : List ℕ) (t : Stands s list k gs ss) where
  far-is : (ltb 512 s.store.count || ltb (length s.table) s.store.count) ≡ far list k
  far-is = rw (sym t.count, sym t.places)

  zero-far : far list k ≡ true → true ≡ corrupt s
  unfolding corrupt
  zero-far e = sym (rw (far-is ∙ e))

  -- the plan held
  pub plan-is : list.count ≤ 512 → k.grouped ≤ 64 → plan_in (lent_plan k.grouped gs ss) list.count ≡ plan_held s
  plan-is few l =
      ap₂ (λ (a b : List ℕ). record { groups = a; shares = b })
      (t.groups l ∙ ap (λ (n : ℕ). take n s.store.groups) t.grouped)
      (t.shares few ∙ ap (λ (n : ℕ). take n s.store.shares) t.count)

  -- the list held
  pub list-is : list.count ≤ 512 → list.count ≤ k.places → listing list ≡ list_of s
  list-is few room =
      ap₂ (λ (xs : List Site) (r : RollArray). record { sites = xs; roll = roll_in r }) (t.sites few room ∙ ap (λ (n : ℕ). take n s.table) t.count) t.roll

  module _ (marked : BadKnown list k) (e : far list k ≡ false) where
    few : list.count ≤ 512
    few = (near list k e).0

    same : listing list ≡ list_of s
    same = list-is few (near list k e).1

    bad-is : any (λ i. bad_site (site_at (list_of s) i)) s.store.count ≡ k.bad
    bad-is =
        ap₂ (λ (l : Listing) (n : ℕ). any (λ i. bad_site (site_at l i)) n) (sym same) (sym t.count)
        ∙ any-cong _ _ list.count (λ i l. ap bad_site (get_or-take list.count list.sites i no_site l))
        ∙ sym (marked few (near list k e).1)

    above-is : crews_above (list_of s).roll ≡ above list
    above-is = ap (λ (r : RollArray). crews_above (roll_in r)) (sym t.roll)

    lacking-is : sites_uncrewed (list_of s) ≡ lacking list
    unfolding sites_uncrewed
    lacking-is =
        let room : s.store.count ≤ length s.table = omega (arith, (near list k e).1, t.count, t.places) in
        ap (any (λ i. uncrewed (list_of s).roll (site_at (list_of s) i))) (sized s room)
        ∙ ap₂ (λ (l : Listing) (n : ℕ). any (λ i. uncrewed l.roll (site_at l i)) n) (sym same) (sym t.count)
        ∙ any-cong _ _ list.count (λ i l. ap (uncrewed (roll_in list.roll)) (get_or-take list.count list.sites i no_site l))

    -- the tests of the sites, of the roll and of the plan
    zero_rest : (b r c h m : Bool) → k.bad ≡ b → above list ≡ r → lacking list ≡ c → k.held ≡ h → ltb 64 k.grouped ≡ m
        → corrupt s ≡ (b || r || c || (h && (m || bad_plan (list_of s) (plan_held s))))
    unfolding corrupt
    zero_rest b r c h m x v w y z = rw (far-is ∙ e, bad-is ∙ x, above-is ∙ v, lacking-is ∙ w, sym t.held ∙ y, ap (ltb 64) (sym t.grouped) ∙ z)

    zero-bad : k.bad ≡ true → true ≡ corrupt s
    zero-bad b = sym (zero_rest true _ _ _ _ b refl refl refl refl)

    zero-above : k.bad ≡ false → above list ≡ true → true ≡ corrupt s
    zero-above b r = sym (zero_rest false true _ _ _ b r refl refl refl)

    zero-lacking : k.bad ≡ false → above list ≡ false → lacking list ≡ true → true ≡ corrupt s
    zero-lacking b r c = sym (zero_rest false false true _ _ b r c refl refl)

    module _ (b : Sound list k) where
      zero-none : k.held ≡ false → false ≡ corrupt s
      zero-none h = sym (zero_rest false false false false _ b.0 b.1 b.2 h refl)

      zero-many : k.held ≡ true → 64 < k.grouped → true ≡ corrupt s
      zero-many h l = sym (zero_rest false false false true true b.0 b.1 b.2 h (lt-ltb 64 k.grouped l))

      zero-plan : k.held ≡ true → k.grouped ≤ 64 → bad_plan (listing list) (plan_in (lent_plan k.grouped gs ss) list.count) ≡ corrupt s
      zero-plan h l = ap₂ bad_plan same (plan-is few l) ∙ sym (zero_rest false false false true false b.0 b.1 b.2 h (le-ltb 64 k.grouped l))

-- ---- what row 0 finds

module _ (list : ListArray) (k : Summary) (gs ss : List ℕ) (ws : List ℕ) where
  abbrev plan : PlanArray
  plan = lent_plan k.grouped gs ss

  -- a refusal leaves nothing
  refused : ((s : State) → Stands s list k gs ss → true ≡ corrupt s) → Examined list k plan (Err CorruptStore) ws
  refused z = record { zero = z; row = refl; few = tt; kept = tt }

  pub examined-far : far list k ≡ true → Examined list k plan (Err CorruptStore) ws
  examined-far e = refused (λ s t. zero-far s list k gs ss t e)

  module _ (marked : BadKnown list k) (e : far list k ≡ false) where
    pub examined-bad : k.bad ≡ true → Examined list k plan (Err CorruptStore) ws
    examined-bad b = refused (λ s t. zero-bad s list k gs ss t marked e b)

    pub examined-above : k.bad ≡ false → above list ≡ true → Examined list k plan (Err CorruptStore) ws
    examined-above b c = refused (λ s t. zero-above s list k gs ss t marked e b c)

    pub examined-lacking : k.bad ≡ false → above list ≡ false → lacking list ≡ true → Examined list k plan (Err CorruptStore) ws
    examined-lacking b c d = refused (λ s t. zero-lacking s list k gs ss t marked e b c d)

    module _ (b : Sound list k) where
      pub examined-none : k.held ≡ false → Examined list k plan (Ok None) ws
      examined-none h =
          record {
            zero = λ s t. zero-none s list k gs ss t marked e b h;
            row = tt;
            few = (near list k e).0;
            kept = h;
          }

      pub examined-many : k.held ≡ true → 64 < k.grouped → Examined list k plan (Err CorruptStore) ws
      examined-many h l = refused (λ s t. zero-many s list k gs ss t marked e b h l)

      module _ (h : k.held ≡ true) (l : k.grouped ≤ 64) where
        tried : {r : Result Form Refusal} → Formed list plan r ws → (s : State) → Stands s list k gs ss → refuses (refusal_of r) ≡ corrupt s
        tried f s t = ap refuses f.refusal ∙ form-refuses (listing list) (plan_in plan list.count) ∙ zero-plan s list k gs ss t marked e b h l

        pub examined-refused : {x : Refusal} → Formed list plan (Err x) ws → Examined list k plan (Err CorruptStore) ws
        examined-refused f = refused (λ s t. tried f s t)

        pub examined-plan : {f : Form} → Formed list plan (Ok f) ws → Examined list k plan (Ok (Some f)) ws
        examined-plan f = record { zero = λ s t. tried f s t; row = tt; few = (near list k e).0; kept = (h, f.passed) }
