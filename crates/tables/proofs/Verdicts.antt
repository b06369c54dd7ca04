-- From the rows to the verdict, and what rows 14 to 16 are tried on. Assumes nothing.
use mathlib.Core.Path.{◌≡◌, refl, sym, ap, ◌∙◌}
use mathlib.Core.Bool.{Bool, true, false, cond}
use mathlib.Core.List.{List}
use mathlib.Core.Option.{Option, none, some}
use Prim.Native.Nat.{ℕ, ◌+◌, ◌<◌, ◌^◌}
use native.Mathlib.Omega.{arith}
use lib.ListN.{length, get_or, take, replicate}
use lib.Seq.{get_or-take, length-take-le}
use Rattle.std.specs.declared.result.Result.{Result}
use Rattle.std.specs.declared.result.Result.TheVariants.{Ok, Err}
use Rattle.sets.specs.Sum.{sum}
use Rattle.sets.specs.Set.{set_of}
use Rattle.density.specs.Network.{Listing, Network, crews_of, network}
use Rattle.density.specs.Plan.{place, group_size}
use Rattle.density.specs.Rows.{first_row, plan_rows, groups_meet, groups_unlisted, shares_broken, loads_uneven, groups_rise}
use Rattle.records.specs.declared.ListArray.{ListArray}
use Rattle.records.specs.declared.PlanArray.{PlanArray}
use Rattle.records.specs.declared.refusal.Refusal.{Refusal}
use Rattle.records.specs.Values.{roll_in, listing}
use Rattle.records.specs.Refusals.{number, refusal_of}
use Rattle.tables.specs.declared.Tally.{Tally}
use Rattle.tables.specs.declared.Form.{Form}
use Rattle.tables.specs.Tables.{net, groups_in, shares_in, Holds, Counted, Ready, Tables, Litres, Tallied, part_of, Parts, Levels, form_rows, Kept, Small}
use Rattle.density.proofs.Lists.{valid}
use Rattle.tables.proofs.Arrays.{from_zero}
use Rattle.tables.proofs.Groups.{unlisted-is, listed-is, crews-net}
use Rattle.tables.proofs.Shares.{sizes-few}
use Rattle.tables.proofs.Totals.{parts, parts-load}

-- what an answer says of the row
pub verdict-refused : {A : Type 0} (o : Option ℕ) {r : Result A Refusal} {e : Refusal} → refusal_of r ≡ o → r ≡ Err e → o ≡ some (number e)
verdict-refused o is h = sym is ∙ ap refusal_of h

pub verdict-passes : {A : Type 0} (o : Option ℕ) {r : Result A Refusal} {a : A} → refusal_of r ≡ o → r ≡ Ok a → o ≡ none
verdict-passes o is h = sym is ∙ ap refusal_of h

never : (n : ℕ) → ◌≡◌ {A = Option ℕ} (some n) none → ⊥
never n e = let z : ◌≡◌ {A = ℕ} 0 1 = cc in omega arith

-- rows 12 to 14, by what each tests
abbrev three : Bool → Bool → Bool → Option ℕ → Option ℕ
three a b c later = cond a (some 12) (cond b (some 13) (cond c (some 14) later))

passed : (a b c : Bool) → three a b c none ≡ none → (a ≡ false) × (b ≡ false) × (c ≡ false)
passed true b c e = absurd (never 12 e)
passed false true c e = absurd (never 13 e)
passed false false true e = absurd (never 14 e)
passed false false false e = (refl, refl, refl)

refused : (a b c : Bool) (later : Option ℕ) (n : ℕ) → three a b c none ≡ some n → three a b c later ≡ some n
refused true b c later n e = e
refused false true c later n e = e
refused false false true later n e = e
refused false false false later n e = absurd (never n (sym e))

-- the pass over the sites says what rows 13 and 14 ask
forms : (a b c broken : Bool) → (b ≡ false → broken ≡ c) → three a b broken none ≡ three a b c none
forms true b c broken h = refl
forms false true c broken h = refl
forms false false c broken h = rw (h refl)

pub form-rows : (N : Network) (gs ss : List ℕ) (listed : ℕ) (broken : Bool) → listed ≡ set_of N.listed 64 → (groups_unlisted N gs ≡ false → broken ≡ shares_broken N gs ss)
    → (first_row (form_rows gs listed broken)) ≡ (first_row (take 3 (plan_rows N gs ss)))
unfolding first_row plan_rows
form-rows N gs ss listed broken e h = rw (e, unlisted-is N gs) (forms (groups_meet gs) (groups_unlisted N gs) (shares_broken N gs ss) broken h)

module _ (N : Network) (gs ss : List ℕ) where
  -- a verdict on the form says which rows do not apply, or is the verdict
  pub form→ : (first_row (take 3 (plan_rows N gs ss))) ≡ none → (groups_meet gs ≡ false) × (groups_unlisted N gs ≡ false) × (shares_broken N gs ss ≡ false)
  unfolding first_row plan_rows
  form→ e = passed (groups_meet gs) (groups_unlisted N gs) (shares_broken N gs ss) e

  pub form-refused : (n : ℕ) → (first_row (take 3 (plan_rows N gs ss))) ≡ some n → (first_row (plan_rows N gs ss)) ≡ some n
  unfolding first_row plan_rows
  form-refused n e = refused (groups_meet gs) (groups_unlisted N gs) (shares_broken N gs ss) _ n e

  module _ (form : (first_row (take 3 (plan_rows N gs ss))) ≡ none) where
    pub row-15 : loads_uneven N gs ss ≡ true → some 15 ≡ (first_row (plan_rows N gs ss))
    unfolding first_row plan_rows
    row-15 e = let f = form→ form in rw (f.0, f.1, f.2, e)

    module _ (even : loads_uneven N gs ss ≡ false) where
      pub row-16 : groups_rise N gs ≡ true → some 16 ≡ (first_row (plan_rows N gs ss))
      unfolding first_row plan_rows
      row-16 e = let f = form→ form in rw (f.0, f.1, f.2, even, e)

      pub plan-passes : groups_rise N gs ≡ false → none ≡ (first_row (plan_rows N gs ss))
      unfolding first_row plan_rows
      plan-passes e = let f = form→ form in rw (f.0, f.1, f.2, even, e)

-- ---- what rows 14 to 16 are tried on

pub ready : (list : ListArray) (plan : PlanArray) → Counted list plan → length list.sites ≡ 512 → length plan.groups ≡ 64
    → ((k : ℕ) → get_or plan.groups k 0 < 2 ^ 64) → groups_unlisted (net list) (groups_in list plan) ≡ false → Ready list plan
ready list plan n wide deep low e =
    record {
      counted = n;
      places = (wide, deep);
      listed = listed-is (net list) (valid (listing list) n.range) (groups_in list plan) (λ k l. rw (get_or-take plan.count plan.groups k 0 (omega (arith, long))) (low k)) e;
    }
  where
    long : length (groups_in list plan) ≡ plan.count
    long = length-take-le plan.count plan.groups (omega (arith, n.groups, deep))

pub tables-of : (list : ListArray) (plan : PlanArray) → Counted list plan → length plan.groups ≡ 64 → (places sizes : List ℕ) → length places ≡ 64 → length sizes ≡ 64
    → Holds places (place (groups_in list plan)) 64
    → ((l : Listing) → l.roll ≡ roll_in list.roll → Holds sizes (group_size (network l) (groups_in list plan)) (length (groups_in list plan))) → Tables list plan places sizes
tables-of list plan n deep places sizes p q h k =
    record {
      length-places = p;
      length-sizes = q;
      place = h;
      size = λ i l. k (listing list) refl i (omega (arith, long));
    }
  where
    long : length (groups_in list plan) ≡ plan.count
    long = length-take-le plan.count plan.groups (omega (arith, n.groups, deep))

module _ (list : ListArray) (plan : PlanArray) (r : Ready list plan) where
  pub tables : (places sizes : List ℕ) → length places ≡ 64 → length sizes ≡ 64 → Holds places (place (groups_in list plan)) 64
      → ((l : Listing) → l.roll ≡ roll_in list.roll → Holds sizes (group_size (network l) (groups_in list plan)) (length (groups_in list plan))) → Tables list plan places sizes
  tables = tables-of list plan r.counted r.places.1

  pub small : (places sizes litres : List ℕ) → Tables list plan places sizes → Litres list places litres → length litres ≡ 64 → Small litres sizes plan.count
  small places sizes litres t w e =
      record {
        count = r.counted.groups;
        lengths = (e, t.length-sizes);
        litre = λ k l. w.low k (omega (arith, r.counted.groups));
        size = sizes-few list plan r places sizes t;
      }

-- ---- what rows 12 to 14 leave to the later ones

pub formed : (list : ListArray) (plan : PlanArray) (n : Counted list plan) → length list.sites ≡ 512 → length plan.groups ≡ 64 → ((k : ℕ) → get_or plan.groups k 0 < 2 ^ 64)
    → (places sizes : List ℕ) → Tables list plan places sizes → (t : Tally) (ws : List ℕ) → length t.litres ≡ 64
    → (t.listed ≡ set_of (net list).listed 64) × (Ready list plan → Tallied list plan places t ws)
    → (v : Option ℕ) → v ≡ first_row (form_rows (groups_in list plan) t.listed t.broken)
    → (v ≡ first_row (take 3 (plan_rows (net list) (groups_in list plan) (shares_in list plan))))
    × (v ≡ none → Kept list plan (record { listed = t.listed; places = places; sizes = sizes; litres = t.litres }) ws)
formed list plan n wide deep low places sizes tabled t ws long found v e = (
  is,
  λ p.
      let f = form→ (net list) (groups_in list plan) (shares_in list plan) (sym is ∙ p) in
      let y = ready list plan n wide deep low f.1 in
      let sums = (found.1 y).sums ((found.1 y).broken ∙ f.2) in
      record {
        ready = y;
        shares = f.2;
        listed = found.0;
        tables = tabled;
        litres = (long, sums.0);
        wholes = sums.1;
      },
)
  where
    is : v ≡ first_row (take 3 (plan_rows (net list) (groups_in list plan) (shares_in list plan)))
    is = e ∙ form-rows (net list) (groups_in list plan) (shares_in list plan) t.listed t.broken found.0 (λ u. (found.1 (ready list plan n wide deep low u)).broken)

-- what the scaled loads are summed from, and what row 15 is tried on
module _ {list : ListArray} {plan : PlanArray} {r : Form} {ws : List ℕ} (k : Kept list plan r ws) (many : length plan.shares ≡ 512) where
  pub kept-parts : Parts list plan.shares ws
  kept-parts = parts list plan k.ready many ws k.wholes k.shares

  pub kept-levels : (crews : List ℕ) → Holds crews (crews_of (roll_in list.roll)) 64 → (sums : List ℕ) → Holds sums (λ d. get_or (replicate 64 0) d 0 + sum (part_of list plan.shares ws d) list.count) 64 → Levels list plan r.listed r.places r.litres crews sums
  kept-levels crews c sums h =
      record {
        ready = k.ready;
        listed = k.listed;
        place = k.tables.place;
        litres = k.litres.1;
        crews = crews-net (listing list) (roll_in list.roll) crews refl c;
        loads = parts-load list plan k.ready many ws k.wholes sums (from_zero sums _ h);
      }
