-- What a reader's answer says, for its callers. Assumes nothing.
use Prim.Native.Nat.{ℕ, ◌≤◌}
use mathlib.Core.List.{List}
use mathlib.Core.Option.{Option, none, some}
use mathlib.Core.Path.{◌≡◌, refl, sym, ap, ◌∙◌, subst}
use native.Mathlib.Omega.{arith}
use lib.Dec.{T}
use lib.ListN.{length}
use lib.Seq.{take-append_seam}
use Rattle.std.specs.declared.result.Result.{Result}
use Rattle.std.specs.declared.result.Result.TheVariants.{Ok, Err}
use Rattle.density.specs.Network.{Listing, in_range}
use Rattle.records.specs.declared.Edition.{Edition}
use Rattle.records.specs.declared.ListArray.{ListArray}
use Rattle.records.specs.declared.PlanArray.{PlanArray}
use Rattle.records.specs.Values.{Plan, roll_in, roll_array, listing, plan_in}
use Rattle.records.specs.declared.refusal.Refusal.{Refusal}
use Rattle.records.specs.Outcome.{Outcome, refused, passed}
use Rattle.records.specs.Refusals.{outcome, refusal_of}
use Rattle.records.specs.Answer.{list_array, plan_array, list_read, plan_read}
use Rattle.records.specs.Format.{read_list}
use Rattle.records.proofs.RoundTrip.{list-few, list-range}

-- something was read, and the value is it
pub list-passed : (o : Outcome Listing) {a : ListArray} → passed a ≡ list_read o → (l : Listing) × (o ≡ passed l) × (a ≡ list_array l)
list-passed (refused k) h = let z : ◌≡◌ {A = ℕ} 0 1 = cc in absurd (omega arith)
list-passed (passed l) h = (l, refl, cc)

pub plan-passed : (o : Outcome Plan) {a : PlanArray} → passed a ≡ plan_read o → (p : Plan) × (o ≡ passed p) × (a ≡ plan_array p)
plan-passed (refused k) h = let z : ◌≡◌ {A = ℕ} 0 1 = cc in absurd (omega arith)
plan-passed (passed p) h = (p, refl, cc)

-- a refusal is that row's
pub list-refused : (o : Outcome Listing) {n : ℕ} → refused n ≡ list_read o → o ≡ refused n
list-refused (refused k) h = cc
list-refused (passed l) h = let z : ◌≡◌ {A = ℕ} 0 1 = cc in absurd (omega arith)

pub plan-refused : (o : Outcome Plan) {n : ℕ} → refused n ≡ plan_read o → o ≡ refused n
plan-refused (refused k) h = cc
plan-refused (passed p) h = let z : ◌≡◌ {A = ℕ} 0 1 = cc in absurd (omega arith)

-- what the arrays hold
pub roll-array : (o : Option (List ℕ)) → roll_in (roll_array o) ≡ o
roll-array none = refl
roll-array (some roll) = refl

pub listing-array : (l : Listing) → listing (list_array l) ≡ l
listing-array l = rw (take-append_seam, roll-array)

pub plan-array : (p : Plan) → plan_in (plan_array p) (length p.shares) ≡ p
plan-array p = rw (take-append_seam, take-append_seam)

-- a list that was read, by its array
module _ (o : Outcome Listing) {x : ListArray} (is : passed x ≡ list_read o) where
  read-in : (l : Listing) × (o ≡ passed l) × (x ≡ list_array l)
  read-in = list-passed o is

  pub list-is : o ≡ passed (listing x)
  list-is = read-in.1 ∙ ap passed (sym (ap listing read-in.2 ∙ listing-array read-in.0))

  pub list-sized : length (listing x).sites ≡ x.count
  list-sized =
      subst (λ (y : ListArray). length (listing y).sites ≡ y.count) (sym read-in.2) (ap (λ (l : Listing). length l.sites) (listing-array read-in.0))

  -- where it was read from bytes as one of at most 512 sites
  module _ (e : Edition) (s : List ℕ) (reads : (l : Listing) → o ≡ passed l → read_list e 512 s ≡ passed l) where
    pub array-few : x.count ≤ 512
    array-few = subst (λ k. k ≤ 512) list-sized (list-few e 512 s (reads (listing x) list-is)).0

    pub array-range : T (in_range (listing x))
    array-range = list-range e 512 s (reads (listing x) list-is)

-- the same of what a reader answers
pub list-refused-by : (o : Outcome Listing) (x : Result ListArray Refusal) {n : ℕ} → outcome x ≡ list_read o → refusal_of x ≡ some n → o ≡ refused n
list-refused-by (refused k) (Err e) is h = cc
list-refused-by (refused k) (Ok a) is h = let z : ◌≡◌ {A = ℕ} 0 1 = cc in absurd (omega arith)
list-refused-by (passed l) (Err e) is h = let z : ◌≡◌ {A = ℕ} 0 1 = cc in absurd (omega arith)
list-refused-by (passed l) (Ok a) is h = let z : ◌≡◌ {A = ℕ} 0 1 = cc in absurd (omega arith)

pub plan-refused-by : (o : Outcome Plan) (x : Result PlanArray Refusal) {n : ℕ} → outcome x ≡ plan_read o → refusal_of x ≡ some n → o ≡ refused n
plan-refused-by (refused k) (Err e) is h = cc
plan-refused-by (refused k) (Ok a) is h = let z : ◌≡◌ {A = ℕ} 0 1 = cc in absurd (omega arith)
plan-refused-by (passed l) (Err e) is h = let z : ◌≡◌ {A = ℕ} 0 1 = cc in absurd (omega arith)
plan-refused-by (passed l) (Ok a) is h = let z : ◌≡◌ {A = ℕ} 0 1 = cc in absurd (omega arith)
