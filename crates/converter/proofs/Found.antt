-- What a way finds in a list and in a plan, by what the readers gave back. Assumes nothing.
use mathlib.Core.Path.{◌≡◌, refl, sym, ap, ap₂, ◌∙◌, subst}
use mathlib.Core.Bool.{Bool, true, false, cond, ◌&&◌, ◌||◌}
use mathlib.Core.List.{List, [], ◌∷◌}
use mathlib.Core.Option.{none, some}
use Prim.Native.Nat.{ℕ, ◌≤◌}
use native.Mathlib.Omega.{arith}
use lib.Dec.{T}
use lib.ListN.{length}
use Rattle.sets.specs.Sum.{any}
use Rattle.density.specs.Network.{Listing, in_range}
use Rattle.density.specs.Rows.{row, first_row}
use Rattle.records.specs.declared.RollArray.{RollArray}
use Rattle.records.specs.declared.ListArray.{ListArray}
use Rattle.records.specs.declared.PlanArray.{PlanArray}
use Rattle.std.specs.declared.result.Result.{Result}
use Rattle.std.specs.declared.result.Result.TheVariants.{Err}
use Rattle.records.specs.declared.Lengths.{Lengths}
use Rattle.records.specs.declared.refusal.Refusal.{Refusal}
use Rattle.records.specs.Refusals.{number}
use Rattle.records.specs.Bytes.{Bytes}
use Rattle.records.specs.Values.{roll_in, listing, Plan, plan_in}
use Rattle.records.specs.Outcome.{Outcome, refused, passed, gate, bind}
use Rattle.records.specs.Answer.{plan_array, list_read, plan_read}
use Rattle.records.specs.Format.{read_list}
use Rattle.records.specs.Write.{list_bytes, WrittenOf, Written}
use Rattle.records.specs.Files.{files, fitted_both, WrittenBoth}
use Rattle.records.proofs.Outcomes.{clear}
use Rattle.records.proofs.Answers.{plan-array, plan-passed, list-is, list-sized, array-few, array-range, list-refused, plan-refused}
use Rattle.judge.specs.Check.{judged_for}
use Rattle.judge.proofs.Truth.{judged-true}
use Rattle.converter.specs.declared.Way.{Way}
use Rattle.converter.specs.Convert.{outside, has_roll, unfit, list_for, convert_list, convert_plan}

-- whether there is a roll, of a value
has-roll : (roll : RollArray) {b : Bool} → roll.there ≡ b → has_roll (roll_in roll) ≡ b
has-roll roll {b} e = ap (λ (x : Bool). has_roll (cond x (some roll.crews) none)) e ∙ by b
  where
    by : (b : Bool) → has_roll (cond b (some roll.crews) none) ≡ b
    by true = refl
    by false = refl

-- row 21 by its two tests
pub unfit-is : (l : ListArray) {a r : Bool} → a ≡ outside (listing l) → r ≡ (a || l.roll.there) → r ≡ unfit (listing l)
unfit-is l h k = k ∙ ap₂ (λ (x y : Bool). x || y) h (sym (has-roll l.roll refl))

-- ---- the list that a way takes

abbrev tried : Bool → Outcome Listing → Outcome Listing
tried back o = bind o (λ (l : Listing). gate (row 21 (back && unfit l) ∷ []) l)

-- a list that is refused is not taken
pub not-read : (w : Way) (s : List ℕ) {n : ℕ} → refused n ≡ list_read (read_list w.from 512 s) → refused n ≡ list_read (list_for w s)
not-read w s h = rw (list-refused (read_list w.from 512 s) h) refl

module _ (w : Way) (s : List ℕ) {x : ListArray} (is : passed x ≡ list_read (read_list w.from 512 s)) where
  pub few-read : x.count ≤ 512
  few-read = array-few (read_list w.from 512 s) is w.from s (λ l h. h)

  read-is : read_list w.from 512 s ≡ passed (listing x)
  read-is = list-is (read_list w.from 512 s) is

  -- what is read is taken unless row 21 applies
  pub is-taken : (w.back && unfit (listing x)) ≡ false → passed x ≡ list_read (list_for w s)
  unfolding first_row
  is-taken h =
      let e : list_for w s ≡ read_list w.from 512 s = rw (read-is, h) refl in
      is ∙ ap list_read (sym e)

  pub row-21 : (w.back && unfit (listing x)) ≡ true → refused 21 ≡ list_read (list_for w s)
  unfolding first_row
  row-21 h = rw (read-is, h) refl

-- a list that a way takes is read in its edition, and row 21 does not refuse it going back
pub taken : (w : Way) (s : List ℕ) {l : Listing} → list_for w s ≡ passed l → (read_list w.from 512 s ≡ passed l) × ((w.back && unfit l) ≡ false)
taken w s {l} h = by_read (read_list w.from 512 s) refl h
  where
    by_read : (o : Outcome Listing) → read_list w.from 512 s ≡ o → tried w.back o ≡ passed l → (read_list w.from 512 s ≡ passed l) × ((w.back && unfit l) ≡ false)
    by_read (refused n) r h = let z : ◌≡◌ {A = ℕ} 0 1 = cc in absurd (omega arith)
    by_read (passed k) r h =
        let c = clear (row 21 (w.back && unfit k) ∷ []) h in
        subst (λ (l : Listing). (read_list w.from 512 s ≡ passed l) × ((w.back && unfit l) ≡ false)) c.1 (r, c.0.0)

-- ---- by what the list's reader gave back

module _ (w : Way) (s : List ℕ) {e : Refusal} (is : refused (number e) ≡ list_read (list_for w s)) where
  pub list-refuses : (out : List ℕ) → WrittenOf (convert_list w s out) out (Err e) out
  list-refuses out = rw (list-refused (list_for w s) is) (record { answer = refl; buffer = refl })

  pub both-refuses : (plan out other : List ℕ) → WrittenBoth (convert_plan w s plan out other) out other (Err e) out other
  both-refuses plan out other = rw (list-refused (list_for w s) is) (record { answer = refl; list = refl; plan = refl })

module _ (w : Way) (s : List ℕ) {x : ListArray} (is : passed x ≡ list_read (list_for w s)) where
  -- a list was taken, and it is the array's
  took : list_for w s ≡ passed (listing x)
  took = list-is (list_for w s) is

  each : length (listing x).sites ≡ x.count
  each = list-sized (list_for w s) is

  pub few : x.count ≤ 512
  few = array-few (list_for w s) is w.from s (λ l h. (taken w s h).0)

  pub in-range : T (in_range (listing x))
  in-range = array-range (list_for w s) is w.from s (λ l h. (taken w s h).0)

  pub list_done : (out : List ℕ) {r : Result ℕ Refusal} {last : List ℕ} → Written (list_bytes w.to (listing x)) out r last → WrittenOf (convert_list w s out) out r last
  list_done out v = rw took v

  -- ---- and the plan's
  pub plan-refuses : (plan out other : List ℕ) {e : Refusal} → refused (number e) ≡ plan_read (judged_for w.from (listing x) plan)
      → WrittenBoth (convert_plan w s plan out other) out other (Err e) out other
  plan-refuses plan out other h = rw (took, plan-refused (judged_for w.from (listing x) plan) h) (record { answer = refl; list = refl; plan = refl })

  module _ (plan out other : List ℕ) {y : PlanArray} (judged : passed y ≡ plan_read (judged_for w.from (listing x) plan)) (bytes : Bytes plan) where
    got : (p : Plan) × (judged_for w.from (listing x) plan ≡ passed p) × (y ≡ plan_array p)
    got = plan-passed (judged_for w.from (listing x) plan) judged

    pub few-groups : y.count ≤ 64
    few-groups =
        subst (λ (p : PlanArray). p.count ≤ 64) (sym got.2)
        (judged-true w.from (listing x) in-range plan got.0 bytes got.1).layout.few

    plan-is : plan_in y x.count ≡ got.0
    plan-is =
        let t = judged-true w.from (listing x) in-range plan got.0 bytes got.1 in
        ap₂ plan_in got.2 (sym each ∙ sym t.layout.each) ∙ plan-array got.0

    pub both-done : {r : Result Lengths Refusal} {last rest : List ℕ}
        → WrittenBoth (fitted_both (files w.to (listing x) (plan_in y x.count)) out other) out other r last rest
        → WrittenBoth (convert_plan w s plan out other) out other r last rest
    both-done {r} {last} {rest} v =
        rw (took, got.1)
        (subst (λ (p : Plan). WrittenBoth (fitted_both (files w.to (listing x) p) out other) out other r last rest) plan-is v)
