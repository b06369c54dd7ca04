-- A plan for a list: what is read of it, and what is judged. Assumes nothing.
use mathlib.Core.Path.{◌≡◌, sym, ap, ap₂, ◌∙◌}
use mathlib.Core.List.{List}
use mathlib.Core.Option.{Option, none, some}
use Prim.Native.Nat.{ℕ, ◌≤◌}
use native.Mathlib.Omega.{arith}
use lib.ListN.{length, length-map}
use lib.Seq.{length-take-le}
use Rattle.density.specs.Rows.{first_row, plan_rows}
use Rattle.records.specs.declared.Edition.{Edition}
use Rattle.records.specs.declared.ListArray.{ListArray}
use Rattle.records.specs.declared.PlanArray.{PlanArray}
use Rattle.records.specs.Values.{Plan, listing, plan_in}
use Rattle.records.specs.Format.{group_count, read_plan}
use Rattle.records.specs.Outcome.{Outcome, refused, passed, settle, gate, bind}
use Rattle.records.specs.Answer.{plan_array}
use Rattle.records.proofs.RoundTrip.{plan-read}
use Rattle.records.proofs.Records.{length-records}
use Rattle.records.proofs.Answers.{plan-array}
use Rattle.tables.specs.Tables.{net, groups_in, shares_in}
use Rattle.judge.specs.Check.{judged_for}

module _ (e : Edition) (list : ListArray) (input : List ℕ) (few : list.count ≤ 512) (wide : length list.sites ≡ 512) where
  abbrev judge : Plan → Outcome Plan
  judge p = gate (plan_rows (net list) p.groups p.shares) p

  size : length (listing list).sites ≡ list.count
  size = length-take-le list.count list.sites (omega arith)

  read_is : judged_for e (listing list) input ≡ bind (read_plan e list.count input) judge
  read_is = ap (λ (n : ℕ). bind (read_plan e n input) judge) size

  pub layout-refused : (n : ℕ) → read_plan e list.count input ≡ refused n → judged_for e (listing list) input ≡ refused n
  layout-refused n h = read_is ∙ ap (λ (o : Outcome Plan). bind o judge) h

  module _ (p : Plan) (h : read_plan e list.count input ≡ passed p) (plan : PlanArray) (q : plan ≡ plan_array p) where
    pub plan-few : plan.count ≤ 64
    plan-few =
        let r = plan-read e list.count input h in
        let k : length p.groups ≡ group_count input = ap (λ (x : Plan). length x.groups) (sym r.plan) ∙ rw (length-map, length-records) in
        omega (arith, ap (λ (x : PlanArray). x.count) q, k, r.few)

    plan-in : plan_in plan list.count ≡ p
    plan-in =
        let r = plan-read e list.count input h in
        let k : list.count ≡ length p.shares = sym (ap (λ (x : Plan). length x.shares) (sym r.plan) ∙ rw (length-map, length-records)) in
        ap₂ plan_in q k ∙ plan-array p

    abbrev first : Plan → Option ℕ
    first x = first_row (plan_rows (net list) x.groups x.shares)

    judged-is : (o : Option ℕ) → first (plan_in plan list.count) ≡ o → judged_for e (listing list) input ≡ settle o p
    judged-is o r =
        read_is ∙ ap (λ (x : Outcome Plan). bind x judge) h ∙ ap (λ (o : Option ℕ). settle o p) (ap first (sym plan-in) ∙ r)

    pub plan-refused : (n : ℕ) → first_row (plan_rows (net list) (groups_in list plan) (shares_in list plan)) ≡ some n
        → judged_for e (listing list) input ≡ refused n
    plan-refused n r = judged-is (some n) r

    pub plan-passed : first_row (plan_rows (net list) (groups_in list plan) (shares_in list plan)) ≡ none → judged_for e (listing list) input ≡ passed p
    plan-passed r = judged-is none r
