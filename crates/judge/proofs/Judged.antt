-- What Check answers, by the list that was read and by what is judged of the plan for it. Assumes nothing.
use mathlib.Core.Path.{◌≡◌, ap, ◌∙◌}
use mathlib.Core.List.{List}
use mathlib.Core.Option.{none, some}
use Prim.Native.Nat.{ℕ, ◌≤◌}
use lib.Dec.{T}
use Rattle.density.specs.Network.{Listing, in_range}
use Rattle.records.specs.declared.Edition.{Edition}
use Rattle.records.specs.declared.ListArray.{ListArray}
use Rattle.records.specs.declared.PlanArray.{PlanArray}
use Rattle.records.specs.Values.{Plan, listing}
use Rattle.records.specs.Outcome.{Outcome, refused, passed}
use Rattle.records.specs.Answer.{list_read, plan_read}
use Rattle.records.specs.Format.{read_list}
use Rattle.records.proofs.Answers.{plan-passed, list-is, array-few, array-range, list-refused, plan-refused}
use Rattle.judge.specs.Check.{judged_for, refusal, check_row}

module _ (e : Edition) (list plan : List ℕ) where
  -- the list is refused
  pub list-refuses : {n : ℕ} → refused n ≡ list_read (read_list e 512 list) → check_row e list plan ≡ some n
  unfolding check_row
  list-refuses h = rw (list-refused (read_list e 512 list) h)

  -- it reads
  module _ {r : ListArray} (given : passed r ≡ list_read (read_list e 512 list)) where
    reads : read_list e 512 list ≡ passed (listing r)
    reads = list-is (read_list e 512 list) given

    pub few-sites : r.count ≤ 512
    few-sites = array-few (read_list e 512 list) given e list (λ l h. h)

    pub in-range : T (in_range (listing r))
    in-range = array-range (read_list e 512 list) given e list (λ l h. h)

    -- what is judged of the plan for it decides
    abbrev outcome : Listing → Outcome Plan
    outcome l = judged_for e l plan

    row-judged : check_row e list plan ≡ refusal (outcome (listing r))
    unfolding check_row
    row-judged = rw reads

    pub plan-refuses : {n : ℕ} → refused n ≡ plan_read (outcome (listing r)) → check_row e list plan ≡ some n
    plan-refuses h = row-judged ∙ ap refusal (plan-refused (outcome (listing r)) h)

    pub plan-passes : {p : PlanArray} → passed p ≡ plan_read (outcome (listing r)) → check_row e list plan ≡ none
    plan-passes h = row-judged ∙ ap refusal (plan-passed (outcome (listing r)) h).1
