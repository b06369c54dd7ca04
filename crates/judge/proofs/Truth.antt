-- Check passes exactly the plans that are true of a list that reads, as bytes, in the list's edition. Assumes nothing.
use mathlib.Core.Path.{◌≡◌, refl, sym, ap, subst, ◌∙◌}
use mathlib.Core.Logic.{◌↔◌}
use mathlib.Core.List.{List}
use mathlib.Core.Bool.{Bool, true, false, or-true}
use mathlib.Core.Option.{Option, none, some, none-ne-some}
use Prim.Native.Nat.{ℕ, ◌<◌, ◌≤◌}
use native.Mathlib.Omega.{arith}
use borrow.Author.Tests.{not-true}
use lib.Dec.{T, ltb, eqb}
use lib.ListN.{length}
use Rattle.density.specs.Network.{Listing, network, in_range}
use Rattle.density.specs.Plan.{Formed}
use Rattle.density.specs.Rows.{first_row, plan_rows}
use Rattle.density.proofs.Lists.{valid}
use Rattle.density.proofs.Checks.{no_row}
use Rattle.records.specs.declared.Edition.{Edition}
use Rattle.records.specs.Bytes.{Bytes, field}
use Rattle.records.specs.Record.{wrong_mark}
use Rattle.records.specs.Values.{Plan}
use Rattle.records.specs.Outcome.{Outcome, refused, passed, settle, gate, bind}
use Rattle.records.specs.Format.{edition1, edition2, edition_of, read_list, read_plan}
use Rattle.records.specs.Write.{LaidOut, Marked}
use Rattle.records.proofs.Outcomes.{clear, gate-numbered, bind-numbered, plan-numbered}
use Rattle.records.proofs.RoundTrip.{list-few, list-range, laid-read, read-laid}
use Rattle.readers.proofs.Editions.{marks}
use Rattle.judge.specs.Check.{judged_for, refusal, check_row, True, TrueOf}

pub formed : (e : Edition) (l : Listing) (p : Plan) (s : List ℕ) → LaidOut e l p s → Formed (network l) p.groups p.shares
unfolding network
formed e l p s o = record { sets = o.sets; each = o.each }

-- a plan that no row refuses was read
pub judged-read : (e : Edition) (l : Listing) (plan : List ℕ) {p : Plan} → judged_for e l plan ≡ passed p → read_plan e (length l.sites) plan ≡ passed p
judged-read e l plan {p} h = by_read (read_plan e (length l.sites) plan) h
  where
    by_read : (o : Outcome Plan) → bind o (λ (q : Plan). gate (plan_rows (network l) q.groups q.shares) q) ≡ passed p → o ≡ passed p
    by_read (refused n) h = let z : ◌≡◌ {A = ℕ} 0 1 = cc in absurd (omega arith)
    by_read (passed q) h = ap passed (clear (plan_rows (network l) q.groups q.shares) h).1

-- the number of a row that refuses it is not 0
pub judged-numbered : (e : Edition) (l : Listing) (plan : List ℕ) (n : ℕ) → judged_for e l plan ≡ refused n → 0 < n
unfolding plan_rows
judged-numbered e l plan =
    bind-numbered (read_plan e (length l.sites) plan) _ (plan-numbered e (length l.sites) plan)
    (λ (p : Plan). gate-numbered (plan_rows (network l) p.groups p.shares) tt p)

-- the plans that no row refuses for a list, and those that are true of it
module _ (e : Edition) (l : Listing) (range : T (in_range l)) (plan : List ℕ) (p : Plan) where
  pub judged-true : Bytes plan → judged_for e l plan ≡ passed p → True e l p plan
  judged-true b h = by_read (read_plan e (length l.sites) plan) refl h
    where
      by_row : (q : Plan) → read_plan e (length l.sites) plan ≡ passed q → (o : Option ℕ) → first_row (plan_rows (network l) q.groups q.shares) ≡ o
          → settle o q ≡ passed p → True e l p plan
      by_row q k (some n) z h = let z : ◌≡◌ {A = ℕ} 0 1 = cc in absurd (omega arith)
      by_row q k none z h =
          let o = read-laid e l plan b k in
          let t = (no_row (network l) q.groups q.shares (valid l range) (formed e l q plan o)).0 z in
          let same : q ≡ p = cc in
          subst (λ (x : Plan). True e l x plan) same (record { layout = o; groups = t.groups; shares = t.shares })

      by_read : (o : Outcome Plan) → read_plan e (length l.sites) plan ≡ o → bind o (λ (q : Plan). gate (plan_rows (network l) q.groups q.shares) q) ≡ passed p
          → True e l p plan
      by_read (refused n) k h = let z : ◌≡◌ {A = ℕ} 0 1 = cc in absurd (omega arith)
      by_read (passed q) k h = by_row q k (first_row (plan_rows (network l) q.groups q.shares)) refl h

  pub true-judged : Marked e → length l.sites ≤ 512 → True e l p plan → judged_for e l plan ≡ passed p
  true-judged m few t =
      let o = t.layout in
      rw (laid-read e m l few o, (no_row (network l) p.groups p.shares (valid l range) (formed e l p plan o)).1 (record { form = formed e l p plan o; groups = t.groups; shares = t.shares })) refl

module _ (e : Edition) (list plan : List ℕ) where
  passes→ : Bytes plan → check_row e list plan ≡ none → TrueOf e list plan
  unfolding check_row
  passes→ b h = by-list (read_list e 512 list) refl h
    where
      by-plan : (l : Listing) → read_list e 512 list ≡ passed l → (o : Outcome Plan) → judged_for e l plan ≡ o → refusal o ≡ none → TrueOf e list plan
      by-plan l r (refused n) k h = let z : ◌≡◌ {A = ℕ} 0 1 = cc in absurd (omega arith)
      by-plan l r (passed p) k h = (l, p, r, judged-true e l (list-range e 512 list r) plan p b k)

      by-list : (o : Outcome Listing) → read_list e 512 list ≡ o → refusal (bind o (λ (l : Listing). judged_for e l plan)) ≡ none → TrueOf e list plan
      by-list (refused n) r h = let z : ◌≡◌ {A = ℕ} 0 1 = cc in absurd (omega arith)
      by-list (passed l) r h = by-plan l r (judged_for e l plan) refl h

  →passes : Marked e → TrueOf e list plan → check_row e list plan ≡ none
  unfolding check_row
  →passes m (l, p, r, t) = rw (r, true-judged e l (list-range e 512 list r) plan p m (list-few e 512 list r).0 t) refl

  -- Check passes exactly if the list reads and the bytes are a plan that is true of it
  pub check-true-by : Marked e → Bytes plan → check_row e list plan ≡ none ↔ TrueOf e list plan
  check-true-by m b = (passes→ b, →passes m)

-- the same of the list's own edition, which Check goes by
pub check-true : (list plan : List ℕ) → Bytes plan → check_row (edition_of list) list plan ≡ none ↔ TrueOf (edition_of list) list plan
check-true list plan = check-true-by (edition_of list) list plan (marks list)

list-row : (e : Edition) (list plan : List ℕ) {n : ℕ} → read_list e 512 list ≡ refused n → check_row e list plan ≡ some n
unfolding check_row
list-row e list plan r = rw r

-- "Each edition of plan passes only with its own edition of list, and row 7 refuses the other": a list that reads, and a plan with another mark than its edition's
pub another-plan : (e : Edition) (list plan : List ℕ) {l : Listing} → read_list e 512 list ≡ passed l → wrong_mark e.mark.plan plan ≡ true
    → check_row e list plan ≡ some 7
unfolding check_row read_plan first_row
another-plan e list plan r w = rw (r, w, or-true (ltb (length plan) 5)) refl

-- so a plan that passes has the mark of its list's edition
own-mark : (e : Edition) (list plan : List ℕ) → check_row e list plan ≡ none → wrong_mark e.mark.plan plan ≡ false
own-mark e list plan h = read (read_list e 512 list) refl
  where
    marked : (b : Bool) → wrong_mark e.mark.plan plan ≡ b → {l : Listing} → read_list e 512 list ≡ passed l → b ≡ false
    marked false w r = refl
    marked true w r = absurd (none-ne-some 7 (sym h ∙ another-plan e list plan r w))

    read : (o : Outcome Listing) → read_list e 512 list ≡ o → wrong_mark e.mark.plan plan ≡ false
    read (refused n) r = absurd (none-ne-some n (sym h ∙ list-row e list plan r))
    read (passed l) r = marked (wrong_mark e.mark.plan plan) refl r

pub own-edition : (list plan : List ℕ) → check_row (edition_of list) list plan ≡ none → wrong_mark (edition_of list).mark.plan plan ≡ false
own-edition list plan = own-mark (edition_of list) list plan

-- "Check .. take either edition": a list that begins as one of neither edition is refused by row 1, whatever the plan
pub neither : (list plan : List ℕ) → wrong_mark edition1.mark.list list ≡ true → wrong_mark edition2.mark.list list ≡ true
    → check_row (edition_of list) list plan ≡ some 1
unfolding check_row read_list first_row
neither list plan w v = rw (not-true (eqb (field list 0 2) edition2.mark.list) v, w, or-true (ltb (length list) 4)) refl
