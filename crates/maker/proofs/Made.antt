-- What Make writes: from the plan made to its bytes; the length answered, and that the plan passes Check. Assumes nothing.
use mathlib.Core.Path.{◌≡◌, refl, sym, ap, subst, ◌∙◌}
use mathlib.Core.Bool.{Bool, true, false, cond}
use mathlib.Core.List.{List}
use mathlib.Core.Option.{none}
use Prim.Native.Nat.{ℕ, ◌+◌, ◌*◌, ◌≤◌, ◌^◌}
use native.Mathlib.Omega.{arith}
use lib.Dec.{T, ltb}
use lib.ListN.{length, take}
use Rattle.density.specs.Network.{Listing, network, no_site, in_range}
use Rattle.density.specs.Groups.{groups_of}
use Rattle.density.specs.Plan.{TruePlan}
use Rattle.density.proofs.Lists.{valid}
use Rattle.density.proofs.Figures.{groups-few}
use Rattle.density.proofs.Checks.{no_row}
use Rattle.records.specs.declared.Edition.{Edition}
use Rattle.records.specs.declared.ListArray.{ListArray}
use Rattle.records.specs.declared.PlanArray.{PlanArray}
use Rattle.std.specs.declared.result.Result.{Result}
use Rattle.std.specs.declared.result.Result.TheVariants.{Ok, Err}
use Rattle.records.specs.declared.refusal.Refusal.{Refusal}
use Rattle.records.specs.declared.refusal.Refusal.TheVariants.{BufferShort}
use Rattle.records.specs.Refusals.{number, outcome}
use Rattle.records.specs.Values.{Plan, listing, plan_in}
use Rattle.records.specs.Bytes.{Bytes}
use Rattle.records.specs.Outcome.{Outcome, refused, passed}
use Rattle.records.specs.Format.{edition_of, share_size, read_list, plan_of}
use Rattle.records.specs.Answer.{list_array, list_read}
use Rattle.records.specs.Write.{plan_bytes, Written, LaidOut, Marked, Good}
use Rattle.records.proofs.Records.{all-at}
use Rattle.records.proofs.Buffers.{length-plan, answered}
use Rattle.records.proofs.Files.{written-front}
use Rattle.records.proofs.Answers.{list-passed, list-refused, listing-array}
use Rattle.records.proofs.Numbers.{outcome-one}
use Rattle.records.proofs.RoundTrip.{list-good, list-range, list-few, laid-plan, laid-read}
use Rattle.readers.proofs.Editions.{marks}
use Rattle.judge.specs.Check.{check_row}
use Rattle.judge.proofs.Widths.{share-fits}
use Rattle.maker.specs.Planned.{Planned}
use Rattle.maker.specs.Make.{PlanWritten, Made, plan_length}

-- the plan made of a list that was read, written
made-from : (e : Edition) (s : List ℕ) {l : Listing} (p : PlanArray) {n : ℕ} (out last : List ℕ) (r : Result ℕ Refusal)
    → 256 ^ e.litres * 576 ≤ 256 ^ e.share → Bytes s → read_list e 512 s ≡ passed l → length l.sites ≡ n → Planned (list_array l) p
    → Written (plan_bytes e (plan_in p n)) out r last → Made e (read_list e 512 s) out r last
made-from e s {l = l} p {n = n} out last r wide b h c m w =
    rw h
    (record {
      shares = take n p.shares;
      plan = true-plan;
      fits = share-fits e l (list-range e 512 s h) (groups_of (network l)) (take n p.shares) wide (λ i k. (all-at (Good e) no_site l.sites (list-good e 512 s b h) i k).fits) true-plan;
      written = subst (λ (gs : List ℕ). Written (plan_bytes e (record { groups = gs; shares = take n p.shares })) out r last) groups-are w;
    })
  where
    groups-are : take p.count p.groups ≡ groups_of (network l)
    groups-are = m.groups-are ∙ ap (λ (k : Listing). groups_of (network k)) (listing-array l)

    true-plan : TruePlan (network l) (groups_of (network l)) (take n p.shares)
    true-plan =
        subst (λ (gs : List ℕ). TruePlan (network l) gs (take n p.shares)) groups-are
        (subst (λ (k : Listing). TruePlan (network k) (take p.count p.groups) (take n p.shares)) (listing-array l)
        (subst (λ (k : ℕ). TruePlan (network (listing (list_array l))) (take p.count p.groups) (take k p.shares)) c m.plan))

-- what was read: a list
module _ (e : Edition) (s : List ℕ) (x : ListArray) (is : passed x ≡ list_read (read_list e 512 s)) where
  found : (l : Listing) × (read_list e 512 s ≡ passed l) × (x ≡ list_array l)
  found = list-passed (read_list e 512 s) is

  count-is : length found.0.sites ≡ x.count
  count-is = sym (ap (λ (y : ListArray). y.count) found.2)

  -- what making a plan asks of it
  pub in-range : (x.count ≤ 512) × T (in_range (listing x))
  in-range =
      subst (λ (y : ListArray). (y.count ≤ 512) × T (in_range (listing y))) (sym found.2)
      ((list-few e 512 s found.1).0, subst (λ (l : Listing). T (in_range l)) (sym (listing-array found.0)) (list-range e 512 s found.1))

  pub made : (p : PlanArray) (out last : List ℕ) (r : Result ℕ Refusal) → 256 ^ e.litres * 576 ≤ 256 ^ e.share → Bytes s → Planned x p
      → Written (plan_bytes e (plan_in p x.count)) out r last → Made e (read_list e 512 s) out r last
  made p out last r wide b m w = made-from e s p out last r wide b found.1 count-is (subst (λ (y : ListArray). Planned y p) found.2 m) w

-- a row: the refusal is handed on, and the buffer is as before
pub refusal-made : (e : Edition) (s : List ℕ) (x : Refusal) (out : List ℕ) → refused (number x) ≡ list_read (read_list e 512 s) → Made e (read_list e 512 s) out (Err x) out
refusal-made e s x out row = rw (list-refused (read_list e 512 s) row) (refl, refl)

-- "answers the plan's length", or row 20 where the buffer is shorter
pub made-answer : (e : Edition) (s : List ℕ) {l : Listing} (out last : List ℕ) (r : Result ℕ Refusal) → read_list e 512 s ≡ passed l → Made e (read_list e 512 s) out r last
    → r ≡ cond (ltb (length out) (plan_length e l)) (Err BufferShort) (Ok (plan_length e l))
unfolding network
made-answer e s {l = l} out last r h m =
    let p : PlanWritten e l out r last = subst (λ (o : Outcome Listing). Made e o out r last) h m in
    settled (ltb (length out) (plan_length e l)) (plan_length e l)
    (subst (λ (n : ℕ). outcome r ≡ cond (ltb (length out) n) (refused 20) (passed n))
    (length-plan e (record { groups = groups_of (network l); shares = p.shares }) ∙ ap (λ (n : ℕ). 5 + 10 * length (groups_of (network l)) + share_size e * n) (each l p.plan))
    (answered (plan_bytes e (record { groups = groups_of (network l); shares = p.shares })) out p.written))
  where
    settled : (short : Bool) (n : ℕ) → outcome r ≡ cond short (refused 20) (passed n) → r ≡ cond short (Err BufferShort) (Ok n)
    settled true n is = outcome-one r (Err BufferShort) is
    settled false n is = outcome-one r (Ok n) is

    each : (l : Listing) {gs ss : List ℕ} → TruePlan (network l) gs ss → length ss ≡ length l.sites
    each l t = t.form.each

-- what is written is laid out as the plan with the groups of the definition
made-laid : (e : Edition) (s out last : List ℕ) (n : ℕ) {l : Listing} → read_list e 512 s ≡ passed l → (p : PlanWritten e l out (Ok n) last)
    → LaidOut e l (record { groups = groups_of (network l); shares = p.shares }) (take n last)
unfolding network
made-laid e s out last n {l = l} h p =
    record {
      few = groups-few (network l) (valid l (list-range e 512 s h)) (groups_of (network l)) p.plan.groups;
      sets = p.plan.form.sets;
      each = p.plan.form.each;
      fits = p.fits;
      bytes-are = written-front (plan_bytes e (record { groups = groups_of (network l); shares = p.shares })) out last n p.written;
    }

-- "the plan passes": Check refuses no plan that was made
pub made-passes : (e : Edition) → Marked e → (s out last : List ℕ) (n : ℕ) → Made e (read_list e 512 s) out (Ok n) last → check_row e s (take n last) ≡ none
unfolding check_row network
made-passes e marks s out last n m = by-list (read_list e 512 s) refl m
  where
    judge : (l : Listing) → read_list e 512 s ≡ passed l → PlanWritten e l out (Ok n) last → check_row e s (take n last) ≡ none
    judge l h p =
        rw (h, laid-read e marks l (list-few e 512 s h).0 (made-laid e s out last n h p), (no_row (network l) (groups_of (network l)) p.shares (valid l (list-range e 512 s h)) p.plan.form).1 p.plan)

    by-list : (o : Outcome Listing) → read_list e 512 s ≡ o → Made e o out (Ok n) last → check_row e s (take n last) ≡ none
    by-list (refused k) h p = let q = p.0 in let z : ◌≡◌ {A = ℕ} 0 1 = cc in absurd (omega arith)
    by-list (passed l) h p = judge l h p

-- the groups of the plan written, read back
pub groups-written : (e : Edition) (s out last : List ℕ) (n : ℕ) {l : Listing} → read_list e 512 s ≡ passed l → Made e (read_list e 512 s) out (Ok n) last
    → (plan_of e (length l.sites) (take n last)).groups ≡ groups_of (network l)
groups-written e s out last n {l = l} h m =
    let p : PlanWritten e l out (Ok n) last = subst (λ (o : Outcome Listing). Made e o out (Ok n) last) h m in
    ap (λ (x : Plan). x.groups) (laid-plan e l _ (take n last) (made-laid e s out last n h p))

-- the same of the list's own edition, which Make goes by
pub make-passes : (s out last : List ℕ) (n : ℕ) → Made (edition_of s) (read_list (edition_of s) 512 s) out (Ok n) last → check_row (edition_of s) s (take n last) ≡ none
make-passes s = made-passes (edition_of s) (marks s) s
