-- What a head says of the whole list or plan. Assumes nothing.
use Prim.Native.Nat.{ℕ, zero, suc, ◌+◌, ◌*◌, ◌≤◌}
use mathlib.Core.Bool.{Bool, true, false, cond, ◌&&◌, ◌||◌}
use mathlib.Core.Option.{none, some}
use mathlib.Core.List.{List, [], ◌∷◌}
use mathlib.Core.Path.{◌≡◌, refl, ap, sym, ◌∙◌}
use native.Mathlib.Omega.{arith}
use borrow.Author.Tests.{ltb-false, eqb-true, not-false}
use lib.Dec.{ltb, eqb}
use lib.ListN.{length, take, drop}
use Rattle.density.specs.Rows.{Row, row, first_row}
use Rattle.records.specs.declared.Edition.{Edition}
use Rattle.records.specs.Record.{any_of, wrong_mark}
use Rattle.sets.proofs.Test.{fails}
use Rattle.records.specs.declared.RollRead.{RollRead}
use Rattle.records.specs.Values.{roll_array}
use Rattle.records.specs.Answer.{roll_at, roll_read}
use Rattle.records.specs.Outcome.{refused, passed, gate}
use Rattle.records.specs.Format.{list_size, rolled, roll_record, listing_of, list_rows, layout_rows, site_count, read_list, group_count, group_records, share_size, share_records, plan_of, read_plan}
use Rattle.records.proofs.Outcomes.{Clear, clear, or-false}
use Rattle.records.proofs.RoundTrip.{list-size}
use Rattle.readers.specs.Head.{list_head, plan_head}

-- a row among the first k that refuses, refuses; where none of them applies, the others are left
first-refuses : {A B : Type 0} (k : ℕ) (rows : List Row) (a : A) (b : B) {n : ℕ} → gate (take k rows) a ≡ refused n → gate rows b ≡ refused n
unfolding first_row
first-refuses zero rows a b h = let z : ◌≡◌ {A = ℕ} 0 1 = cc in absurd (omega arith)
first-refuses (suc k) [] a b h = let z : ◌≡◌ {A = ℕ} 0 1 = cc in absurd (omega arith)
first-refuses (suc k) (row m true ∷ rows) a b h = cc
first-refuses (suc k) (row m false ∷ rows) a b h = first-refuses k rows a b h

others-left : {B : Type 0} (k : ℕ) (rows : List Row) (b : B) → Clear (take k rows) → gate rows b ≡ gate (drop k rows) b
unfolding first_row
others-left zero rows b h = refl
others-left (suc k) [] b h = refl
others-left (suc k) (row m t ∷ rows) b h = rw h.0 (others-left k rows b h.1)

-- a list's head that gives a count: the rest of the rows is left, and the records are there
pub record ListHeaded (e : Edition) (places : ℕ) (s : List ℕ) (n : ℕ) : Type 0 where
  pub count : site_count s ≡ n
  pub few : n ≤ 512
  pub fits : (eqb (length s) (list_size e (site_count s)) || rolled e s) ≡ true
  pub size : list_size e n ≤ length s
  pub rest : read_list e places s ≡ gate (drop 3 (list_rows e places s)) (listing_of e s)

pub list-headed : (e : Edition) (places : ℕ) (s : List ℕ) {n : ℕ} → passed n ≡ list_head e places s → ListHeaded e places s n
unfolding read_list
list-headed e places s h =
    let c = clear (take 3 (list_rows e places s)) (sym h) in
    let many = or-false (ltb 512 (site_count s)) (ltb places (site_count s)) c.0.1.0 in
    record {
      count = c.1;
      few = omega (arith, c.1, ltb-false 512 (site_count s) many.0);
      fits = not-false _ c.0.1.1.0;
      size = rw (← c.1) (list-size e s (not-false _ c.0.1.1.0));
      rest = others-left 3 (list_rows e places s) (listing_of e s) c.0;
    }

pub list-head-refused : (e : Edition) (places : ℕ) (s : List ℕ) {n : ℕ} → refused n ≡ list_head e places s → read_list e places s ≡ refused n
unfolding read_list
list-head-refused e places s h = first-refuses 3 (list_rows e places s) (site_count s) (listing_of e s) (sym h)

-- what stands behind the sites: a roll where the length tells of one, or none
module _ (e : Edition) (s : List ℕ) (n : ℕ) (q : site_count s ≡ n) where
  told : {b : Bool} → (e.roll && eqb (length s) (list_size e n + 66)) ≡ b → rolled e s ≡ b
  told h = ap (λ (k : ℕ). e.roll && eqb (length s) (list_size e k + 66)) q ∙ h

  pub roll-some : (e.roll && eqb (length s) (list_size e n + 66)) ≡ true → roll_at e.mark.roll (drop (list_size e n) s) ≡ roll_read e s
  roll-some h = ap (λ (k : ℕ). roll_at e.mark.roll (drop (list_size e k) s)) (sym q) ∙ by (rolled e s) (told h)
    where
      by : (b : Bool) → b ≡ true → roll_at e.mark.roll (roll_record e s)
          ≡ record { mark = b && wrong_mark e.mark.roll (roll_record e s); roll = roll_array (cond b (some (drop 2 (roll_record e s))) none) }
      by true z = refl
      by false z = absurd (fails true (sym z) tt)

  pub roll-none : (e.roll && eqb (length s) (list_size e n + 66)) ≡ false → ◌≡◌ {A = RollRead} (record { mark = false; roll = roll_array none }) (roll_read e s)
  roll-none h = by (rolled e s) (told h)
    where
      by : (b : Bool) → b ≡ false → ◌≡◌ {A = RollRead} (record { mark = false; roll = roll_array none })
          (record { mark = b && wrong_mark e.mark.roll (roll_record e s); roll = roll_array (cond b (some (drop 2 (roll_record e s))) none) })
      by true z = absurd (fails true z tt)
      by false z = refl

-- the same of a plan's head
pub record PlanHeaded (e : Edition) (sites : ℕ) (s : List ℕ) (n : ℕ) : Type 0 where
  pub count : group_count s ≡ n
  pub few : n ≤ 64
  pub size : length s ≡ 5 + 10 * n + share_size e * sites
  pub rest : read_plan e sites s ≡ gate (drop 4 (layout_rows e sites s)) (plan_of e sites s)

pub plan-headed : (e : Edition) (sites : ℕ) (s : List ℕ) {n : ℕ} → passed n ≡ plan_head e sites s → PlanHeaded e sites s n
unfolding read_plan
plan-headed e sites s h =
    let c = clear (take 4 (layout_rows e sites s)) (sym h) in
    record {
      count = c.1;
      few = omega (arith, c.1, ltb-false 64 (group_count s) c.0.1.0);
      size = rw (← c.1) (eqb-true _ _ (not-false _ c.0.1.1.1.0));
      rest = others-left 4 (layout_rows e sites s) (plan_of e sites s) c.0;
    }

pub plan-head-refused : (e : Edition) (sites : ℕ) (s : List ℕ) {n : ℕ} → refused n ≡ plan_head e sites s → read_plan e sites s ≡ refused n
unfolding read_plan
plan-head-refused e sites s h = first-refuses 4 (layout_rows e sites s) (group_count s) (plan_of e sites s) (sym h)

-- row 11, behind a head that gives a count
module _ (e : Edition) (sites : ℕ) (s : List ℕ) {n : ℕ} (h : PlanHeaded e sites s n) where
  abbrev marks : Bool
  marks = any_of (wrong_mark e.mark.group) (group_records s) || any_of (wrong_mark e.mark.share) (share_records e sites s)

  pub marks-wrong : marks ≡ true → read_plan e sites s ≡ refused 11
  unfolding first_row
  marks-wrong t = h.rest ∙ rw t

  pub none-wrong : marks ≡ false → read_plan e sites s ≡ passed (plan_of e sites s)
  unfolding first_row
  none-wrong t = h.rest ∙ rw t
