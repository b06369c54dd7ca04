-- `readers::plan::head` meets its contract: at each return the next row applies, or none. Assumes nothing.
use Prim.Native.Nat.{ℕ, ◌/◌, ◌%◌, ◌≤◌}
use mathlib.Core.Path.{◌≡◌, ◌∙◌, ap, sym}
use native.Mathlib.Omega.{arith}
use borrow.Author.Tests.{lt-ltb, le-ltb, eq-eqb, ne_eqb}
use lib.ListN.{length, take, drop}
use Rattle.density.specs.Rows.{first_row}
use Rattle.records.specs.Bytes.{Bytes, field}
use Rattle.records.specs.Outcome.{gate}
use Rattle.records.specs.Format.{layout_rows, group_count}
use Rattle.records.proofs.Records.{step-read, step_end, head-groups, head-sites}
use Rattle.readers.specs.Head.{plan_head}
use borrow.Author.Rules.{rules}
use Rattle.readers.proofs.plan.head.Goals as goal
use Rattle.readers.proofs.plan.head.Goals.{After-shared_slice_known-1, After-step_at, After-struct_known-1, After-struct_known-3-1, Else-body-sites, Else-count-gt64, Else-found-e, Start}

-- where the head's record was read
abbrev start : After-struct_known-1 → Start
start c = (goal.at.After-struct_known-1 c).Start

-- what the record says
said : (c : After-struct_known-1) → (5 ≤ length c.args.s.now) × (c.in-Some.found.mark ≡ field c.args.s.now 0 2) × (c.in-Some.found.body ≡ field c.args.s.now 2 3)
said c =
    let r = (goal.at.After-struct_known-1 c).After-step_at in
    step-read c.args.s.now 0 3 (sym c.in-Some.is ∙ r.step_at.ensures)

bytes : (c : After-struct_known-1) → Bytes c.args.s.now
bytes c i =
    let k = (goal.at.After-struct_known-1 c).After-shared_slice_known-1 in
    (k.shared_slice_known-1.given i).fits

groups : (c : After-struct_known-1) → c.in-Some.found.body % 256 ≡ group_count c.args.s.now
groups c = ap (λ (x : ℕ). x % 256) (said c).2 ∙ head-groups c.args.s.now (bytes c) (said c).0

sites : (c : After-struct_known-1) → c.in-Some.found.body / 256 ≡ field c.args.s.now 3 2
sites c = ap (λ (x : ℕ). x / 256) (said c).2 ∙ head-sites c.args.s.now (bytes c) (said c).0

-- the first k rows do not apply
abbrev Past : ℕ → Start → Type 0
Past k c =
    plan_head c.args.e c.args.sites c.args.s.now
    ≡ gate (drop k (take 4 (layout_rows c.args.e c.args.sites c.args.s.now))) (group_count c.args.s.now)

past1 : (c : Else-found-e) → Past 1 (goal.at.Else-found-e c).Start
unfolding first_row
past1 c = rw (le-ltb _ _ (said (goal.at.Else-found-e c).After-struct_known-1).0, ← (said (goal.at.Else-found-e c).After-struct_known-1).1, eq-eqb _ _ c.if-found-e.false)

past2 : (c : Else-count-gt64) → Past 2 (goal.at.Else-count-gt64 c).Start
unfolding first_row
past2 c = past1 (goal.at.Else-count-gt64 c).Else-found-e ∙ rw (← (groups (goal.at.Else-count-gt64 c).After-struct_known-1), le-ltb _ _ c.if-count-gt64.false)

-- the plan's site count is the list's
same-sites : (c : Else-body-sites) → field c.args.s.now 3 2 ≡ c.args.sites
same-sites c = sym (sites (goal.at.Else-body-sites c).After-struct_known-1) ∙ c.if-body-sites.false

past3 : (c : Else-body-sites) → Past 3 (goal.at.Else-body-sites c).Start
unfolding first_row
past3 c = past2 (goal.at.Else-body-sites c).Else-count-gt64 ∙ rw (eq-eqb _ _ (same-sites c))

pub enum_told-1 : goal.enum_told-1
enum_told-1 c = search rules

pub returns-in_default : goal.returns-in_default
unfolding first_row
returns-in_default c =
    let s = (goal.at.returns-in_default c).Start in
    rw (lt-ltb _ _ (step_end s.args.s.now 0 3 (omega arith) (sym c.in_default.is ∙ c.step_at.ensures)))

pub returns-then-found-e : goal.returns-then-found-e
unfolding first_row
returns-then-found-e c = rw (le-ltb _ _ (said (goal.at.returns-then-found-e c).After-struct_known-1).0, ← (said (goal.at.returns-then-found-e c).After-struct_known-1).1, ne_eqb _ _ c.if-found-e.true)

pub returns-then-count-gt64 : goal.returns-then-count-gt64
unfolding first_row
returns-then-count-gt64 c = rw (past1 (goal.at.returns-then-count-gt64 c).Else-found-e, ← (groups (goal.at.returns-then-count-gt64 c).After-struct_known-1), lt-ltb _ _ c.if-count-gt64.true)

pub returns-then-body-sites : goal.returns-then-body-sites
unfolding first_row
returns-then-body-sites c = rw (past2 (goal.at.returns-then-body-sites c).Else-count-gt64, ← (sites (goal.at.returns-then-body-sites c).After-struct_known-1), ne_eqb _ _ c.if-body-sites.true)

pub returns-then-s-count : goal.returns-then-s-count
unfolding first_row
returns-then-s-count c = rw (past3 (goal.at.returns-then-s-count c).Else-body-sites, ← (groups (goal.at.returns-then-s-count c).After-struct_known-1), ne_eqb _ _ c.if-s-count.true)

pub returns : goal.returns
unfolding first_row
returns c = rw (past3 (goal.at.returns c).Else-body-sites, ← (groups (goal.at.returns c).After-struct_known-1), eq-eqb _ _ c.if-s-count.false)
