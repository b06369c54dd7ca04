-- `readers::list::head` meets its contract: at each return the next row applies, or none. Assumes nothing.
use Prim.Native.Nat.{ℕ, ◌+◌, ◌≤◌}
use mathlib.Core.Bool.{Bool, true, ◌&&◌, ◌||◌}
use mathlib.Core.List.{List}
use mathlib.Core.Path.{◌≡◌, ◌∙◌, ap, ap₂, sym}
use mathlib.Core.Logic.{⊎_elim}
use native.Mathlib.Omega.{arith}
use borrow.Author.Tests.{lt-ltb, le-ltb, eq-eqb, ne_eqb}
use lib.Dec.{eqb}
use lib.ListN.{length, take, drop}
use Rattle.density.specs.Rows.{first_row}
use Rattle.records.specs.declared.Edition.{Edition}
use Rattle.records.specs.Bytes.{field}
use Rattle.records.specs.Outcome.{gate}
use Rattle.records.specs.Format.{list_size, list_rows, site_count}
use Rattle.records.proofs.Records.{step-read, step_end}
use Rattle.readers.specs.Head.{list_head}
use borrow.Author.Rules.{rules}
use Rattle.readers.proofs.list.head.Goals as goal
use Rattle.readers.proofs.list.head.Goals.{After-is_rolled-rolled, After-step_at, After-struct_known-1, Else-found-e, Else-places-n, Start, then-s-size-via-then-s-size, then-s-size-via-else-s-size+then-rolled}

-- where the head's record was read
abbrev start : After-struct_known-1 → Start
start c = (goal.at.After-struct_known-1 c).Start

-- what the record says
said : (c : After-struct_known-1) → (4 ≤ length c.args.s.now) × (c.in-Some.found.mark ≡ field c.args.s.now 0 2) × (c.in-Some.found.body ≡ site_count c.args.s.now)
said c =
    let r = (goal.at.After-struct_known-1 c).After-step_at in
    step-read c.args.s.now 0 2 (sym c.in-Some.is ∙ r.step_at.ensures)

-- the first k rows do not apply
abbrev Past : ℕ → Start → Type 0
Past k c =
    list_head c.args.e c.args.places c.args.s.now
    ≡ gate (drop k (take 3 (list_rows c.args.e c.args.places c.args.s.now))) (site_count c.args.s.now)

past1 : (c : Else-found-e) → Past 1 (goal.at.Else-found-e c).Start
unfolding first_row
past1 c = rw (le-ltb _ _ (said (goal.at.Else-found-e c).After-struct_known-1).0, ← (said (goal.at.Else-found-e c).After-struct_known-1).1, eq-eqb _ _ c.if-found-e.false)

past2 : (c : Else-places-n) → Past 2 (goal.at.Else-places-n c).Start
unfolding first_row
past2 c = past1 (goal.at.Else-places-n c).Else-found-e ∙ rw (← (said (goal.at.Else-places-n c).After-struct_known-1).2, le-ltb _ _ c.if-n-gt512.false, c.if-places-n.false-raw)

-- what row 3 tests: the length is that of the sites, or of the sites and a roll
abbrev fits : Edition → List ℕ → ℕ → Bool
fits e s n = eqb (length s) (list_size e n) || (e.roll && eqb (length s) (list_size e n + 66))

length-told : (c : After-is_rolled-rolled) {b : Bool} → (eqb (length c.args.s.now) (list_size c.args.e c.in-Some.found.body) || c.is_rolled-rolled.result) ≡ b
    → fits c.args.e c.args.s.now (site_count c.args.s.now) ≡ b
length-told c t =
    let a = c.args in
    sym (ap (λ (x : Bool). eqb (length a.s.now) (list_size a.e c.in-Some.found.body) || x) c.is_rolled-rolled.ensures
    ∙ ap (fits a.e a.s.now) (said (goal.at.After-is_rolled-rolled c).After-struct_known-1).2) ∙ t

pub enum_told-1 : goal.enum_told-1
enum_told-1 c = search rules

pub returns-in_default : goal.returns-in_default
unfolding first_row
returns-in_default c =
    let s = (goal.at.returns-in_default c).Start in
    rw (lt-ltb _ _ (step_end s.args.s.now 0 2 (omega arith) (sym c.in_default.is ∙ c.step_at.ensures)))

pub returns-then-found-e : goal.returns-then-found-e
unfolding first_row
returns-then-found-e c = rw (le-ltb _ _ (said (goal.at.returns-then-found-e c).After-struct_known-1).0, ← (said (goal.at.returns-then-found-e c).After-struct_known-1).1, ne_eqb _ _ c.if-found-e.true)

pub returns-then-n-gt512 : goal.returns-then-n-gt512
unfolding first_row
returns-then-n-gt512 c =
    rw (past1 (goal.at.returns-then-n-gt512 c).Else-found-e, ← (said (goal.at.returns-then-n-gt512 c).After-struct_known-1).2)
    (⊎_elim (λ w. rw (lt-ltb 512 c.in-Some.found.body w)) (λ w. rw (le-ltb 512 c.in-Some.found.body w.0, lt-ltb c.args.places c.in-Some.found.body w.1)) c.then-n-gt512.either)

pub is_rolled-rolled-requires : goal.is_rolled-rolled-requires
is_rolled-rolled-requires c = (c.requires, c.if-n-gt512.false)

pub returns-then-s-size : goal.returns-then-s-size
unfolding first_row
returns-then-s-size c =
    let asked = (goal.at.returns-then-s-size c).After-is_rolled-rolled in
    let told : fits asked.args.e asked.args.s.now (site_count asked.args.s.now) ≡ true = elim c.then-s-size.branch [
      | then-s-size-via-then-s-size w ↦ length-told asked (ap (λ (b : Bool). b || c.is_rolled-rolled.result) (eq-eqb _ _ w.if-s-size.true))
      | then-s-size-via-else-s-size+then-rolled w ↦ length-told asked (ap₂ ◌||◌ (ne_eqb _ _ w.if-s-size.false) w.if-rolled.true)
    ] in
    rw (past2 (goal.at.returns-then-s-size c).Else-places-n, told, ← (said (goal.at.returns-then-s-size c).After-struct_known-1).2)

pub returns : goal.returns
unfolding first_row
returns c =
    let told = length-told (goal.at.returns c).After-is_rolled-rolled (ap₂ ◌||◌ (ne_eqb _ _ c.if-s-size.false) c.if-rolled.false) in
    rw (past2 (goal.at.returns c).Else-places-n, told)
