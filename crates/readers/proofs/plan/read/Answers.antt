-- `readers::plan::read` meets its contract: behind the head stand the records that are read, and row 11 is what is left of the rows. Assumes nothing.
use Prim.Native.Nat.{ℕ, ◌+◌, ◌*◌, ◌≤◌}
use mathlib.Core.List.{List, map}
use mathlib.Core.Bool.{◌||◌}
use mathlib.Core.Path.{◌≡◌, ◌∙◌, ap, ap₂, sym}
use native.Mathlib.Omega.{arith}
use lib.ListN.{length, take, drop, length-map}
use Rattle.records.specs.Record.{records, any_of, wrong_mark}
use Rattle.records.specs.Outcome.{Outcome, passed}
use Rattle.records.specs.declared.PlanArray.{PlanArray}
use Rattle.std.proofs.lemmas.Result.{err_from_is_err_and}
use Rattle.records.specs.Values.{Plan}
use Rattle.records.specs.Answer.{filled, plan_read}
use Rattle.records.specs.Format.{plan_of, group_count, group_records, share_records, share_size, body_of}
use Rattle.records.proofs.Records.{length-records, zeros, zeros-front, filled-front}
use Rattle.readers.proofs.Heads.{PlanHeaded, plan-headed, plan-head-refused, marks-wrong, none-wrong}
use Rattle.readers.proofs.plan.read.Goals as goal
use Rattle.readers.proofs.plan.read.Goals.{After-all_bodies-end, In_ok-count, Start}

-- where the head gave a count
abbrev start : In_ok-count → Start
start c = (goal.at.In_ok-count c).Start

abbrev count : In_ok-count → ℕ
count c = c.in_ok-count.count

headed : (c : In_ok-count) → PlanHeaded c.args.e c.args.sites c.args.s.now (count c)
headed c = plan-headed _ _ _ c.in_ok-count.ensures

-- the records that are read are those of the plan
groups-many : (c : In_ok-count) → length (take (count c) (zeros 64)) ≡ group_count c.args.s.now
groups-many c = zeros-front (count c) 64 (headed c).few ∙ sym (headed c).count

shares-many : (c : Start) → length (take c.args.sites (zeros 512)) ≡ c.args.sites
shares-many c = zeros-front c.args.sites 512 c.requires.1

-- where the records have been read, and where the head gave a count before that
abbrev told : After-all_bodies-end → In_ok-count
told c = (goal.at.After-all_bodies-end c).In_ok-count

tested : (c : After-all_bodies-end) → c.all_bodies-end.result.wrong
    ≡ (any_of (wrong_mark c.args.e.mark.group) (group_records c.args.s.now)
    || any_of (wrong_mark c.args.e.mark.share) (share_records c.args.e c.args.sites c.args.s.now))
tested c =
    let a = c.args in
    c.all_bodies-end.ensures.wrong
    ∙ ap₂ (λ (k m : ℕ). any_of (wrong_mark a.e.mark.group) (records 10 k (drop 5 a.s.now)) || any_of (wrong_mark a.e.mark.share) (records (share_size a.e) m (drop (5 + 10 * k) a.s.now))) (groups-many (goal.at.After-all_bodies-end c).In_ok-count) (shares-many (goal.at.After-all_bodies-end c).Start)

groups-read : (c : After-all_bodies-end) → c.all_bodies-end.new.groups ≡ (plan_of c.args.e c.args.sites c.args.s.now).groups
groups-read c =
    let a = c.args in
    c.all_bodies-end.ensures.groups ∙ ap (λ (k : ℕ). map (body_of 8) (records 10 k (drop 5 a.s.now))) (groups-many (goal.at.After-all_bodies-end c).In_ok-count)

shares-read : (c : After-all_bodies-end) → c.all_bodies-end.new.out ≡ (plan_of c.args.e c.args.sites c.args.s.now).shares
shares-read c =
    let a = c.args in
    c.all_bodies-end.ensures.bodies
    ∙ ap₂ (λ (k m : ℕ). map (body_of a.e.share) (records (share_size a.e) m (drop (5 + 10 * k) a.s.now))) (groups-many (goal.at.After-all_bodies-end c).In_ok-count) (shares-many (goal.at.After-all_bodies-end c).Start)

made : (p : Plan) {n : ℕ} {gs ss : List ℕ} → length p.groups ≡ n → gs ≡ filled 64 p.groups 0 → ss ≡ filled 512 p.shares 0
    → ◌≡◌ {A = Outcome PlanArray} (passed (record { count = n; groups = gs; shares = ss })) (plan_read (passed p))
made p h e f = λ i. passed (record { count = sym h i; groups = e i; shares = f i })

pub returns-in_err-count : goal.returns-in_err-count
returns-in_err-count c =
    let p = err_from_is_err_and c.from_residual.result c.from_residual.ensures.1 in
    rw (p.1, p.2) (sym (ap plan_read (plan-head-refused _ _ _ c.in_err-count.ensures)))

pub slice_bounds-groups-end : goal.slice_bounds-groups-end
slice_bounds-groups-end c = (headed c).few

pub slice_bounds-all_bodies-end : goal.slice_bounds-all_bodies-end
slice_bounds-all_bodies-end c = sym (zeros-front (count (goal.at.slice_bounds-all_bodies-end c).In_ok-count) 64 (headed (goal.at.slice_bounds-all_bodies-end c).In_ok-count).few)

pub slice_bounds-all_bodies-end-2 : goal.slice_bounds-all_bodies-end-2
slice_bounds-all_bodies-end-2 c = sym (shares-many (goal.at.slice_bounds-all_bodies-end-2 c).Start)

pub all_bodies-end-requires : goal.all_bodies-end-requires
all_bodies-end-requires c =
    let t = (goal.at.all_bodies-end-requires c).In_ok-count in
    let a = t.args in
    let g : (k m : ℕ) → k ≡ group_count a.s.now → m ≡ a.sites → 5 + 10 * k + (2 + a.e.share) * m ≤ length a.s.now = λ k m d e. rw (d, e) (omega (arith, (headed t).size, (headed t).count)) in
    (t.requires.0, g _ _ (groups-many t) (shares-many (goal.at.In_ok-count t).Start))

pub returns-then-end : goal.returns-then-end
returns-then-end c =
    let r = (goal.at.returns-then-end c).After-all_bodies-end in
    sym (ap plan_read (marks-wrong _ _ _ (headed (goal.at.After-all_bodies-end r).In_ok-count) (sym (tested r) ∙ c.if-end.true)))

pub returns : goal.returns
returns c =
    let r = (goal.at.returns c).After-all_bodies-end in
    let t = (goal.at.After-all_bodies-end r).In_ok-count in
    let a = t.args in
    let p = plan_of a.e a.sites a.s.now in
    let n : length p.groups ≡ count t =
    length-map (group_records a.s.now) (body_of 8) ∙ length-records 10 (group_count a.s.now) (drop 5 a.s.now) ∙ (headed t).count in
    let m : length p.shares ≡ a.sites =
    length-map (share_records a.e a.sites a.s.now) (body_of a.e.share) ∙ length-records (share_size a.e) a.sites (drop (5 + 10 * group_count a.s.now) a.s.now) in
    made p n (filled-front (count t) 64 (groups-read r) n) (filled-front a.sites 512 (shares-read r) m)
    ∙ sym (ap plan_read (none-wrong _ _ _ (headed t) (sym (tested r) ∙ c.if-end.false)))
