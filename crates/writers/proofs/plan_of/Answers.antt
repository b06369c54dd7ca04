-- `writers::plan_of` meets its contract: the bytes stand at the front, after each call those written so far. Assumes nothing.
use Prim.Native.Nat.{ℕ, ◌+◌, ◌*◌, ◌-◌}
use mathlib.Core.Path.{refl}
use mathlib.Core.List.{List, [], ◌++◌, flat_map}
use borrow.Rule.Slice.PartMut.{put_mid}
use lib.ListN.{length}
use Rattle.records.specs.Bytes.{le}
use Rattle.records.specs.Values.{Plan}
use Rattle.records.specs.Write.{mark_bytes, plan_bytes}
use Rattle.records.proofs.Bytes.{length-le}
use Rattle.records.proofs.Buffers.{Front, front-lent, front-none, front-next, plan-front, length-plan, length-flat, length-mark, written, too_short}
use Rattle.writers.proofs.plan_of.Goals as goal
use Rattle.writers.proofs.plan_of.Goals.{After-number_at, After-number_at-2, After-number_at-3, After-records, After-records-2, After-slice_known-1, After-slice_known-2-1, After-slice_known-3-1, After-slice_known-4-1, After-slice_known-5-1, Else-out-end, Start}

abbrev given : Start → Plan
given s = record { groups = s.args.groups.now; shares = s.args.shares.now }

-- the bytes written so far
abbrev marked : Start → List ℕ
marked s = [] ++ le 2 s.args.e.mark.plan

abbrev grouped : Start → List ℕ
grouped s = marked s ++ le 1 (length (given s).groups)

abbrev headed : Start → List ℕ
headed s = grouped s ++ le 2 (length (given s).shares)

abbrev filled : Start → List ℕ
filled s = headed s ++ flat_map (mark_bytes s.args.e.mark.group 8) (given s).groups

-- the places on the way to where the call has come to
abbrev start1 : After-number_at → Start
start1 c = (goal.at.After-number_at c).Start

abbrev mark-put : After-number_at-2 → After-number_at
mark-put c = (goal.at.After-number_at-2 c).After-number_at

abbrev start2 : After-number_at-2 → Start
start2 c = start1 (mark-put c)

abbrev groups-counted : After-number_at-3 → After-number_at-2
groups-counted c = (goal.at.After-number_at-3 c).After-number_at-2

abbrev start3 : After-number_at-3 → Start
start3 c = start2 (groups-counted c)

abbrev shares-counted : After-records → After-number_at-3
shares-counted c = (goal.at.After-records c).After-number_at-3

abbrev start4 : After-records → Start
start4 c = start3 (shares-counted c)

-- the buffer, with what has been written at its front, after each call
front1 : (c : After-number_at) → Front (marked (start1 c)) (start1 c).args.out.now c.number_at.new.out 2
front1 c = front-next _ (length-le 2 (start1 c).args.e.mark.plan) (front-none _) c.number_at.ensures

front2 : (c : After-number_at-2) → Front (grouped (start2 c)) (start2 c).args.out.now c.number_at-2.new.out 3
front2 c = front-next _ (length-le 1 (length (given (start2 c)).groups)) (front1 (mark-put c)) c.number_at-2.ensures

front3 : (c : After-number_at-3) → Front (headed (start3 c)) (start3 c).args.out.now c.number_at-3.new.out 5
front3 c = front-next _ (length-le 2 (length (given (start3 c)).shares)) (front2 (groups-counted c)) c.number_at-3.ensures

front4 : (c : After-records)
    → let last = (shares-counted c).number_at-3.new.out in
    Front (filled (start4 c)) (start4 c).args.out.now (put_mid 5 (length last - 5) last c.records.new.out) (5 + 10 * length (given (start4 c)).groups)
front4 c =
    let s = start4 c in
    front-lent _ (length-flat (mark_bytes s.args.e.mark.group 8) 10 (length-mark s.args.e.mark.group 8) (given s).groups) (front3 (shares-counted c)) c.records.ensures

pub returns-then-out-end : goal.returns-then-out-end
returns-then-out-end c =
    let s = (goal.at.returns-then-out-end c).Start in
    too_short (plan_bytes s.args.e (given s)) _ (length-plan s.args.e (given s)) c.if-out-end.true

pub returns : goal.returns
returns c =
    let shares = (goal.at.returns c).After-records-2 in
    let groups = (goal.at.After-records-2 shares).After-records in
    let marked = mark-put (groups-counted (shares-counted groups)) in
    let roomy = (goal.at.After-number_at marked).Else-out-end in
    let s = start4 groups in
    let f = mark_bytes s.args.e.mark.share s.args.e.share in
    let n = length-flat f (2 + s.args.e.share) (length-mark s.args.e.mark.share s.args.e.share) (given s).shares in
    written roomy.if-out-end.false (plan-front s.args.e (given s) refl refl (front-lent (flat_map f (given s).shares) n (front4 groups) shares.records-2.ensures))
