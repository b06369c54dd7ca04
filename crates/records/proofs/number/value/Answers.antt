-- `records::number::value` meets its contract. The loop's invariant: v is the number of the bytes passed, which are the last. Assumes nothing.
use Rattle.std.proofs.Common.{◌≡◌, ◌<◌, ◌+◌, ◌*◌, ◌-◌, ◌^◌, ℕ, suc, List, length, get_or, drop, refl, ◌∙◌, arith, rules, length-drop}
use Rattle.std.proofs.lemmas.Iterator.Adapters.{YieldsList-from_rev_slice}
use Rattle.std.proofs.lemmas.Iterator.Consumers.{YieldsList-turn, YieldsList-end}
use Rattle.std.proofs.lemmas.List.{get_or-reverse, length_push, length-reverse}
use lib.Seq.{drop-cons, drop-length}
use Rattle.records.specs.Bytes.{Value, value}
use Rattle.records.proofs.Bytes.{value-cons, value-below}
use Rattle.records.proofs.number.value.Goals as goal
use Rattle.records.proofs.number.value.Goals.{In-Some}

-- none passed, one more, and all
none : (s : List ℕ) (k : ℕ) → k ≡ length s → Value (drop k s) 0
unfolding value
none s k e = rw (e, drop-length) (record { is = refl; small = omega arith })

next : (s : List ℕ) (k m : ℕ) {v x : ℕ} → k < length s → m ≡ k + 1 → x < 256 → x ≡ get_or s (length s - 1 - k) x → Value (drop (length s - k) s) v
    → Value (drop (length s - m) s) (v * 256 + x)
next s k m {v} {x} h e b g r =
    let i : ℕ = length s - 1 - k in
    let d : length s - k ≡ suc i = omega arith in
    let f : length s - m ≡ i = omega arith in
    let l : i < length s = omega arith in
    rw (f, drop-cons s i x l, ← g) (value-cons b (rw d at r))

-- the byte of a turn: the last that is not passed
turn : (c : In-Some) → (length c.loop-b.yielded < length c.args.s.now) × (c.in-Some.b.now ≡ get_or c.args.s.now (length c.args.s.now - 1 - length c.loop-b.yielded) c.in-Some.b.now)
turn c =
    let s = c.args.s.now in
    let t = YieldsList-turn (YieldsList-from_rev_slice s (search rules)) c.loop-b.yielded _ c.loop-b.yielded_by _ _ c.in-Some.b c.in-Some.is c.next.ensures.steps in
    let l : length c.loop-b.yielded < length s = rw length-reverse at t.0 in
    (l, t.1 ∙ get_or-reverse s _ _ l)

-- in a turn at most seven bytes are passed
seven : (c : In-Some) → c.loop-b.v < 256 ^ 7
seven c = value-below 7 (rw length-drop (omega (arith, turn c))) c.loop-b.invariant.1

pub loop-b-init : goal.loop-b-init
loop-b-init c = (omega arith, none c.args.s.now _ (omega arith))

pub overflow_mul-v : goal.overflow_mul-v
overflow_mul-v c = omega (arith, seven c)

pub overflow_add-v : goal.overflow_add-v
overflow_add-v c = omega (arith, seven (goal.at.overflow_add-v c).In-Some, c.from.ensures)

pub loop-b-preserved : goal.loop-b-preserved
loop-b-preserved c =
    let s = c.args.s.now in
    let k = length c.loop-b.yielded in
    let t = turn (goal.at.loop-b-preserved c).In-Some in
    let m = length_push c.loop-b.yielded c.in-Some.b in
    let e : c.from.result ≡ get_or s (length s - 1 - k) c.from.result = rw c.from.ensures t.1 in
    let b : c.from.result < 256 = omega (arith, c.from.ensures) in
    (omega (arith, m, t.0), next s k _ t.0 m b e c.loop-b.invariant.1)

pub returns : goal.returns
returns c =
    let s = c.args.s.now in
    let t = YieldsList-end (YieldsList-from_rev_slice s (search rules)) c.loop-b.yielded _ c.loop-b.yielded_by _ _ c.in-None.is c.next.ensures.steps in
    let e : length s - length c.loop-b.yielded ≡ 0 = rw (t.1, length-reverse) (omega arith) in
    rw e at c.loop-b.invariant.1
