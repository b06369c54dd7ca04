-- `records::number::put` meets its contract. The loop's invariant: the bytes written, and then those of the rest, are the bytes of x. Assumes nothing.
use Prim.Native.Nat.{ℕ, suc, ◌<◌, ◌-◌, ◌+◌, ◌/◌, ◌%◌}
use mathlib.Core.Path.{◌≡◌, ◌∙◌}
use mathlib.Core.List.{List, ◌++◌, append_assoc, append-nil}
use native.Mathlib.Nat.{sub_self}
use native.Mathlib.Omega.{arith}
use native.Mathlib.Numerals.{add-one}
use lib.ListN.{length, take, set, length-set}
use lib.Seq.{take-suc-set, take-length}
use Rattle.records.specs.Bytes.{le}
use Rattle.records.proofs.Bytes.{le_step}
use Rattle.records.proofs.number.put.Goals as goal

-- one byte more
next : (s : List ℕ) (i x : ℕ) → i < length s
    → take (i + 1) (set s i (x % 256)) ++ le (length (set s i (x % 256)) - (i + 1)) (x / 256) ≡ take i s ++ le (length s - i) x
next s i x h =
    let e : length s - i ≡ suc (length s - suc i) = omega arith in
    rw (e, le_step, length-set, add-one, take-suc-set, append_assoc)

-- nothing is left
whole : (s : List ℕ) (x : ℕ) → s ++ le 0 x ≡ s
unfolding le
whole s x = append-nil s

pub loop-b-preserved : goal.loop-b-preserved
loop-b-preserved c =
    let l = c.loop-b in
    next l.out l.b-index _ (omega arith) ∙ l.invariant ∙ rw length-set

pub returns : goal.returns
returns c =
    let l = c.loop-b in
    let e : l.b-index ≡ length l.out = omega arith in
    rw (← l.auto.out) (rw (e, sub_self, take-length, whole) at l.invariant)
