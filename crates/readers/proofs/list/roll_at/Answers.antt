-- `readers::list::roll_at` meets its contract. Assumes nothing.
use Prim.Native.Nat.{ℕ, ◌+◌}
use mathlib.Core.Bool.{Bool, true}
use mathlib.Core.Path.{◌≡◌, sym, ap, ap₂, ◌∙◌}
use mathlib.Core.List.{List}
use native.Mathlib.Omega.{arith}
use lib.ListN.{length, take, drop, length-drop}
use lib.Seq.{take_all, drop-drop}
use Rattle.scanner.specs.declared.Record.{Record}
use borrow.Author.Rules.{rules}
use Rattle.readers.proofs.list.roll_at.Goals as goal
use Rattle.readers.proofs.list.roll_at.Goals.{After-record_at-r, Start}

-- the place of the bytes behind the mark
next-is : (c : After-record_at-r) → c.record_at-r.result.next ≡ c.args.at + 2
next-is c = ap (λ (r : Record). r.next) c.record_at-r.ensures

-- all bytes behind the mark
behind : (s : List ℕ) (at : ℕ) {from : ℕ} {crews : List ℕ} → length s ≡ at + 66 → from ≡ at + 2 → crews ≡ take 64 (drop from s) → crews ≡ drop 2 (drop at s)
behind s at h n e = e ∙ ap (λ (k : ℕ). take 64 (drop k s)) n ∙ take_all 64 (drop (at + 2) s) (rw length-drop (omega arith)) ∙ sym (drop-drop 2 at s)

pub record_at-r-requires : goal.record_at-r-requires
record_at-r-requires c = (search rules, omega (arith, c.requires))

pub bytes_at-crews-requires : goal.bytes_at-crews-requires
bytes_at-crews-requires c = omega (arith, next-is c, c.requires)

pub returns : goal.returns
returns c =
    let read = (goal.at.returns c).After-record_at-r in
    let s = (goal.at.After-record_at-r read).Start in
    ap₂ (λ (x : Bool) (y : List ℕ). record { mark = x; roll = record { there = true; crews = y } })
    (ap (λ (r : Record). r.wrong) read.record_at-r.ensures)
    (behind s.args.s.now s.args.at s.requires (next-is read) c.bytes_at-crews.ensures)
