-- `writers_numbers::sites` meets its contract. Assumes nothing.
use Prim.Native.Nat.{◌≤◌, ◌<◌, ◌+◌}
use mathlib.Core.Path.{◌≡◌, refl, ◌∙◌}
use mathlib.Core.List.{flat_map}
use native.Mathlib.Nat.{mul-suc}
use native.Mathlib.Numerals.{add-one}
use native.Mathlib.Omega.{arith}
use lib.ListN.{length, take}
use lib.Seq.{take_all, length-take-le}
use borrow.Author.Rules.{rules}
use Rattle.records.specs.Format.{site_size}
use Rattle.records.specs.Write.{site_bytes}
use Rattle.records.proofs.Records.{mul-room}
use Rattle.records.proofs.Buffers.{run_step, length-site}
use Rattle.writers_numbers.proofs.sites.Goals as goal
use Rattle.writers_numbers.proofs.sites.Goals.{In-loop-x}

many : (c : In-loop-x) → length (take c.args.n c.args.table) ≡ c.args.n
many c = length-take-le c.args.n c.args.table (search rules)

room : (c : In-loop-x) → c.loop-x.at + site_size c.args.e ≤ length c.loop-x.out
room c =
    let h : c.loop-x.x-index < c.args.n = omega (arith, many c, c.loop-x-test.true) in
    omega (arith, mul-room (site_size c.args.e) h)

pub loop-x-init : goal.loop-x-init
unfolding flat_map
loop-x-init c = (omega arith, refl, refl)

pub site_at-requires : goal.site_at-requires
site_at-requires c = room (goal.at.site_at-requires c).In-loop-x

pub overflow_add-at : goal.overflow_add-at
overflow_add-at c = omega (arith, room (goal.at.overflow_add-at c).In-loop-x)

pub loop-x-preserved : goal.loop-x-preserved
loop-x-preserved c =
    let l = c.loop-x in
    let a = c.args in (
      rw (add-one, mul-suc) (omega arith),
      c.site_at.auto.out ∙ l.invariant.1,
      c.site_at.ensures ∙ rw (l.invariant.0, l.invariant.2) (run_step (site_bytes a.e) (site_size a.e) (length-site a.e) (take a.n a.table) a.out.now l.x-index _ c.loop-x-test.true),
    )

pub shape_of-out : goal.shape_of-out
shape_of-out c = c.loop-x.invariant.1

pub returns : goal.returns
returns c =
    let l = c.loop-x in
    let xs = take c.args.n c.args.table in
    let e : take l.x-index xs ≡ xs = take_all l.x-index xs (omega arith) in
    rw e at l.invariant.2
