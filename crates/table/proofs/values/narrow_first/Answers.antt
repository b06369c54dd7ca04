-- `table::values::narrow_first` meets its contract. Assumes nothing.
use mathlib.Core.Path.{sym, ap, ◌∙◌}
use mathlib.Core.List.{List, map}
use lib.ListN.{length, take, replicate, length-map}
use lib.Seq.{get_or-take, length-take-le}
use Prim.Native.Nat.{◌<◌, ◌≤◌}
use native.Mathlib.Omega.{arith}
use Rattle.table.specs.declared.Site1.{Site1}
use Rattle.table.specs.Widths.{no_site1, widened, narrowed}
use Rattle.density.specs.Network.{no_site}
use Rattle.table.proofs.Widths.{narrowed_at, fit_at}
use Rattle.table.proofs.Copies.{copied-begins, copied-goes, copied-ends, widened-first}
use Rattle.table.proofs.values.narrow_first.Goals as goal
use Rattle.table.proofs.values.narrow_first.Goals.{Start}

pub loop-i-init : goal.loop-i-init
loop-i-init c = copied-begins (omega (arith, length-map c.args.sites narrowed, c.well_formed.0.1.0.1)) c.requires

pub loop-i-preserved : goal.loop-i-preserved
loop-i-preserved c =
    let l = c.args.sites in
    let n = c.args.n in
    let i = c.loop-i.i in
    let t = c.loop-i-test.true in
    let h : i < n = omega (arith, length-take-le n l (omega (arith, length-map l narrowed, c.loop-i.invariant.there))) in
    copied-goes no_site1 c.loop-i.invariant h (λ f.
    c.narrow_low.ensures (fit_at (take n l) f i t) ∙ ap narrowed (get_or-take n l i no_site h) ∙ sym (narrowed_at l i))

pub returns : goal.returns
returns c = λ f.
    let l = c.args.sites in
    let n = c.args.n in
    let m = c.loop-i.invariant in
    let k : n ≤ length l = omega (arith, m.there, length-map l narrowed) in
    ap (λ (a : List Site1). map widened (take n a)) (copied-ends m (omega (arith, c.loop-i-test.false, length-take-le n l k)) f)
    ∙ widened-first n l (replicate 512 no_site1) k
