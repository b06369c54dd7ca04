-- `attempt::lay_site` meets its contract. Assumes nothing.
use mathlib.Core.Bool.{Bool}
use mathlib.Core.Logic.{inr}
use mathlib.Core.Path.{◌∙◌, ap, sym}
use Prim.Native.Nat.{◌*◌, ◌+◌, ◌-◌}
use lib.ListN.{set}
use Rattle.sets.specs.Set.{has}
use Rattle.sets.specs.Sum.{when}
use Rattle.residual.specs.Array.{at}
use Rattle.lay_on.specs.Raise.{raise}
use Rattle.attempt.proofs.Laying.{brings-is}
use Rattle.attempt.proofs.lay_site.Goals as goal

pub returns : goal.returns
returns c =
    let s = c.args in
    let t = s.q * c.part-w.result in
    let in-set = c.contains.ensures in
    let laid = c.lay_on.ensures in
    inr (
      c.if-x-ge64.false,
      sym c.covers.ensures ∙ c.if-covers.false,
      brings-is s.ends.now s.litres.now (has s.set) (has s.before) s.i c.carries.ensures c.part-w.ensures,
      laid.0 ∙ ap (λ (x : Bool). set (set s.share.now s.i (when x t)) (512 + s.i) (t - when x t)) in-set,
      laid.1 ∙ ap (λ (x : Bool). raise (raise s.load.now (at s.ends.now s.i) (when x t)) (at s.ends.now (512 + s.i)) (t - when x t)) in-set,
    )
