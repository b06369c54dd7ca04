-- `sets::add_weights` meets its contract. The invariant: the total and the weights of the depots left are the set's. Assumes nothing.
use Prim.Native.Nat.{ℕ}
use native.Mathlib.Omega.{arith}
use lib.ListN.{get_or}
use Rattle.sets.specs.Set.{has}
use Rattle.sets.proofs.Weigh.{weigh-le}
use Rattle.sets.proofs.Rest.{takes-weight, ends-weight}
use Rattle.sets.proofs.add_weights.Goals as goal

pub bounds-weights-d : goal.bounds-weights-d
bounds-weights-d c = omega (arith, c.in-Some.ensures.steps.2)

pub overflow_add-total : goal.overflow_add-total
overflow_add-total c =
    let weight = λ (d : ℕ). get_or c.args.weights.now d 0 in
    omega (arith, c.loop-d.invariant, takes-weight c.in-Some.ensures.steps weight, weigh-le weight (has c.args.set) 64 9 c.requires.1)

pub loop-d-preserved : goal.loop-d-preserved
loop-d-preserved c = omega (arith, c.loop-d.invariant, takes-weight c.in-Some.ensures.steps (λ d. get_or c.args.weights.now d 0))

pub returns : goal.returns
returns c = omega (arith, c.loop-d.invariant, ends-weight c.in-None.ensures.steps (λ d. get_or c.args.weights.now d 0))
