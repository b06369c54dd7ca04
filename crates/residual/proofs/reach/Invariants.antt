use Prim.Native.Nat.{◌-◌}
use Rattle.residual.proofs.Reaching.{Reaching}
use Rattle.residual.proofs.reach.Given as goal

abbrev pub invariant-loop-k : goal.invariant-loop-k
invariant-loop-k l = Reaching l.ends l.chain l.share l.start l.initial.order l.initial.rank l.n l.order l.rank l.k

abbrev pub decreases-loop-k : goal.decreases-loop-k
decreases-loop-k l = 64 - l.k
