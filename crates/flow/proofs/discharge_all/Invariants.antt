use Rattle.residual.proofs.DischargingAll.{DischargingAll}
use Rattle.flow.proofs.discharge_all.Given as goal

abbrev pub invariant-loop-k : goal.invariant-loop-k
invariant-loop-k l = DischargingAll l.ends l.chain l.order l.rank l.target l.start l.n l.initial.share l.initial.load l.share l.load l.k
