use Rattle.residual.proofs.Discharging.{Discharging}
use Rattle.flow.proofs.discharge.Given as goal

abbrev pub invariant-loop-j : goal.invariant-loop-j
invariant-loop-j l = Discharging l.ends l.chain l.rank l.target l.u l.initial.share l.initial.load l.share l.load l.j

abbrev pub decreases-loop-j : goal.decreases-loop-j
decreases-loop-j l = l.j
