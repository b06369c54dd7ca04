-- After so many records have been read: the reader's position, the answer so far, and the bodies in front of what stood in their places. Assumes nothing.
use Rattle.std.proofs.Common.{◌≡◌}
use Rattle.scanner.proofs.Turns.{at, answer, filled}
use Rattle.scanner.proofs.read_records.Given as goal

abbrev pub invariant-loop-place : goal.invariant-loop-place
invariant-loop-place l = record {
  source : l.r.src.now ≡ l.fn.r.src.now;
  place : l.r.at ≡ at l.fn.r.src.now l.fn.r.at l.w l.mark l.fn.wrong l.fn.out l.place-index;
  ended : l.end ≡ answer l.fn.r.src.now l.fn.r.at l.w l.mark l.fn.wrong l.fn.out l.place-index;
  places : l.out ≡ filled l.fn.r.src.now l.fn.r.at l.w l.mark l.fn.wrong l.fn.out l.place-index;
}
