-- The invariant: the front of the buffer is that of the text.
use Prim.Native.Nat.{◌≤◌, ◌*◌}
use mathlib.Core.Path.{◌≡◌}
use lib.ListN.{length, take, drop}
use Rattle.script.specs.Hex.{digits_of}
use Rattle.script.proofs.encode.Given as goal

abbrev pub invariant-loop-i : goal.invariant-loop-i
invariant-loop-i l = (2 * l.n ≤ length l.out) × (length l.out ≡ length l.initial.out) × (take (2 * l.i) l.out ≡ take (2 * l.i) (digits_of l.bytes)) × (drop (2 * l.n) l.out ≡ drop (2 * l.n) l.initial.out)
