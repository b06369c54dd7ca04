-- The invariant: the front of the buffer is that of the bytes of the text.
use Prim.Native.Nat.{◌≤◌, ◌*◌}
use mathlib.Core.Path.{◌≡◌}
use lib.ListN.{length, take, drop}
use Rattle.script.specs.Hex.{bytes_of}
use Rattle.script.proofs.decode.Given as goal

abbrev pub invariant-loop-i : goal.invariant-loop-i
invariant-loop-i l = (2 * l.n ≤ length l.text) × (l.n ≤ length l.out) × (length l.out ≡ length l.initial.out) × (take l.i l.out ≡ take l.i (bytes_of l.text)) × (drop l.n l.out ≡ drop l.n l.initial.out)
