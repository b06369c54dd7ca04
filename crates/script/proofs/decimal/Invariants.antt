-- The invariant: the text is read as v followed by the bytes from here on.
use Prim.Native.Nat.{◌≤◌}
use mathlib.Core.Path.{◌≡◌}
use lib.ListN.{drop}
use Rattle.script.specs.Decimal.{number_from, number_of}
use Rattle.script.proofs.decimal.Given as goal

abbrev pub invariant-loop-b : goal.invariant-loop-b
invariant-loop-b l = (l.v ≤ l.most) × (number_of l.most l.text ≡ number_from l.most l.v (drop l.b-index l.text))
