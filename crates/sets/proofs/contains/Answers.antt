-- `sets::contains` meets its contract. Assumes nothing.
use mathlib.Core.Path.{sym}
use Rattle.sets.proofs.Machine.{bit_is}
use Rattle.sets.proofs.Member.{has_above}
use Rattle.sets.proofs.contains.Goals as goal

pub returns-then-depot-gt63 : goal.returns-then-depot-gt63
returns-then-depot-gt63 c = sym (has_above 64 c.args.depot c.ranges.set.fits c.if-depot-gt63.true)

pub returns : goal.returns
returns c = bit_is c.args.set c.args.depot
