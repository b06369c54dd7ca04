-- The depots come out from the lowest on, and each leaves fewer. Assumes nothing.
use mathlib.Core.Path.{refl, sym, ap, ◌∙◌}
use mathlib.Core.Bool.{not}
use Prim.Native.Nat.{◌<◌}
use native.Mathlib.Omega.{arith}
use Rattle.sets.proofs.Rest.{lowest-lt, rest-less}
use Rattle.sets.proofs.InOrderIterator.next.Goals as goal
use Rattle.sets.proofs.InOrderIterator.next.Goals.{After-lowest-d}

-- the lowest depot is below 64
small : (c : After-lowest-d) → c.lowest-d.result < 64
small c = rw c.lowest-d.ensures (lowest-lt c.args.self.now.left (omega arith) (ap not (sym c.is_empty.ensures ∙ c.if-is_empty.false)))

pub single-requires : goal.single-requires
single-requires c = small c

pub returns-clause-goes : goal.returns-clause-goes
returns-clause-goes c =
    rw (c.without-self.ensures, c.single.ensures) record {
      on = λ f. (tt, tt, rest-less c.args.self.now.left (omega arith) (ap not (sym c.is_empty.ensures ∙ c.if-is_empty.false)) _ c.lowest-d.ensures);
      keeps = tt;
      rests = λ f. tt;
    }

pub returns-clause-steps : goal.returns-clause-steps
returns-clause-steps c =
    rw (c.without-self.ensures, c.single.ensures)
    (omega arith, sym c.is_empty.ensures ∙ c.if-is_empty.false, small (goal.at.returns-clause-steps c).After-lowest-d, c.lowest-d.ensures, refl)
