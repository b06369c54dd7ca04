-- `script::decimal` meets its contract. Assumes nothing.
use Rattle.std.proofs.Common.{sym, ◌∙◌, arith}
use Rattle.script.proofs.Numbers.{from_end, from_next, from-letter, from-large}
use Rattle.script.proofs.decimal.Goals as goal
use Rattle.script.proofs.decimal.Goals.{then-d-gt9-via-then-d-gt9, then-d-gt9-via-else-d-gt9+then-d-most, then-d-gt9-via-else-d-gt9+else-d-most+then-v-most}

pub returns-then-d-gt9-clause-value : goal.returns-then-d-gt9-clause-value
returns-then-d-gt9-clause-value c =
    let l = c.loop-b in
    let text = c.args.text.now in
    let most = c.args.most in
    sym (l.invariant.1 ∙ elim c.then-d-gt9.branch [
      | then-d-gt9-via-then-d-gt9 w ↦ from-letter most l.v l.b-index _ text (omega arith) c.digit-d.ensures (omega arith)
      | then-d-gt9-via-else-d-gt9+then-d-most w ↦ from-large most l.v l.b-index _ text (omega arith) c.digit-d.ensures (omega arith) (omega arith)
      | then-d-gt9-via-else-d-gt9+else-d-most+then-v-most w ↦ from-large most l.v l.b-index _ text (omega arith) c.digit-d.ensures (omega arith) (omega arith)
    ])

pub loop-b-preserved : goal.loop-b-preserved
loop-b-preserved c =
    let l = c.loop-b in
    (omega arith, l.invariant.1 ∙ from_next c.args.most l.v l.b-index _ c.args.text.now (omega arith) c.digit-d.ensures (omega arith) (omega arith))

pub returns-clause-value : goal.returns-clause-value
returns-clause-value c =
    let l = c.loop-b in
    sym (l.invariant.1 ∙ from_end c.args.most l.v l.b-index c.args.text.now (omega arith))
