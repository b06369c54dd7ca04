-- `writers_numbers::number_at` meets its contract. Assumes nothing.
use Rattle.records.proofs.Buffers.{number-part}
use Rattle.writers_numbers.proofs.number_at.Goals as goal
use Rattle.writers_numbers.proofs.number_at.Goals.{After-put, After-put_eight, After-put_four, After-put_six, After-put_two, Else-w-eq4, Else-w-eq6, Start}

pub returns-then-w-eq4 : goal.returns-then-w-eq4
returns-then-w-eq4 c =
    let called = (goal.at.returns-then-w-eq4 c).After-put_four in
    rw called.if-w-eq4.true called.put_four.ensures

pub returns-then-w-eq2 : goal.returns-then-w-eq2
returns-then-w-eq2 c =
    let called = (goal.at.returns-then-w-eq2 c).After-put_two in
    rw called.if-w-eq2.true called.put_two.ensures

pub returns-then-w-eq8 : goal.returns-then-w-eq8
returns-then-w-eq8 c =
    let called = (goal.at.returns-then-w-eq8 c).After-put_eight in
    rw called.if-w-eq8.true called.put_eight.ensures

pub returns-then-w-eq6 : goal.returns-then-w-eq6
returns-then-w-eq6 c =
    let called = (goal.at.returns-then-w-eq6 c).After-put_six in
    rw called.if-w-eq6.true called.put_six.ensures

pub returns : goal.returns
returns c =
    let called = (goal.at.returns c).After-put in
    let s = (goal.at.After-put called).Start in
    rw called.put.ensures (number-part s.args.at s.args.w s.args.x s.args.out.now s.requires)
