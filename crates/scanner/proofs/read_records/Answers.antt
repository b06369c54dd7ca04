-- `scanner::read_records` meets its contract. Assumes nothing.
use Rattle.std.proofs.Common.{◌≡◌, arith, refl}
use Rattle.scanner.specs.Scan.{record_at}
use Rattle.scanner.proofs.Turns as turn
use Rattle.scanner.proofs.read_records.Goals as goal

pub loop-place-init : goal.loop-place-init
loop-place-init c =
    record {
      source = refl;
      place = turn.begins c.args.r.src.now c.args.r.at c.args.w c.args.mark c.args.wrong c.args.out.now;
      ended = turn.begun c.args.r.src.now c.args.r.at c.args.w c.args.mark c.args.wrong c.args.out.now;
      places = refl;
    }

pub loop-place-preserved : goal.loop-place-preserved
loop-place-preserved c =
    -- the record that the call has read is the one behind those before it
    let told : c.next-x.result ≡ record_at c.args.r.src.now (turn.at c.args.r.src.now c.args.r.at c.args.w c.args.mark c.args.wrong c.args.out.now c.loop-place.place-index) c.args.w c.args.mark (turn.wrong c.args.r.src.now c.args.r.at c.args.w c.args.mark c.args.wrong c.args.out.now c.loop-place.place-index) =
    rw (c.loop-place.invariant.source, c.loop-place.invariant.place, c.loop-place.invariant.ended) at c.next-x.ensures in
    record {
      source = c.loop-place.invariant.source;
      place = turn.moves c.args.r.src.now c.args.r.at c.args.w c.args.mark c.args.wrong c.args.out.now c.requires.1 c.loop-place.place-index c.loop-place-test.true c.next-x.result told;
      ended = turn.answers c.args.r.src.now c.args.r.at c.args.w c.args.mark c.args.wrong c.args.out.now c.requires.1 c.loop-place.place-index c.loop-place-test.true c.next-x.result told;
      places = rw c.loop-place.invariant.places (turn.fills c.args.r.src.now c.args.r.at c.args.w c.args.mark c.args.wrong c.args.out.now c.requires.1 c.loop-place.place-index c.loop-place-test.true c.next-x.result told);
    }

pub returns : goal.returns
returns c = rw (c.loop-place.invariant.ended, c.loop-place.invariant.places) (turn.ends c.args.r.src.now c.args.r.at c.args.w c.args.mark c.args.wrong c.args.out.now c.loop-place.place-index (omega arith))
