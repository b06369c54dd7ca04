-- `script::decode` meets its contract. Assumes nothing.
use Rattle.std.proofs.Common.{sym, ◌∙◌, arith}
use lib.ListN.{length-set}
use lib.Seq.{drop-set-lt}
use Rattle.script.specs.Hex.{bytes_of}
use Rattle.script.proofs.Texts.{front-next, bytes-at}
use Rattle.script.proofs.decode.Goals as goal

pub loop-i-preserved : goal.loop-i-preserved
loop-i-preserved c =
    let l = c.loop-i in
    let text = c.args.text.now in
    let b = bytes-at text l.i (omega arith) in
    (l.invariant.0, simp length-set l.invariant.1, simp length-set l.invariant.2, front-next l.out (bytes_of text) l.i c.pair.result (omega arith) b.0 (c.pair.ensures ∙ sym b.1) l.invariant.3, drop-set-lt c.min-n.result l.out l.i c.pair.result (omega arith) ∙ l.invariant.4)
