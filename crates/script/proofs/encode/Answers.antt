-- `script::encode` meets its contract. Assumes nothing.
use Rattle.std.proofs.Common.{◌≡◌, ◌<◌, ◌∙◌, ◌+◌, ◌*◌, ◌/◌, ◌%◌, ap, arith, length, set, take, get_or}
use lib.ListN.{length-set}
use lib.Seq.{drop-set-lt, length-take-le}
use Rattle.std.proofs.lemmas.List.{get_or-take}
use Rattle.script.specs.Hex.{glyph_of}
use Rattle.script.proofs.Texts.{digits-next}
use Rattle.script.proofs.encode.Goals as goal

pub loop-i-preserved : goal.loop-i-preserved
loop-i-preserved c =
    let l = c.loop-i in
    let n = c.min-n.result in
    let bytes = c.args.bytes.now in
    let short : length (take n bytes) ≡ n = length-take-le n bytes (omega arith) in
    let lt : l.i < n = omega arith in
    let here : get_or (take n bytes) l.i 0 ≡ get_or bytes l.i 0 = get_or-take n bytes l.i 0 lt in
    (simp length-set l.invariant.0, simp length-set l.invariant.1, digits-next l.out bytes l.i c.glyph.result c.glyph-in-loop-i.result (omega arith) (omega arith) (c.glyph.ensures ∙ ap (λ b. glyph_of (b / 16)) here) (c.glyph-in-loop-i.ensures ∙ ap (λ b. glyph_of (b % 16)) here) l.invariant.2, drop-set-lt (2 * n) (set l.out (2 * l.i) c.glyph.result) (2 * l.i + 1) c.glyph-in-loop-i.result (omega arith) ∙ drop-set-lt (2 * n) l.out (2 * l.i) c.glyph.result (omega arith) ∙ l.invariant.3)
