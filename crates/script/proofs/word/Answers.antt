-- `script::word` meets its contract. Assumes nothing.
use Rattle.std.proofs.Common.{ap, ◌∙◌, take}
use Rattle.script.proofs.Words.{letters_at}
use Rattle.script.specs.Words.{letters_of}
use Rattle.script.proofs.word.Goals as goal

pub returns : goal.returns
returns c =
    let t = c.trimmed-t.result.now in
    ap (λ n. take n t) c.letters-n.ensures.value ∙ letters_at t ∙ ap letters_of c.trimmed-t.ensures
