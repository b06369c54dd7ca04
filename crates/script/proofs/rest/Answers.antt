-- `script::rest` meets its contract. Assumes nothing.
use Rattle.std.proofs.Common.{ap, ◌∙◌, drop}
use Rattle.script.proofs.Words.{to_end, behind_at}
use Rattle.script.specs.Words.{behind_of}
use Rattle.script.proofs.rest.Goals as goal

pub returns : goal.returns
returns c =
    let t = c.trimmed-t.result.now in
    to_end c.letters-n.result t ∙ ap (λ n. drop n t) c.letters-n.ensures.value ∙ behind_at t ∙ ap behind_of c.trimmed-t.ensures
