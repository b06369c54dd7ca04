-- `script::trimmed` meets its contract. Assumes nothing.
use Rattle.std.proofs.Common.{ap, ◌∙◌, drop}
use Rattle.script.proofs.Words.{to_end, trimmed_at}
use Rattle.script.proofs.trimmed.Goals as goal

pub returns : goal.returns
returns c =
    let s = c.args.s.now in
    to_end c.spaces-n.result s ∙ ap (λ n. drop n s) c.spaces-n.ensures.value ∙ trimmed_at s
