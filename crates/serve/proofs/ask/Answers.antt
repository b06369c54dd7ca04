-- `serve::ask` meets its contract. Assumes nothing.
use mathlib.Core.Path.{refl}
use Rattle.serve.proofs.ServeRules.{stands, asked}
use Rattle.serve.proofs.ask.Goals as goal

pub returns : goal.returns
returns c = λ input.
    let a = c.args in
    let known = c.summary-known.ensures in
    asked a.store a.sites a.places a.e input a.buffer.now _ a.request c.answer-answer.result _ c.requires.1
    (λ table p h. c.answer-answer.ensures _ input refl (stands a.store a.sites a.places _ known.0 known.1 known.2 a.e table p h)) refl
