-- `engine::sulgheti_make` meets its contract. Assumes nothing.
use mathlib.Core.Path.{◌∙◌}
use Rattle.signed.proofs.Signed.{read_back}
use Rattle.engine.proofs.Answers.{length-fits}
use Rattle.engine.proofs.sulgheti_make.Goals as goal

pub wrote_code-requires : goal.wrote_code-requires
wrote_code-requires c = length-fits _ _ _ _ _ c.well_formed.1.0.1 c.make.ensures

pub returns : goal.returns
returns c = record { wrote = _; made = c.make.ensures; code = read_back c.wrote_code.type_inv ∙ c.wrote_code.ensures }
