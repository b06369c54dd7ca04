-- `engine::sulgheti_upgrade_list` meets its contract. Assumes nothing.
use mathlib.Core.Path.{◌∙◌}
use Rattle.converter.specs.Convert.{upgrade}
use Rattle.signed.proofs.Signed.{read_back}
use Rattle.engine.proofs.Answers.{list-fits, list_code}
use Rattle.engine.proofs.sulgheti_upgrade_list.Goals as goal

pub wrote_code-requires : goal.wrote_code-requires
wrote_code-requires c = list-fits upgrade c.args.list.now c.args.out.now _ c.well_formed.1.0.1 c.upgrade_list.ensures

pub returns : goal.returns
returns c = list_code c.upgrade_list.ensures (read_back c.wrote_code.type_inv ∙ c.wrote_code.ensures)
