-- `script::is_none` meets its contract: by the length, and by the byte where there is one. Assumes nothing.
use Rattle.std.proofs.Common.{sym, ◌∙◌, arith, eq-eqb}
use borrow.Author.Tests.{ne_eqb}
use Rattle.script.proofs.Texts.{none_other, none-one}
use Rattle.script.proofs.is_none.Goals as goal

pub returns-in-45 : goal.returns-in-45
returns-in-45 c = sym (none-one c.args.text.now (omega arith) ∙ eq-eqb _ _ (omega arith))

pub returns-in_default : goal.returns-in_default
returns-in_default c = sym (none_other c.args.text.now (λ h. absurd (omega arith)))

pub returns-in_default-2 : goal.returns-in_default-2
returns-in_default-2 c = sym (none-one c.args.text.now (omega arith) ∙ ne_eqb _ _ (λ h. absurd (omega arith)))

pub returns-in_default-3 : goal.returns-in_default-3
returns-in_default-3 c = sym (none_other c.args.text.now (λ h. absurd (omega arith)))
