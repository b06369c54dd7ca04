use mir.Syntax.{w64}
use mir.Facts.{to_z_pos}
use Rattle.signed.proofs.length.Goals as goal

-- src/lib.rt:12:1
pub returns : goal.returns
returns c = to_z_pos w64 c.requires
