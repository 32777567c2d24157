use Rattle.asm_text.specs.Text.{blank?}
use mathlib.Core.Path.{refl}
use Rattle.asm_text.proofs.is_blank.Goals as goal

pub returns : goal.returns
unfolding blank?
returns c = refl
