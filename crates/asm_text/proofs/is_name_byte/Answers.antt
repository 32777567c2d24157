use Rattle.asm_text.specs.Text.{name_byte?}
use mathlib.Core.Path.{refl}
use Rattle.asm_text.proofs.is_name_byte.Goals as goal

pub returns : goal.returns
unfolding name_byte?
returns c = refl
