use Rattle.asm_text.specs.Text.{letter?}
use mathlib.Core.Path.{refl}
use Rattle.asm_text.proofs.is_letter.Goals as goal

pub returns : goal.returns
unfolding letter?
returns c = refl
