use mathlib.Core.Path.{refl}
use Rattle.asm_print.specs.Print.{phrase}
use Rattle.asm_printer.specs.Parts.{parts_text}
use Rattle.asm_printer.proofs.statement.Goals as goal

pub returns : goal.returns
unfolding parts_text phrase
returns c = refl
