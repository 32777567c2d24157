use mathlib.Core.Path.{ap, ◌∙◌}
use Rattle.asm_print.specs.Print.{phrase}
use Rattle.asm_printer.proofs.Laws.{one-operand}
use Rattle.asm_spellings.specs.Spellings.{letters_of}
use Rattle.asm_printer.proofs.of_number.Goals as goal

pub returns : goal.returns
returns c =
    c.statement.ensures ∙ ap (phrase (letters_of 6 c.args.q) 0) (one-operand _ _ c.count-first.ensures.long)
