use mathlib.Core.Path.{ap, ◌∙◌}
use Rattle.asm_text.specs.Text.{ascii}
use Rattle.asm_print.specs.Print.{phrase}
use Rattle.asm_printer.proofs.Laws.{three-operands}
use Rattle.asm_spellings.specs.Spellings.{letters_of}
use Rattle.asm_printer.proofs.conditional.Goals as goal

pub returns : goal.returns
unfolding letters_of
returns c =
    let at_count = c in
    c.statement.ensures
    ∙ ap (phrase (ascii "CEX") 0)
    (three-operands _ _ _ _ _ _ at_count.condition-first.ensures at_count.count-second.ensures c.count-third.ensures)
