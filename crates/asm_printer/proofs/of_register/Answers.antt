use mathlib.Core.Path.{ap, ◌∙◌}
use borrow.Author.Rules.{rules}
use Rattle.asm_print.specs.Print.{phrase}
use Rattle.asm_printer.proofs.Laws.{one-operand, of-register}
use Rattle.asm_spellings.specs.Spellings.{letters_of}
use Rattle.asm_printer.proofs.of_register.Goals as goal

pub returns : goal.returns
returns c =
    let a = c.args in
    c.statement.ensures
    ∙ ap (phrase (letters_of 6 a.q) a.wb)
    (one-operand _ _ (of-register _ a.d c.register-first.ensures.0 (search rules)).long)
