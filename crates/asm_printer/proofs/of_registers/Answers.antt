use mathlib.Core.Path.{ap, ◌∙◌}
use borrow.Author.Rules.{rules}
use Rattle.asm_print.specs.Print.{phrase}
use Rattle.asm_printer.proofs.Laws.{two_operands, of-register}
use Rattle.asm_spellings.specs.Spellings.{letters_of}
use Rattle.asm_printer.proofs.of_registers.Goals as goal

pub returns : goal.returns
returns c =
    let a = c.args in
    let s = of-register _ a.s c.register-first.ensures.0 (search rules) in
    let d = of-register _ a.d c.register-second.ensures.0 (search rules) in
    c.statement.ensures ∙ ap (phrase (letters_of 6 a.q) a.wb) (two_operands _ _ _ _ s.long d)
