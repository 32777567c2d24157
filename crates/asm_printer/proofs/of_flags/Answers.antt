use mathlib.Core.Path.{ap, ◌∙◌}
use borrow.Author.Tests.{ne_eqb}
use Rattle.asm_print.specs.Print.{phrase}
use Rattle.asm_printer.proofs.Laws.{one-operand}
use Rattle.asm_spellings.specs.Spellings.{letters_of}
use Rattle.asm_printer.proofs.of_flags.Goals as goal

pub returns : goal.returns
returns c =
    rw (ne_eqb _ 0 c.if-f-eq0.false)
    (c.statement.ensures ∙ ap (phrase (letters_of 6 c.args.q) 0) (one-operand _ _ c.flags-first.ensures))
