use Prim.Native.Nat.{◌/◌, ◌%◌}
use mathlib.Core.Path.{ap, ◌∙◌}
use borrow.Author.Rules.{rules}
use borrow.Author.Tests.{eq-eqb, ne_eqb}
use Rattle.asm_print.specs.Print.{phrase, text_for}
use Rattle.asm_printer.proofs.Laws.{two_operands, of-register, with-mnemonic}
use Rattle.asm_spellings.specs.Spellings.{letters_of}
use Rattle.asm_printer.proofs.alu.Goals as goal

pub returns-then-w-eq0 : goal.returns-then-w-eq0
unfolding text_for
returns-then-w-eq0 c =
    λ p. rw (eq-eqb _ 0 c.if-w-eq0.true)
    (with-mnemonic _ _ _ _ _ c.operation_name-q.ensures c.of_registers.ensures)

pub returns : goal.returns
unfolding text_for
returns c =
    λ p.
    let name = c in
    let w = name.args.w in
    let d = of-register _ (w % 8) c.register-second.ensures.0 (search rules) in
    rw (ne_eqb _ 0 c.if-w-eq0.false)
    (with-mnemonic _ _ _ _ _ name.operation_name-q.ensures
    (c.statement.ensures ∙ ap (phrase (letters_of 6 name.operation_name-q.result) (w / 64 % 2))
    (two_operands _ _ _ _ c.constant-first.ensures d)))
