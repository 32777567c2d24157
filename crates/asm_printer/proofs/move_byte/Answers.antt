use Prim.Native.Nat.{◌%◌}
use mathlib.Core.Path.{ap, ◌∙◌}
use native.Mathlib.Omega.{arith}
use Rattle.asm_print.specs.Print.{phrase, text_for}
use Rattle.asm_printer.proofs.Laws.{two_operands, of-register, with-mnemonic}
use Rattle.asm_spellings.specs.Spellings.{letters_of}
use Rattle.asm_printer.proofs.move_byte.Goals as goal

pub returns : goal.returns
unfolding text_for
returns c =
    λ p.
    let name = c in
    let w = name.args.w in
    let d = of-register _ (w % 8) c.register-second.ensures.0 (omega arith) in
    with-mnemonic _ _ _ _ _ name.move_name-q.ensures
    (c.statement.ensures ∙ ap (phrase (letters_of 6 name.move_name-q.result) 0)
    (two_operands _ _ _ _ c.hex_byte-first.ensures d))
