use Prim.Native.Nat.{◌/◌, ◌%◌}
use mathlib.Core.Path.{ap, ◌∙◌}
use native.Mathlib.Omega.{arith}
use borrow.Author.Tests.{lt-ltb, le-ltb}
use Rattle.asm_text.specs.Text.{ascii}
use Rattle.asm_print.specs.Print.{phrase, text_for}
use Rattle.asm_printer.proofs.Laws.{three-operands, of-register}
use Rattle.asm_spellings.specs.Spellings.{letters_of}
use Rattle.asm_printer.proofs.relative.Goals as goal

pub returns-then-w-lt49152 : goal.returns-then-w-lt49152
unfolding text_for letters_of
returns-then-w-lt49152 c p =
    let at-start = c in
    let w = at-start.args.w in
    let s = of-register _ (w / 8 % 8) c.register-first.ensures.0 (omega arith) in
    let d = of-register _ (w % 8) c.register-other.ensures.0 (omega arith) in
    rw (lt-ltb w 0xC000 (omega arith))
    (c.statement.ensures
    ∙ ap (phrase (ascii "LDR") (w / 64 % 2)) (three-operands _ _ _ _ _ _ s.long c.offset-way.ensures d))

pub returns : goal.returns
unfolding text_for letters_of
returns c p =
    let at-start = c in
    let w = at-start.args.w in
    let s = of-register _ (w / 8 % 8) c.register-first.ensures.0 (omega arith) in
    let d = of-register _ (w % 8) c.register-other.ensures.0 (omega arith) in
    rw (le-ltb w 0xC000 (omega arith))
    (c.statement-2.ensures
    ∙ ap (phrase (ascii "STR") (w / 64 % 2)) (three-operands _ _ _ _ _ _ s.long d c.offset-way.ensures))
