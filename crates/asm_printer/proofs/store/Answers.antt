use Prim.Native.Nat.{◌/◌, ◌%◌}
use mathlib.Core.Path.{sym, ap, ◌∙◌}
use native.Mathlib.Omega.{arith}
use Rattle.asm_text.specs.Text.{ascii}
use Rattle.asm_print.specs.Print.{phrase, text_for}
use Rattle.asm_printer.proofs.Laws.{two_operands, of-register, of-address}
use Rattle.asm_spellings.specs.Spellings.{letters_of}
use Rattle.asm_printer.proofs.store.Goals as goal

pub returns-then-idle : goal.returns-then-idle
unfolding text_for letters_of
returns-then-idle c =
    λ p. rw (sym c.idle.ensures ∙ c.if-idle.true) c.word.ensures

pub returns : goal.returns
unfolding text_for letters_of
returns c p =
    let at-start = c in
    let w = at-start.args.w in
    let a = of-address _ (w / 512 % 2) (w / 256 % 2) (w / 128 % 2) (w % 8) c.address-second.ensures
    (omega arith) (omega arith) (omega arith) (omega arith) in
    let s = of-register _ (w / 8 % 8) c.register-first.ensures.0 (omega arith) in
    rw (sym c.idle.ensures ∙ c.if-idle.false)
    (c.statement.ensures ∙ ap (phrase (ascii "ST") (w / 64 % 2)) (two_operands _ _ _ _ s.long a))
