use Prim.Native.Nat.{ℕ}
use mathlib.Core.Path.{ap, ◌∙◌}
use borrow.Author.Tests.{eq-eqb, ne_eqb}
use Rattle.asm_print.specs.Print.{hex_text, phrase, branch_text}
use Rattle.asm_printer.proofs.Laws.{one-operand}
use Rattle.asm_spellings.specs.Spellings.{letters_of}
use Rattle.asm_printer.proofs.branch.Goals as goal

pub returns-then-place-eq0 : goal.returns-then-place-eq0
unfolding branch_text
returns-then-place-eq0 c =
    let a = c.args in
    rw (eq-eqb _ 0 c.if-place-eq0.true)
    (c.statement.ensures ∙ ap (phrase (letters_of 6 a.q) 0) (one-operand _ _ c.hex_word-first.ensures)
    ∙ ap (λ (t : ℕ). phrase (letters_of 6 a.q) 0 (hex_text 4 t)) c.target.ensures)

pub returns : goal.returns
unfolding branch_text
returns c = rw (ne_eqb _ 0 c.if-place-eq0.false) c.word.ensures
