-- Each way out of the code is a case of `line_from`: the places on the way tell which, and the laws of a line (Laws) say what
-- the definition gives there.
use mathlib.Core.Bool.{true, false}
use mathlib.Core.Path.{◌≡◌, sym, ap, ◌∙◌}
use Rattle.std.specs.Prelude.{None}
use lib.ListN.{drop}
use Rattle.asm_text.specs.Text.{byte_at, blank?, letter?, after, values_in}
use Rattle.asm_words.specs.Words.{free?}
use Rattle.asm_operands.specs.Operands.{over?}
use Rattle.asm_line.specs.Line.{ended, after_name, line_from, line_of}
use Rattle.asm_line.proofs.Laws.{statement-there, line-empty, line_word, line-name, line-none}
use Rattle.asm_line.proofs.read_line.Goals as goal

pub returns-then-is_over : goal.returns-then-is_over
unfolding line_of
returns-then-is_over c =
    let s = c.args.line.now in
    let f = values_in c.args.names.now in
    let q = c.skip_blanks-start.result in
    let z = ap (line_from f s) c.skip_blanks-start.ensures in
    line-empty f s q (sym c.is_over.ensures ∙ c.if-is_over.true) ∙ z

pub returns-in_err-x : goal.returns-in_err-x
unfolding line_of
returns-in_err-x c =
    let s = c.args.line.now in
    let f = values_in c.args.names.now in
    let q = c.skip_blanks-start.result in
    let z = ap (line_from f s) c.skip_blanks-start.ensures in
    let h : over? s q ≡ false = sym c.is_over.ensures ∙ c.if-is_over.false in
    let w = c.find_word-w.ensures (drop q s) c.read_word-t.ensures.spelled_value in
    let x = statement-there f s false q c.find_word-w.result c.read_word-t.result.next _ w c.read_word-t.ensures.next_value
    c.in_err-x.ensures in
    c.from_residual.ensures ∙ ap (ended s q None) x
    ∙ line_word f s q h c.is_free.result (c.is_free.ensures ∙ ap free? w) c.if-not-is_free.true ∙ z

pub returns-then-not-is_free : goal.returns-then-not-is_free
unfolding line_of
returns-then-not-is_free c =
    let s = c.args.line.now in
    let f = values_in c.args.names.now in
    let q = c.skip_blanks-start.result in
    let z = ap (line_from f s) c.skip_blanks-start.ensures in
    let h : over? s q ≡ false = sym c.is_over.ensures ∙ c.if-is_over.false in
    let w = c.find_word-w.ensures (drop q s) c.read_word-t.ensures.spelled_value in
    let x = statement-there f s false q c.find_word-w.result c.read_word-t.result.next _ w c.read_word-t.ensures.next_value
    c.in_ok-x.ensures in
    c.end_line.ensures ∙ ap (ended s q None) x
    ∙ line_word f s q h c.is_free.result (c.is_free.ensures ∙ ap free? w) c.if-not-is_free.true ∙ z

pub returns-then-is_letter : goal.returns-then-is_letter
unfolding line_of
returns-then-is_letter c =
    let s = c.args.line.now in
    let f = values_in c.args.names.now in
    let q = c.skip_blanks-start.result in
    let z = ap (line_from f s) c.skip_blanks-start.ensures in
    let h : over? s q ≡ false = sym c.is_over.ensures ∙ c.if-is_over.false in
    let w = c.find_word-w.ensures (drop q s) c.read_word-t.ensures.spelled_value in
    let l : letter? (byte_at s q) ≡ true = sym (rw c.byte_at.ensures at c.is_letter.ensures) ∙ c.if-is_letter.true in
    c.after_name.ensures
    ∙ ap (after_name f s q) (c.skip_blanks.ensures ∙ ap (after blank? s) c.read_word-t.ensures.next_value)
    ∙ line-name f s q h c.is_free.result (c.is_free.ensures ∙ ap free? w) c.if-not-is_free.false l ∙ z

pub returns : goal.returns
unfolding line_of
returns c =
    let s = c.args.line.now in
    let f = values_in c.args.names.now in
    let q = c.skip_blanks-start.result in
    let z = ap (line_from f s) c.skip_blanks-start.ensures in
    let h : over? s q ≡ false = sym c.is_over.ensures ∙ c.if-is_over.false in
    let w = c.find_word-w.ensures (drop q s) c.read_word-t.ensures.spelled_value in
    let l : letter? (byte_at s q) ≡ false = sym (rw c.byte_at.ensures at c.is_letter.ensures) ∙ c.if-is_letter.false in
    line-none f s q h c.is_free.result (c.is_free.ensures ∙ ap free? w) c.if-not-is_free.false l ∙ z
