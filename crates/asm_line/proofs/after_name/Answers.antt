use mathlib.Core.Bool.{true}
use mathlib.Core.Path.{sym, ap, ◌∙◌}
use Rattle.std.specs.Prelude.{Some}
use lib.ListN.{drop}
use Rattle.asm_text.specs.Text.{values_in}
use Rattle.asm_line.specs.Line.{ended}
use Rattle.asm_line.proofs.Laws.{statement-there, name-alone, name-statement}
use Rattle.asm_line.proofs.after_name.Goals as goal

pub returns-then-is_over : goal.returns-then-is_over
returns-then-is_over c =
    name-alone (values_in c.args.names.now) c.args.line.now c.args.start c.args.at (sym c.is_over.ensures ∙ c.if-is_over.true)

pub returns-in_err-x : goal.returns-in_err-x
returns-in_err-x c =
    let a = c.args in
    let s = a.line.now in
    let f = values_in a.names.now in
    let e = c.find_word-w.ensures (drop a.at s) c.read_word-t.ensures.spelled_value in
    let x = statement-there f s true a.at c.find_word-w.result c.read_word-t.result.next _ e
    c.read_word-t.ensures.next_value c.in_err-x.ensures in
    c.from_residual.ensures ∙ ap (ended s a.start (Some a.start)) x
    ∙ name-statement f s a.start a.at (sym c.is_over.ensures ∙ c.if-is_over.false)

pub returns : goal.returns
returns c =
    let a = c.args in
    let s = a.line.now in
    let f = values_in a.names.now in
    let e = c.find_word-w.ensures (drop a.at s) c.read_word-t.ensures.spelled_value in
    let x = statement-there f s true a.at c.find_word-w.result c.read_word-t.result.next _ e
    c.read_word-t.ensures.next_value c.in_ok-x.ensures in
    c.end_line.ensures ∙ ap (ended s a.start (Some a.start)) x
    ∙ name-statement f s a.start a.at (sym c.is_over.ensures ∙ c.if-is_over.false)
