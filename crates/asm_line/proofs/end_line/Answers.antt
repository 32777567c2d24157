use mathlib.Core.Path.{sym, ap, ◌∙◌}
use Rattle.asm_operands.specs.Operands.{over?}
use Rattle.asm_line.proofs.Laws.{end-yes, end-no}
use Rattle.asm_line.proofs.end_line.Goals as goal

pub returns-then-not-is_over : goal.returns-then-not-is_over
returns-then-not-is_over c =
    end-no c.args.line.now c.args.start c.args.name c.args.x
    (ap (over? c.args.line.now) (sym c.skip_blanks.ensures) ∙ sym c.is_over.ensures ∙ c.if-not-is_over.true)

pub returns : goal.returns
returns c =
    end-yes c.args.line.now c.args.start c.args.name c.args.x
    (ap (over? c.args.line.now) (sym c.skip_blanks.ensures) ∙ sym c.is_over.ensures ∙ c.if-not-is_over.false)
