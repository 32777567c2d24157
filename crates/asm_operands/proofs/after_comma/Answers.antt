use mathlib.Core.Path.{sym, ◌∙◌}
use native.Mathlib.Omega.{arith}
use Rattle.asm_expr.proofs.Laws.{byte-is-in}
use Rattle.asm_operands.proofs.Laws.{at-comma, no-comma}
use Rattle.asm_operands.proofs.after_comma.Goals as goal

pub overflow_add-result : goal.overflow_add-result
overflow_add-result c =
    let h = byte-is-in c.args.line.now c.skip_blanks-q.result 43 (sym c.byte_at.ensures ∙ c.if-byte_at-eq44.true) in omega arith

pub returns-then-byte_at-eq44 : goal.returns-then-byte_at-eq44
returns-then-byte_at-eq44 c =
    at-comma c.args.line.now c.args.at c.skip_blanks-q.result c.byte_at.result c.skip_blanks-q.ensures c.byte_at.ensures
    c.if-byte_at-eq44.true

pub returns : goal.returns
returns c =
    no-comma c.args.line.now c.args.at c.skip_blanks-q.result c.byte_at.result c.skip_blanks-q.ensures c.byte_at.ensures
    c.if-byte_at-eq44.false
