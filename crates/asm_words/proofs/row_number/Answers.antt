use mathlib.Core.Path.{sym, ◌∙◌}
use native.Mathlib.Omega.{arith}
use Rattle.asm_words.proofs.Laws.{number-hit, number-miss, number-end}
use Rattle.asm_words.proofs.row_number.Goals as goal

pub returns-then-row-p : goal.returns-then-row-p
returns-then-row-p c = sym (number-hit c.args.rows.now c.args.p c.loop-row.row-index (omega arith) c.if-row-p.true) ∙ c.loop-row.invariant

pub loop-row-preserved : goal.loop-row-preserved
loop-row-preserved c = number-miss c.args.rows.now c.args.p c.loop-row.row-index (omega arith) c.if-row-p.false ∙ c.loop-row.invariant

pub returns : goal.returns
returns c = sym (number-end c.args.rows.now c.args.p c.loop-row.row-index (omega arith)) ∙ c.loop-row.invariant
