use native.Mathlib.Omega.{arith}
use Rattle.text_lines.proofs.Laws.{crlf-none, crlf-last, crlf-two}
use Rattle.text_lines.proofs.crlf_at.Goals as goal

pub returns-then-text-at-ne13 : goal.returns-then-text-at-ne13
returns-then-text-at-ne13 c = crlf-none c.args.text.now c.args.at (omega arith) c.if-text-at-ne13.true

pub returns-then-text-after : goal.returns-then-text-after
returns-then-text-after c =
    crlf-last c.args.text.now c.args.at (omega arith) c.if-text-after.true c.if-text-at-ne13.false

pub returns : goal.returns
returns c =
    crlf-two c.args.text.now c.args.at (omega arith) c.if-text-at-ne13.false
