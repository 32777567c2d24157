use Rattle.std.proofs.Common.{◌∙◌, arith}
use Rattle.text.proofs.Laws.{puts-then}
use Rattle.line_text.proofs.Texts.{line-parts, reason-fits}
use Rattle.line_text.proofs.put_line.Goals as goal

pub overflow_add-m : goal.overflow_add-m
overflow_add-m c = reason-fits c.args.m.rest.halted

pub returns : goal.returns
returns c =
    let a = c.args in
    let steps = puts-then c.put-first.ensures.0 c.put_number-second.ensures.0 in
    let machine = puts-then steps c.put_machine-last.ensures.0 in
    let p = puts-then (puts-then machine c.put_number-end.ensures.0) c.put.ensures.0 in
    record { line = λ mem. p.put ∙ line-parts a.m a.steps a.deepest mem; kept = p.kept; fits = omega arith }
