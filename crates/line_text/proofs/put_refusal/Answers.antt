use Rattle.std.proofs.Common.{arith}
use Rattle.text.proofs.Laws.{puts-then}
use Rattle.line_text.proofs.put_refusal.Goals as goal

pub returns : goal.returns
returns c =
    let p = puts-then (puts-then c.put-digits.ensures.0 c.put_decimal-end.ensures.0) c.put.ensures.0 in
    record { line = p.put; kept = p.kept; fits = omega arith }
