use Rattle.std.proofs.Common.{arith}
use Rattle.text.proofs.Laws.{puts-then}
use Rattle.line_text.proofs.fields.put_number.Goals as goal

pub returns : goal.returns
returns c = (puts-then c.put-next.ensures.0 c.put_decimal.ensures.0, omega arith, omega arith)
