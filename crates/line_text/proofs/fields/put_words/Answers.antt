use Rattle.std.proofs.Common.{arith}
use Rattle.text.proofs.Laws.{puts-then}
use Rattle.line_text.proofs.fields.put_words.Goals as goal

pub returns : goal.returns
returns c =
    let third = puts-then c.put_field-second.ensures.0 c.put_field-third.ensures.0 in
    (puts-then (puts-then third c.put_field-fourth.ensures.0) c.put_field.ensures.0, omega arith)
