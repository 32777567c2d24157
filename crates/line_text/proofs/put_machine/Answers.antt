use Rattle.std.proofs.Common.{arith}
use Rattle.text.proofs.Laws.{puts-then, puts-same}
use Rattle.line_text.proofs.Texts.{machine-parts}
use Rattle.line_text.proofs.put_machine.Goals as goal

pub returns : goal.returns
returns c =
    let words = puts-then c.put_words-r4.ensures.0 c.put_words-psw.ensures.0 in
    let cex = puts-then words c.put_field-cex.ensures.0 in
    let lines = puts-then cex c.put_field-lines.ensures.0 in (
      puts-same (puts-then lines c.put_field.ensures.0) (machine-parts c.args.m),
      omega (
        arith,
        c.put_words-r4.ensures.1,
        c.put_words-psw.ensures.1,
        c.put_field-cex.ensures.1,
        c.put_field-lines.ensures.1,
        c.put_field.ensures.1,
      ),
    )
