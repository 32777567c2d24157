use Rattle.writers.proofs.Laws.{push-law}
use Rattle.std.proofs.Common.{arith}
use Rattle.writers.proofs.mark_pushes.Goals as goal

pub returns : goal.returns
returns c k q =
    let s = c.args in
    push-law k s.stack s.who s.writers.now q (omega arith) (omega arith) (omega arith) (omega arith)
    c.mark_word.ensures c.mark_word-2.ensures c.mark_word-3.ensures c.mark_word-4.ensures
