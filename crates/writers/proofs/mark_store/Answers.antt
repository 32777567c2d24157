use Rattle.writers.proofs.Laws.{store-law}
use Rattle.std.proofs.Common.{arith}
use Rattle.writers.proofs.mark_store.Goals as goal

pub returns : goal.returns
returns c v =
    let s = c.args in
    rw c.if-byte.false
    (store-law s.who s.writers.now s.mem.now s.a v c.requires.1 (omega arith) c.mark_byte-2.ensures c.mark_byte-3.ensures)
