-- `memory::store` meets its contract. Assumes nothing.
use Rattle.memory.proofs.Laws.{store-even}
use Rattle.memory.proofs.store.Goals as goal

pub returns-then-byte : goal.returns-then-byte
returns-then-byte c = rw c.if-byte.true c.store_byte.ensures

pub returns : goal.returns
returns c =
    let at-if1 = c in
    let s = c in
    let w = c.word_of.ensures.0 in
    rw at-if1.if-byte.false
    (store-even s.args.mem.now _ s.args.v s.args.a.0 w c.store_word.ensures)
