-- `memory::load` meets its contract. Assumes nothing.
use Rattle.memory.proofs.Laws.{load_value, load_word}
use Rattle.memory.proofs.load.Goals as goal

pub returns-then-byte : goal.returns-then-byte
returns-then-byte c =
    let at-if1 = c in
    rw at-if1.if-byte.true
    (record { value = c.read_byte-v.ensures; memory = c.touch.ensures })

pub returns : goal.returns
returns c =
    let at-read-word = c in
    let at-word-of = c in
    let at-if1 = c in
    let at-start = c in
    let m = at-start.args.mem.now in
    let w = at-word-of.word_of-w.ensures.0 in
    let v = at-read-word.read_word-v.ensures in
    rw at-if1.if-byte.false
    (record { value = load_value m _ _ w v; memory = load_word m _ _ _ _ w c.byte_of.ensures c.touch-2.ensures })
