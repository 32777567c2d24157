use Rattle.memory.proofs.Laws.{load_value}
use Rattle.trace_record.proofs.value_at.Goals as goal

pub returns-then-byte : goal.returns-then-byte
returns-then-byte c = rw c.if-byte.true c.read_byte.ensures

pub returns : goal.returns
returns c = rw c.if-byte.false (load_value c.args.mem.now _
    c.args.a.0 c.word_of.ensures.0 c.read_word.ensures)
