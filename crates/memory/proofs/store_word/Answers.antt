-- `memory::store_word` meets its contract. Assumes nothing.
use Rattle.std.proofs.Common.{◌≡◌, rules, get_or}
use Rattle.machine.specs.Memory.{low_byte, high_byte}
use Rattle.memory.proofs.Laws.{store-above, store_two}
use Rattle.memory.proofs.store_word.Goals as goal

pub returns-then-w-ge8 : goal.returns-then-w-ge8
returns-then-w-ge8 c = store-above c.args.mem.now c.args.w.0 c.args.v c.if-w-ge8.true c.write_word.ensures

pub returns : goal.returns
returns c =
    let low : get_or c.to_le_bytes.result 0 0 ≡ low_byte c.args.v = search rules in
    let high : get_or c.to_le_bytes.result 1 0 ≡ high_byte c.args.v = search rules in
    store_two c.args.mem.now c.args.w.0 c.args.v c.byte_of-a.ensures
    (rw low at c.store_byte.ensures) (rw high at c.store_byte-2.ensures)
