-- `memory::store_byte` meets its contract. Assumes nothing.
use Rattle.memory.proofs.Laws.{store-plain}
use mathlib.Core.Path.{◌∙◌}
use Rattle.memory.proofs.store_byte.Goals as goal

pub returns : goal.returns
returns c =
    let s = c in
    c.write_byte.ensures
    ∙ store-plain s.args.mem.now s.args.a.0 s.args.v c.if-a-lt16.false
