-- `memory::touch` meets its contract. Assumes nothing.
use Rattle.memory.proofs.Laws.{touch-status, touch-data, touch_plain}
use Rattle.memory.proofs.touch.Goals as goal

pub returns-then-i-eq0 : goal.returns-then-i-eq0
returns-then-i-eq0 c =
    let s = c in
    let i = c.if-i-lt16.true in
    touch-status s.args.mem.now s.args.a.0 _ i c.if-i-eq0.true c.cleared_status.ensures

pub returns-else-i-eq0 : goal.returns-else-i-eq0
returns-else-i-eq0 c = touch-data c.args.mem.now c.args.a.0 c.if-i-eq0.false

pub returns-else-i-lt16 : goal.returns-else-i-lt16
returns-else-i-lt16 c = touch_plain c.args.mem.now c.args.a.0 c.if-i-lt16.false
