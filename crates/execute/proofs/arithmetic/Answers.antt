-- `execute::arithmetic` meets its contract. Assumes nothing.
use Rattle.execute.proofs.Laws.{tested, computed}
use Rattle.execute.proofs.arithmetic.Goals as goal

pub returns-then-op : goal.returns-then-op
returns-then-op c =
    let d = c in
    let start = d in
    tested start.args.regs.now _ _ _ _ start.args.wb _ _
    d.get-d.ensures d.operand-s.ensures c.binary.ensures
    c.alu-o.ensures c.if-op.true c.asks_nothing.ensures

pub returns : goal.returns
returns c =
    let d = c in
    let start = c in
    computed start.args.regs.now _ _ _ _ start.args.wb _ _
    d.get-d.ensures d.operand-s.ensures d.binary.ensures d.alu-o.ensures
    c.if-op.false _ _ c.put.ensures c.asks_nothing-2.ensures
