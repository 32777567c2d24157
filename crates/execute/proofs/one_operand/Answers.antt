-- `execute::one_operand` meets its contract. Assumes nothing.
use Rattle.execute.proofs.Laws.{single}
use Rattle.execute.proofs.one_operand.Goals as goal

pub returns : goal.returns
returns c =
    let d = c in
    let start = d in
    single start.args.regs.now _ start.args.psw _ _ _ _ start.args.byte
    d.get.ensures c.alu-o.ensures c.put.ensures c.asks_nothing.ensures
