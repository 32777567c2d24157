-- `execute::store_indexed` meets its contract. Assumes nothing.
use Rattle.operands.proofs.Indexed.{storing}
use Rattle.execute.proofs.store_indexed.Goals as goal

pub returns : goal.returns
returns c =
    let d = c in
    let start = d in
    storing start.args.regs.now _ _ _ _ start.args.prpo start.args.dec start.args.inc start.args.wb _
    d.get-a.ensures c.adjusted_by-b.ensures c.address-at.ensures
    c.adjust_index-x.ensures _ d.get-value.ensures
