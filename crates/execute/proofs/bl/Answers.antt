-- `execute::bl` meets its contract. Assumes nothing.
use mir.Syntax.{w16}
use mir.ValLaws.{to_z-of_z}
use Rattle.execute.proofs.Laws.{linked}
use Rattle.execute.proofs.bl.Goals as goal

pub returns : goal.returns
returns c =
    let d = c in
    let start = d in
    let t = rw (to_z-of_z w16 _ start.ranges.off) at c.branch_target.ensures in
    linked start.args.regs.now _ _ _ _ _ _ start.args.off
    d.get-pc.ensures d.put-x.ensures t c.put.ensures c.asks_nothing.ensures
