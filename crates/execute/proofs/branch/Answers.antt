-- `execute::branch` meets its contract. Assumes nothing.
use mir.Syntax.{w16}
use mir.ValLaws.{to_z-of_z}
use native.Mathlib.Omega.{arith}
use Rattle.execute.proofs.Laws.{branching, passing}
use Rattle.execute.proofs.branch.Goals as goal

pub branch_target-to-requires : goal.branch_target-to-requires
branch_target-to-requires c = rw (to_z-of_z w16 _ c.ranges.off) (omega arith)

pub returns-then-taken : goal.returns-then-taken
returns-then-taken c =
    let d = c in
    let start = d in
    let t = rw (to_z-of_z w16 _ start.ranges.off) at c.branch_target-to.ensures in
    branching start.args.regs.now _ _ _ _ _ start.args.off
    d.taken.ensures d.if-taken.true d.get.ensures t
    c.put.ensures c.asks_nothing.ensures

pub returns : goal.returns
returns c =
    let start = c in
    passing start.args.regs.now _ _ _ start.args.off
    c.taken.ensures c.if-taken.false c.asks_nothing-2.ensures
