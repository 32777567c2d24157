-- `step_plan::faulted` meets its contract. Assumes nothing.
use Rattle.std.proofs.Common.{set}
use Rattle.machine.specs.State.{core_of}
use Rattle.step_plan.proofs.Laws.{fault-halts, fault-enters}
use Rattle.step_plan.proofs.faulted.Goals as goal

pub returns-then-faulted : goal.returns-then-faulted
returns-then-faulted c =
    let a = c.args in
    let b = core_of (set a.regs.now 7 a.pc) a.psw a.cex in
    fault-halts b (core_of a.regs.now a.psw a.left) a.v c.faulted.ensures c.if-faulted.true

pub returns : goal.returns
returns c =
    let a = c.args in
    let b = core_of (set a.regs.now 7 a.pc) a.psw a.cex in
    fault-enters b (core_of a.regs.now a.psw a.left) a.v c.faulted.ensures c.if-faulted.false
