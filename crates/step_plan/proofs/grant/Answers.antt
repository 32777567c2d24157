-- An arm for each access: what the arm plans is what `allowed` has for that access (Laws, allowed-nothing to allowed-trap). A trap asks for
-- its vector's priority first, whose place the bounds of the access give (`Asked`). Assumes nothing.
use Rattle.std.proofs.Common.{subst}
use Rattle.machine.specs.State.{core_of}
use Rattle.step_plan.specs.Planned.{Asked}
use Rattle.step_plan.proofs.Laws.{allowed-nothing, allowed-load, allowed-store, allowed-fault, allowed-trap, allowed-low}
use Rattle.step_plan.proofs.grant.Goals as goal

pub returns-then-current_priority-priority_of : goal.returns-then-current_priority-priority_of
returns-then-current_priority-priority_of c =
    let at-start = c in
    let a = at-start.args in
    let x = core_of a.regs.now a.d.psw a.d.cex in
    λ b ep eq er quits.
    allowed-trap b x a.d.access a.mem.now a.psw a.cex a.pc ep eq er quits _ _ _
    c.in-Trap.is c.current_priority.ensures.0
    c.priority_of.ensures c.if-current_priority-priority_of.true

pub returns-in-Nothing : goal.returns-in-Nothing
returns-in-Nothing c =
    let a = c.args in
    let x = core_of a.regs.now a.d.psw a.d.cex in
    λ b ep eq er quits.
    allowed-nothing b x a.d.access a.mem.now c.in-Nothing.is

pub returns-in-Load : goal.returns-in-Load
returns-in-Load c =
    let a = c.args in
    let x = core_of a.regs.now a.d.psw a.d.cex in
    λ b ep eq er quits.
    allowed-load b x a.d.access a.mem.now _ _ _ c.in-Load.is

pub returns-in-Store : goal.returns-in-Store
returns-in-Store c =
    let a = c.args in
    let x = core_of a.regs.now a.d.psw a.d.cex in
    λ b ep eq er quits.
    allowed-store b x a.d.access a.mem.now _ _ _ c.in-Store.is

pub returns-in-Fault : goal.returns-in-Fault
returns-in-Fault c =
    let at-start = c in
    let a = at-start.args in
    let x = core_of a.regs.now a.d.psw a.d.cex in
    λ b ep eq er quits.
    allowed-fault b x a.d.access a.mem.now a.psw a.cex a.pc ep eq er quits _
    c.in-Fault.is c.faulted.ensures

pub returns-else-current_priority-priority_of : goal.returns-else-current_priority-priority_of
returns-else-current_priority-priority_of c =
    let at-a4 = c in
    let at-start = c in
    let a = at-start.args in
    let x = core_of a.regs.now a.d.psw a.d.cex in
    λ b ep eq er quits.
    allowed-low b x a.d.access a.mem.now a.psw a.cex a.pc ep eq er quits _ _ _
    at-a4.in-Trap.is
    c.current_priority.ensures.0 c.priority_of.ensures
    c.if-current_priority-priority_of.false c.faulted-in-Trap.ensures
