-- An arm for each act, or for those that are alike: the callee's answer is what `perform` has for it (Laws, performed). A callee finds its
-- bytes since the memory is whole and the act's vector, device or register lies within its bounds (`Within`). Assumes nothing.
use Rattle.step.proofs.Laws.{performed}
use Rattle.step_plan.specs.Planned.{Within}
use Rattle.machine.specs.Step.{perform}
use Rattle.machine.specs.Memory.{commit}
use Rattle.machine.specs.State.{core_of}
use Rattle.devices.specs.Cursor.{state_from}
use mathlib.Core.Logic.{⊎_elim}
use mathlib.Core.Path.{refl, subst}
use mathlib.Core.Bool.{false}
use Prim.Native.Nat.{◌+◌}
use native.Mathlib.Omega.{arith}
use Rattle.step.proofs.perform.Goals as goal

pub chain-psw-requires : goal.chain-psw-requires
chain-psw-requires c =
    let s = c in
    let h = subst Within c.in-Chain.is s.requires.1 in
    (omega (arith, h))

pub fall-requires : goal.fall-requires
fall-requires c =
    let s = c in
    subst Within c.in-Chain.is s.requires.1

pub enter-psw-requires : goal.enter-psw-requires
enter-psw-requires c =
    let s = c in
    let h = subst Within c.in-Accept.is s.requires.1 in
    (omega (arith, h))

pub fall-requires-in-Accept : goal.fall-requires-in-Accept
fall-requires-in-Accept c =
    let at-a2 = c in
    let s = c in
    subst Within at-a2.in-Accept.is s.requires.1

pub enter-psw-requires-in-Fault : goal.enter-psw-requires-in-Fault
enter-psw-requires-in-Fault c =
    let s = c in
    let h = subst Within c.in-Fault.is s.requires.1 in
    (omega (arith, h))

pub enter-psw-requires-in-Trap : goal.enter-psw-requires-in-Trap
enter-psw-requires-in-Trap c =
    let s = c in
    let h = subst Within c.in-Trap.is s.requires.1 in
    (omega (arith, h))

pub load-cex-requires : goal.load-cex-requires
load-cex-requires c =
    let s = c in
    (subst Within c.in-Loads.is s.requires.1)

pub returns-in-Stopped : goal.returns-in-Stopped
unfolding perform commit
returns-in-Stopped c =
    let a = c.args in
    let x = core_of a.regs.now a.p.psw a.p.cex in
    rw c.after.ensures
    (⊎_elim (λ e. performed a.p.act _ x a.lines a.count a.mem.now e refl)
    (λ e. performed a.p.act _ x a.lines a.count a.mem.now e refl) c.in-Stopped.is)

pub returns-in-Pull : goal.returns-in-Pull
unfolding perform commit
returns-in-Pull c =
    let at-start = c in
    let a = at-start.args in
    let x = core_of a.regs.now a.p.psw a.p.cex in
    rw c.after-in-Pull.ensures
    (performed a.p.act _ x a.lines a.count a.mem.now c.in-Pull.is
    (λ i. state_from (c.pull-f.ensures a.p.psw a.p.cex i) a.lines false (a.count + 1) a.mem.now))

pub returns-in-Chain : goal.returns-in-Chain
unfolding perform commit
returns-in-Chain c =
    let at_a = c in
    let at-start = c in
    let a = at-start.args in
    let x = core_of a.regs.now a.p.psw a.p.cex in
    rw c.after-in-Chain.ensures
    (performed a.p.act _ x a.lines a.count a.mem.now at_a.in-Chain.is
    (λ i. state_from (c.chain-psw.ensures a.p.cex i) (c.fall.ensures i) false (a.count + 1) a.mem.now))

pub returns-in-Accept : goal.returns-in-Accept
unfolding perform commit
returns-in-Accept c =
    let at-a2 = c in
    let at-start = c in
    let a = at-start.args in
    let x = core_of a.regs.now a.p.psw a.p.cex in
    let g = at-a2.in-Accept.is in
    let e = c.enter-psw.ensures in
    rw c.after-in-Accept.ensures
    (performed a.p.act _ x a.lines a.count a.mem.now g
    (λ i. state_from (e.core i) (c.fall-in-Accept.ensures i) false (a.count + 1) (e.memory i)))

pub returns-in-Sleep : goal.returns-in-Sleep
unfolding perform commit
returns-in-Sleep c =
    let a = c.args in
    let x = core_of a.regs.now a.p.psw a.p.cex in
    rw c.after-in-Sleep.ensures
    (⊎_elim (λ e. performed a.p.act _ x a.lines a.count a.mem.now e refl)
    (⊎_elim (λ e. performed a.p.act _ x a.lines a.count a.mem.now e refl)
    (λ e. performed a.p.act _ x a.lines a.count a.mem.now e refl)) c.in-Sleep.is)

pub returns-in-Fault : goal.returns-in-Fault
unfolding perform commit
returns-in-Fault c =
    let at-a3 = c in
    let at-start = c in
    let a = at-start.args in
    let x = core_of a.regs.now a.p.psw a.p.cex in
    let g = at-a3.in-Fault.is in
    let e = c.enter-psw-in-Fault.ensures in
    rw c.after-in-Fault.ensures
    (performed a.p.act _ x a.lines a.count a.mem.now g
    (λ i. state_from (e.core i) a.lines false (a.count + 1) (e.memory i)))

pub returns-in-Trap : goal.returns-in-Trap
unfolding perform commit
returns-in-Trap c =
    let at-a4 = c in
    let at-start = c in
    let a = at-start.args in
    let x = core_of a.regs.now a.p.psw a.p.cex in
    let g = at-a4.in-Trap.is in
    let e = c.enter-psw-in-Trap.ensures in
    rw c.after-in-Trap.ensures
    (performed a.p.act _ x a.lines a.count a.mem.now g
    (λ i. state_from (e.core i) a.lines false (a.count + 1) (e.memory i)))

pub returns-in-Loads : goal.returns-in-Loads
unfolding perform commit
returns-in-Loads c =
    let at-a5 = c in
    let at-start = c in
    let a = at-start.args in
    let x = core_of a.regs.now a.p.psw a.p.cex in
    let g = at-a5.in-Loads.is in
    let e = c.load-cex.ensures in
    rw c.after-in-Loads.ensures
    (performed a.p.act _ x a.lines a.count a.mem.now g
    (λ i. state_from (e.core a.p.psw i) a.lines false (a.count + 1) (e.memory i)))

pub returns-in-Stores : goal.returns-in-Stores
unfolding perform commit
returns-in-Stores c =
    let at-a6 = c in
    let at-start = c in
    let a = at-start.args in
    let x = core_of a.regs.now a.p.psw a.p.cex in
    rw c.after-in-Stores.ensures
    (performed a.p.act _ x a.lines a.count a.mem.now at-a6.in-Stores.is
    (λ i. state_from x a.lines false (a.count + 1) (c.store.ensures i)))
