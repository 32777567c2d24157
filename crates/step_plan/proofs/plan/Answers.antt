-- `step_plan::plan` meets its contract. Assumes nothing.
use Rattle.std.proofs.Common.{sym, refl, subst, arith}
use Rattle.machine.specs.State.{State, core_with}
use Rattle.devices.specs.Cursor.{state_from}
use Rattle.machine.specs.Step.{Plan}
use Rattle.step_plan.specs.Planned.{Within}
use Rattle.step_plan.proofs.Laws.{returns_is, due-leaves, due-accepts, due-runs, instruction-within}
use Rattle.step_plan.proofs.plan.Goals as goal
use Rattle.step_plan.proofs.plan.Goals.{Start}

-- the machine once its events are applied
abbrev begun : Start → State
begun s =
    state_from (core_with s.args.regs.now s.args.t) s.args.lines s.args.t.halted s.args.t.count
    s.args.mem.now

pub returns-then-asleep-regs : goal.returns-then-asleep-regs
returns-then-asleep-regs c =
    let s : Start = search in
    let a = s.args in
    let r = returns_is (core_with a.regs.now a.t) c.asleep.ensures c.if-asleep-regs.true in
    let e = c.leave.ensures in
    record { plan = due-leaves (begun s) s.requires r (e.plan a.regs.now); within = e.within }

pub returns-in-Some : goal.returns-in-Some
returns-in-Some c =
    let k = c in
    let s : Start = search in
    let a = s.args in
    let r = returns_is (core_with a.regs.now a.t) k.asleep.ensures k.if-asleep-regs.false in
    let d = c.in-Some.ensures in
    let q = c.current_priority.ensures.0 in
    record { plan = due-accepts (begun s) s.requires _ _ r q (sym d.1) d.0 refl; within = d.0 }

pub returns : goal.returns
returns c =
    let k = c in
    let s : Start = search in
    let a = s.args in
    let r = returns_is (core_with a.regs.now a.t) k.asleep.ensures k.if-asleep-regs.false in
    let d = c.in_default.ensures in
    let q = c.current_priority.ensures.0 in
    let e = c.instruction.ensures in record {
      plan = due-runs (begun s) s.requires _ _ r q (sym d) (omega arith) e;
      within = subst (λ (p : Plan). Within p.act) (sym e) (instruction-within _ _);
    }
