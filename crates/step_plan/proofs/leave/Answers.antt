-- `step_plan::leave` meets its contract. Assumes nothing.
use Rattle.std.proofs.Common.{sym, refl, arith}
use Rattle.word.specs.Psw.{previous}
use Rattle.machine.specs.State.{core_of}
use Rattle.entry.proofs.Lines.{line-no-lines}
use Rattle.step_plan.proofs.Laws.{leave-chains, leave-pulls}
use Rattle.step_plan.proofs.leave.Goals as goal

pub returns-in-Some : goal.returns-in-Some
returns-in-Some c =
    let at-start = c in
    let a = at-start.args in
    let q = c.previous_priority.ensures.0 in
    let d = c.in-Some.ensures in
    record {
      plan = λ regs p. leave-chains (core_of regs a.psw a.cex) a.lines _ _ a.mem.now q (sym d.1) p d.0;
      within = d.0;
    }

pub returns-in_default : goal.returns-in_default
returns-in_default c =
    let at-start = c in
    let a = at-start.args in
    let q = c.previous_priority.ensures.0 in
    let d = c.in_default.ensures in
    record { plan = λ regs p. leave-pulls (core_of regs a.psw a.cex) a.lines _ _ a.mem.now q (sym d) p (omega arith); within = tt }

pub returns-else-lines-ne0 : goal.returns-else-lines-ne0
returns-else-lines-ne0 c =
    let a = c.args in
    let l = line-no-lines a.mem.now a.lines (previous a.psw) c.if-lines-ne0.false in
    record { plan = λ regs p. leave-pulls (core_of regs a.psw a.cex) a.lines 8 _ a.mem.now refl l p (omega arith); within = tt }
