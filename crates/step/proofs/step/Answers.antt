use Rattle.step.proofs.Laws.{step-law}
use Rattle.machine_laws.proofs.Runs.{step-halted}
use Rattle.machine.specs.Step.{Plan, closed, perform}
use Rattle.machine.specs.Events.{events_of}
use Rattle.machine.specs.State.{core_with, state_of}
use mathlib.Core.Path.{sym, ap, ◌∙◌}
use native.Mathlib.Omega.{arith}
use Rattle.step.proofs.step.Goals as goal

pub returns-then-t : goal.returns-then-t
returns-then-t c =
    let s = c in
    let a = s.args in
    let b = s.requires.1 in
    let same = step-halted (events_of a.events.now) (state_of a.m a.memory.now) c.if-t.true in
    record { state = sym same; behind = (b.0, λ j h. omega (arith, b.1 j h)) }

pub returns : goal.returns
returns c =
    let at-plan = c in
    let k = c in
    let s = c in
    let at-if1 = c in
    let a = s.args in
    let t = a.m.rest in
    let d = k.deliver-due in
    let p = at-plan.plan-p.ensures.plan in record {
      state = step-law (events_of a.events.now) (state_of a.m a.memory.now) _ _ at-if1.if-t.false
          (d.ensures.state (core_with a.m.regs t) t.halted) (c.perform-rest.ensures
          ∙ ap (λ (q : Plan). closed (perform q.act q.core d.result.lines d.new.mem) t.count d.new.mem) p);
      behind = d.ensures.behind;
    }

pub plan-p-requires : goal.plan-p-requires
plan-p-requires c = c.if-t.false

pub perform-rest-requires : goal.perform-rest-requires
perform-rest-requires c = (c.requires.0, c.plan-p.ensures.within)
