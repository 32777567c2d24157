use Rattle.trace_record.specs.Written.{act_written}
use Rattle.trace_step.specs.Steps.{as_seen}
use Rattle.trace_step.proofs.Step.{one_at_most, both-count, act-count, step-with, step-without}
use Rattle.trace.specs.Before.{events_before}
use Rattle.machine.specs.Events.{events_of}
use lib.ListN.{length}
use mathlib.Core.Path.{sym, ap, ◌∙◌}
use native.Mathlib.Omega.{arith}
use Rattle.trace_step.proofs.needed.Goals as goal

pub overflow_add-result : goal.overflow_add-result
overflow_add-result c =
    let at-start = c in
    omega (arith, c.count_due-due.ensures.1, one_at_most c.asks-act.result, at-start.requires)

pub returns-then-wanted-asks : goal.returns-then-wanted-asks
returns-then-wanted-asks c =
    let at-start = c in
    let a = at-start.args in
    λ b m l x p w e.
    let ev = events_of a.events.now in
    both-count _ _ (events_before (as_seen b m l) b.step ev) (act_written b a.kinds a.a x p w) _ (c.count_due-due.ensures.0
    (as_seen b m l) ∙ ap (λ k. length (events_before (as_seen b m l) k ev)) (sym e))
    (act-count b a.kinds a.a x p w _ c.kind_of.ensures.0 _
    c.asks-act.ensures)
    (step-with b a.kinds a.wanted _ c.asks.ensures m l ev a.a x p w c.if-wanted-asks.true)

pub returns : goal.returns
returns c =
    let at-start = c in
    let a = at-start.args in
    λ b m l x p w e.
    act-count b a.kinds a.a x p w _ c.kind_of.ensures.0 _ c.asks-act.ensures
    ∙ ap length (step-without b a.kinds a.wanted _ c.asks.ensures m l (events_of a.events.now) a.a x p w
    c.if-wanted-asks.false)
