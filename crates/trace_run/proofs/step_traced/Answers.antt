-- The step is planned and its records are counted before anything is performed: with no room the device bytes are put back and
-- nothing else has changed; else what is written is what the step adds (Step, given-up and taken_is).
-- Assumes nothing.
use Rattle.std.proofs.Common.{refl, sym, ap, subst, arith, rules}
use Rattle.devices.specs.Cursor.{Behind}
use Rattle.trace.specs.Trace.{Entry}
use Rattle.trace_run.proofs.Step.{given-up, has_room, taken_is}
use Rattle.trace_run.proofs.step_traced.Goals as goal

pub returns-then-lacks : goal.returns-then-lacks
returns-then-lacks c =
    let a = c.args in
    let s = c.requires in
    given-up a.events.now a.regs.now a.t a.memory.now s.live c.told-memory a.at.next a.at.due s.awaits s.ordered s.fit s.apart
    _ refl _ c.keep.ensures.bytes _ _ c.deliver_due-d.ensures.state _ c.plan-p.ensures.plan
    a.kinds a.room a.added c.needed-more.result c.needed-more.ensures
    c.lacks.result c.lacks.ensures _ c.put_back.ensures c.if-lacks.true _ _

pub add_step-there-requires : goal.add_step-there-requires
add_step-there-requires c =
    let a = c.args in
    let s = c.requires in
    let n = ap (λ (x : Entry). x.step) (s.starts a.memory.now 0 0 0 0) in (
      subst (Behind _ _) (sym n) s.awaits.0,
      s.ordered,
      s.fit,
      has_room a.events.now a.regs.now a.t a.memory.now s.live c.told-memory a.at.next a.at.due s.awaits s.ordered s.fit s.apart
          _ refl _ c.keep.ensures.bytes _ _ c.deliver_due-d.ensures.state _ c.plan-p.ensures.plan
          a.kinds a.room a.added c.needed-more.result c.needed-more.ensures
          c.lacks.result c.lacks.ensures c.if-lacks.false _ _ _ c.perform-u.ensures
          a.b s.starts _ c.seen_by-seen.ensures a.trace.now s.roomy,
    )

pub returns : goal.returns
returns c =
    let a = c.args in
    let s = c.requires in
    let e = c.add_step-there.ensures in (
      taken_is a.events.now a.regs.now a.t a.memory.now s.live c.told-memory a.at.next a.at.due s.awaits s.ordered s.fit s.apart
          _ refl _ c.keep.ensures.bytes _ _ c.deliver_due-d.ensures.state _ c.plan-p.ensures.plan
          a.kinds a.room a.added c.needed-more.result c.needed-more.ensures
          c.lacks.result c.lacks.ensures c.if-lacks.false _ _ _ c.perform-u.ensures
          a.b s.starts _ c.seen_by-seen.ensures a.trace.now _ _ e.added e.trace,
      search rules,
    )
