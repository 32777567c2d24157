-- What a step adds is its events' records and then its act's (Step, step-with), or the act's alone where no event's is wanted or asked
-- for (step-without): so room for all is room for the first part, and the two parts stand one behind the other. Assumes nothing.
use Rattle.trace_record.specs.Written.{act_written}
use Rattle.trace_step.specs.Steps.{as_seen}
use Rattle.trace.specs.Before.{events_before}
use Rattle.trace_step.proofs.Step.{step-with, step-without, first_fits, joined-fits, joined-count, joined_bytes}
use Rattle.trace.specs.Trace.{trace_bytes}
use Rattle.machine.specs.Events.{events_of}
use lib.Seq.{sets}
use lib.ListN.{length}
use mathlib.Core.Path.{ap, ◌∙◌}
use native.Mathlib.Omega.{arith}
use Prim.Native.Nat.{◌+◌, ◌*◌}
use Rattle.trace_step.proofs.add_step.Goals as goal

pub add_events-j-requires : goal.add_events-j-requires
add_events-j-requires c =
    let s = c in
    let a = s.args in
    let e = step-with a.b a.kinds a.wanted _ c.asks.ensures a.devices.now a.lines (events_of a.events.now) a.a a.seen a.pc a.psw
    c.if-wanted-asks.true in
    let xs = events_before (as_seen a.b a.devices.now a.lines) a.b.step (events_of a.events.now) in
    let ys = act_written a.b a.kinds a.a a.seen a.pc a.psw in
    (s.requires.0, s.requires.1, s.requires.2, first_fits a.k _ xs ys _ e s.requires.3)

pub add_act-requires : goal.add_act-requires
add_act-requires c =
    let at-if1 = c in
    let at-asks = c in
    let s = c in
    let a = s.args in
    let e = step-with a.b a.kinds a.wanted _ at-asks.asks.ensures a.devices.now a.lines (events_of a.events.now) a.a a.seen a.pc a.psw
    at-if1.if-wanted-asks.true in
    let xs = events_before (as_seen a.b a.devices.now a.lines) a.b.step (events_of a.events.now) in
    let ys = act_written a.b a.kinds a.a a.seen a.pc a.psw in
    let f = c.add_events-j in
    joined-fits a.k f.result _ xs ys _ e f.ensures.added (omega (arith, s.requires.3, f.auto))

pub returns-then-wanted-asks : goal.returns-then-wanted-asks
returns-then-wanted-asks c =
    let at-add-events = c in
    let at-if1 = c in
    let at-asks = c in
    let s = at-asks in
    let a = s.args in
    let e = step-with a.b a.kinds a.wanted _
    at-asks.asks.ensures a.devices.now a.lines (events_of
    a.events.now) a.a a.seen a.pc a.psw
    at-if1.if-wanted-asks.true in
    let xs = events_before (as_seen a.b a.devices.now a.lines) a.b.step (events_of a.events.now) in
    let ys = act_written a.b a.kinds a.a a.seen a.pc a.psw in
    let f = at-add-events.add_events-j in
    let g = c.add_act in record {
      added = joined-count a.k f.result _ xs ys _ e f.ensures.added g.ensures.added;
      trace = joined_bytes a.trace.now _ _ a.k f.result xs ys _ e f.ensures.added f.ensures.trace g.ensures.trace;
    }

pub add_act-requires-2 : goal.add_act-requires-2
add_act-requires-2 c =
    let s = c in
    let a = s.args in
    let e = step-without a.b a.kinds a.wanted _ c.asks.ensures a.devices.now a.lines (events_of a.events.now) a.a a.seen a.pc a.psw
    c.if-wanted-asks.false in
    let xs = events_before (as_seen a.b a.devices.now a.lines) a.b.step (events_of a.events.now) in
    let ys = act_written a.b a.kinds a.a a.seen a.pc a.psw in
    omega (arith, ap length e, s.requires.3)

pub returns : goal.returns
returns c =
    let at-asks = c in
    let s = c in
    let a = s.args in
    let e = step-without a.b a.kinds a.wanted _ at-asks.asks.ensures a.devices.now
    a.lines (events_of a.events.now) a.a a.seen a.pc a.psw
    c.if-wanted-asks.false in
    let xs = events_before (as_seen a.b a.devices.now a.lines) a.b.step (events_of a.events.now) in
    let ys = act_written a.b a.kinds a.a a.seen a.pc a.psw in
    let g = c.add_act-2 in
    record {
      added = g.ensures.added ∙ ap (λ xs. a.k + length xs) e;
      trace = g.ensures.trace
          ∙ ap (λ xs. sets a.trace.now (16 * a.k) (trace_bytes xs)) e;
    }
