use Prim.Native.Nat.{◌+◌, ◌*◌}
use mathlib.Core.Path.{◌≡◌}
use lib.ListN.{length}
use lib.Seq.{sets}
use Rattle.machine.specs.Events.{events_of}
use Rattle.devices.proofs.Laws.{rest_from}
use Rattle.trace.specs.Trace.{trace_bytes}
use Rattle.trace.specs.Before.{events_before}
use Rattle.trace_step.specs.Steps.{as_seen}
use Rattle.trace_step.proofs.Index as index
use Rattle.trace_step.proofs.add_events.Given as goal

abbrev pub invariant-loop-at : goal.invariant-loop-at
invariant-loop-at l = record {
  size : length l.trace ≡ length l.initial.trace;
  counted : l.added + length (events_before (as_seen l.b l.devices l.lines) l.b.step (rest_from l.events l.at))
      ≡ l.k + length (events_before (as_seen l.b l.devices l.lines) l.b.step (events_of l.events));
  stored : sets l.trace (16 * l.added) (trace_bytes (events_before (as_seen l.b l.devices l.lines) l.b.step (rest_from l.events l.at)))
      ≡ sets l.initial.trace (16 * l.k) (trace_bytes (events_before (as_seen l.b l.devices l.lines) l.b.step (events_of l.events)));
}
