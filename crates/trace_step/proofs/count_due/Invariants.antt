use Prim.Native.Nat.{◌+◌, ◌≤◌}
use mathlib.Core.Path.{◌≡◌}
use lib.ListN.{length}
use Rattle.machine.specs.State.{State}
use Rattle.machine.specs.Events.{events_of, event_count}
use Rattle.devices.proofs.Laws.{rest_from}
use Rattle.trace.specs.Before.{events_before}
use Rattle.trace_step.proofs.Index as index
use Rattle.trace_step.proofs.count_due.Given as goal

abbrev pub invariant-loop-at : goal.invariant-loop-at
invariant-loop-at l = record {
  few : l.due ≤ l.at;
  inside : l.at ≤ event_count l.events;
  counted : (s : State) → l.due + length (events_before s l.count (rest_from l.events l.at))
      ≡ length (events_before s l.count (events_of l.events));
}
