use Prim.Native.Nat.{◌+◌, ◌-◌, ◌≤◌}
use mathlib.Core.Bool.{false}
use mathlib.Core.Path.{◌≡◌}
use lib.ListN.{length}
use Rattle.machine.specs.State.{state_with}
use Rattle.machine.specs.Events.{events_of}
use Rattle.machine.specs.Logged.{run_logged}
use Rattle.machine.specs.Depth.{depth_from}
use Rattle.free_run.specs.Reached.{Reached}
use Rattle.journal_record.specs.Ring.{Lends, journal_with}
use Rattle.turn.specs.Due.{Awaits}
use Rattle.kept_run.specs.Kept.{kept_over}
use Rattle.kept_run.proofs.run_kept.Given as goal

abbrev pub invariant-loop-done : goal.invariant-loop-done
invariant-loop-done l = record {
  some : l.done ≤ l.n;
  size : length l.memory ≡ length l.initial.memory;
  counts : l.t.count ≡ l.initial.t.count + l.done;
  awaits : Awaits l.events l.at.next l.at.due l.t.count;
  reached :
      Reached (run_logged (events_of l.events) (state_with l.initial.regs l.initial.t l.initial.memory) l.room l.done) l.initial.log
      (state_with l.regs l.t l.memory) l.done l.added l.log
      false;
  sixteen : length l.devices ≡ 16;
  deep : l.depth ≡ depth_from (events_of l.events) (state_with l.initial.regs l.initial.t l.initial.memory) l.initial.depth l.done;
  kept : journal_with l.journal l.ring ≡ kept_over l.initial.journal l.initial.ring (events_of l.events)
      (state_with l.initial.regs l.initial.t l.initial.memory) l.done;
  lends : Lends l.journal l.ring;
}

abbrev pub decreases-loop-done : goal.decreases-loop-done
decreases-loop-done l =
    l.n - l.done
