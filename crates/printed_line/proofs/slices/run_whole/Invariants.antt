use Prim.Native.Nat.{◌-◌, ◌≤◌}
use mathlib.Core.Path.{◌≡◌}
use lib.ListN.{length}
use Rattle.machine.specs.State.{state_of}
use Rattle.machine.specs.Events.{events_of}
use Rattle.machine.specs.Run.{ran, run_of}
use Rattle.machine.specs.Depth.{depth, depth_from}
use Rattle.devices.specs.Cursor.{Behind}
use Rattle.printed_line.proofs.slices.run_whole.Given as goal

abbrev pub invariant-loop-done : goal.invariant-loop-done
invariant-loop-done l = record {
  some : l.done ≤ l.n;
  short : length l.log ≡ 512;
  behind : Behind l.events l.next l.machine.rest.count;
  reached : ran (state_of l.machine l.memory) l.done ≡ run_of (events_of l.events) (state_of l.initial.machine l.initial.memory) l.done;
  deep : l.depth ≡ depth_from (events_of l.events) (state_of l.initial.machine l.initial.memory) (depth 0 0) l.done;
}

abbrev pub decreases-loop-done : goal.decreases-loop-done
decreases-loop-done l = l.n - l.done
