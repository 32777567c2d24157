use Rattle.std.proofs.Common.{◌≡◌, ◌+◌, ◌-◌, ◌≤◌, false, length}
use Rattle.machine.specs.State.{state_with}
use Rattle.machine.specs.Events.{events_of}
use Rattle.turn.specs.Due.{Awaits}
use Rattle.trace.specs.Traced.{run_traced}
use Rattle.trace_run.specs.Reached.{Reached}
use Rattle.trace_run.proofs.run_traced.Given as goal

abbrev pub invariant-loop-done : goal.invariant-loop-done
invariant-loop-done l =
    record {
      some : l.done ≤ l.n;
      counts : l.t.count ≡ l.initial.t.count + l.done;
      awaits : Awaits l.events l.at.next l.at.due l.t.count;
      reached :
          Reached (run_traced l.kinds (events_of l.events) (state_with l.initial.regs l.initial.t l.initial.memory) l.room l.done)
          l.initial.trace
          (state_with l.regs l.t l.memory) l.done l.added l.trace
          false;
      whole : l.short ≡ false;
    }

abbrev pub decreases-loop-done : goal.decreases-loop-done
decreases-loop-done l =
    l.n - l.done
