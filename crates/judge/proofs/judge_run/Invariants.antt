use Rattle.std.proofs.Common.{◌≡◌, ◌+◌, ◌-◌, ◌≤◌, false, length}
use Rattle.machine.specs.State.{state_with}
use Rattle.machine.specs.Events.{events_of}
use Rattle.soundness.specs.Judge.{judged_run}
use Rattle.turn.specs.Due.{Awaits}
use Rattle.judge.specs.Taken.{watch_with}
use Rattle.judge.specs.Reached.{Reaches}
use Rattle.judge.proofs.judge_run.Given as goal

abbrev pub invariant-loop-done : goal.invariant-loop-done
invariant-loop-done l =
    (l.done ≤ l.n)
    × (length l.memory ≡ length l.initial.memory)
    × (l.t.count ≡ l.initial.t.count + l.done)
    × Awaits l.events l.at.next l.at.due l.t.count
    × Reaches (state_with l.initial.regs l.initial.t l.initial.memory) l.start
    (judged_run (events_of l.events) (state_with l.initial.regs l.initial.t l.initial.memory) l.done)
    (state_with l.regs l.t l.memory) l.done
    (watch_with l.frames l.writers) l.findings false
    × (l.deep ≡ false)
    × (length l.devices ≡ 16)
    × (l.frames.open.held ≤ 256)
    × (l.frames.open.owns ≤ l.done)
    × (length l.writers ≡ length l.initial.writers)
    × (length l.findings ≡ length l.initial.findings)

abbrev pub decreases-loop-done : goal.decreases-loop-done
decreases-loop-done l =
    l.n - l.done
