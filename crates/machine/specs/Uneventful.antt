-- Steps that nobody but the candidate's program need hear of: nothing of them is to be logged, and no frame opens or
-- closes in them. What an engine does at once, looking at its instructions alone, it promises to be such steps; the
-- log and the count of open frames are then as they were.
-- Assumes nothing.
use Rattle.std.specs.Prelude.{ℕ, ◌<◌, Bool, true, false, not, List, ◌≡◌}
use Rattle.machine.specs.declared.Act.{Act}
use Rattle.machine.specs.declared.Act.TheVariants as act
use Rattle.machine.specs.State.{State}
use Rattle.machine.specs.Events.{Event}
use Rattle.machine.specs.Devices.{device?, deliver}
use Rattle.machine.specs.Step.{plan_of}
use Rattle.machine.specs.Run.{run_of}

-- No entry, no return, no fault and no halt, and no store to a device's byte: a word's two bytes are both a device's or
-- neither is. [01 Devices; 01 Depth]
abbrev pub uneventful? : Act → Bool
uneventful? act.Stopped = false
uneventful? act.Pull = false
uneventful? (act.Chain d) = false
uneventful? (act.Accept d) = false
uneventful? act.Sleep = true
uneventful? (act.Fault v) = false
uneventful? act.Halt = false
uneventful? act.Skip = true
uneventful? (act.Trap v) = false
uneventful? act.Plain = true
uneventful? (act.Loads byte a d) = true
uneventful? (act.Stores byte a v) = not (device? a.0)

-- the act of the next step from s, its due events applied. [01 One step, in order]
abbrev pub next_act : List Event → State → Act
next_act ev s = (plan_of (deliver ev s)).act

-- Each of the next n steps from s is such a step. [01 One step, in order]
abbrev pub Uneventful : List Event → State → ℕ → Type 0
Uneventful ev s n = (i : ℕ) → i < n → uneventful? (next_act ev (run_of ev s i).state) ≡ true
