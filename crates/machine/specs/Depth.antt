-- How deep a run is and went (document 02, §10): the frames open, of those opened since the start, and the most that
-- were open together, carried from step to step. That the second number is the greatest of the counts of 01's open
-- frames is said in resume.
-- Assumes nothing.
use Rattle.std.specs.Prelude.{ℕ, zero, suc, ◌-◌, cond, List, ltb}
use Rattle.machine.specs.declared.Act.{Act}
use Rattle.machine.specs.declared.Act.TheVariants as act
use Rattle.machine.specs.declared.Depth.{Depth}
use Rattle.machine.specs.State.{State}
use Rattle.machine.specs.Events.{Event, events_of}
use Rattle.machine.specs.Record.{state_in}
use Rattle.machine.specs.Run.{run_of}
use Rattle.machine.specs.Uneventful.{next_act}
use Rattle.machine.specs.Refusal.{call_verdict, accepted?}
use Rattle.machine.specs.Call.{run_on}

abbrev pub depth : (o d : ℕ) → Depth
depth o d = record { opened = o; deepest = d }

-- the greater of two numbers. [02 §10]
abbrev pub greater : ℕ → ℕ → ℕ
greater a b = cond (ltb a b) b a

-- One entry that pushed more; one return that pulled more, "a return with none open counting nothing". [02 §10]
abbrev pub deeper : Depth → Depth
deeper p = depth (suc p.opened) (greater p.deepest (suc p.opened))

abbrev pub shallower : Depth → Depth
shallower p = depth (p.opened - 1) p.deepest

-- "entries that pushed, less returns that pulled": an acceptance, a fault and a trap push; a chained entry and a fault
-- that halts do not. [02 §10]
abbrev pub depth_after : Act → Depth → Depth
depth_after act.Stopped p = p
depth_after act.Pull p = shallower p
depth_after (act.Chain d) p = p
depth_after (act.Accept d) p = deeper p
depth_after act.Sleep p = p
depth_after (act.Fault v) p = deeper p
depth_after act.Halt p = p
depth_after act.Skip p = p
depth_after (act.Trap v) p = deeper p
depth_after act.Plain p = p
depth_after (act.Loads byte a d) p = p
depth_after (act.Stores byte a v) p = p

-- n steps from s, at the depth p before the first of them. [02 §10]
unfoldable pub depth_from : List Event → State → Depth → ℕ → Depth
depth_from ev s p zero = p
depth_from ev s p (suc n) = depth_after (next_act ev (run_of ev s n).state) (depth_from ev s p n)

-- the most frames open together in n steps from s, "since the start" none. [02 §10]
abbrev pub deepest_from : List Event → State → ℕ → ℕ
deepest_from ev s n = (depth_from ev s (depth 0 0) n).deepest

-- What a run call leaves in the number lent for it: the figure of the steps done, where it is accepted, else the number
-- as handed over. [02 §10; 01 Who can be turned back]
unfoldable pub call_deepest : (memory r events log : List ℕ) (n number : ℕ) → ℕ
call_deepest memory r events log n number =
    cond (accepted? (call_verdict memory r events log n))
    (deepest_from (events_of events) (state_in r memory) (run_on memory r events log n).steps)
    number
