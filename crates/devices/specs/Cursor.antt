-- A place in the event list that only moves forward: what holds of it, the event that stands there, and the state that
-- events work on.
-- Assumes nothing.
use Rattle.std.specs.Prelude.{ℕ, ◌<◌, ◌≤◌, Bool, true, List, ◌≡◌}
use Rattle.machine.specs.State.{Core, State}
use Rattle.machine.specs.Events as machine
use Rattle.machine.specs.Events.{event_at, event_count}
use Rattle.machine.specs.Refusal.{in_order_below}
use Rattle.devices.specs.declared.Event.{Event}

-- Every record before `next` has a step below k: those that step k passes over or has behind it.
-- [01 One step, in order, 1]
abbrev pub Behind : List ℕ → (next k : ℕ) → Type 0
Behind b next k = (next ≤ event_count b) × ((j : ℕ) → j < next → (event_at b j).step < k)

-- The list's steps never fall. [01 Who can be turned back, 7]
abbrev pub Ordered : List ℕ → Type 0
Ordered b = in_order_below b (event_count b) ≡ true

-- a state with the given lines and memory
abbrev pub state_from : Core → (lines : ℕ) → (halted : Bool) → (count : ℕ) → List ℕ → State
state_from c l h n m = record { core = c; lines = l; halted = h; count = n; mem = m }

-- an event from its parts as the code holds them. [01 State and memory]
abbrev pub event_of : Event → machine.Event
event_of e = record { step = e.step; device = e.device; byte = e.byte }
