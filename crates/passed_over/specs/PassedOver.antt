-- Passed-over events do nothing: a run call that is handed an event list, and one that is handed only the events still
-- to come, reply and leave the same (document 01, "One step, in order", "Who can be turned back"). So a host that runs
-- a machine in slices hands over, at each, the records of its list that are not of an earlier step.
-- Assumes nothing.
use Rattle.std.specs.Prelude.{ℕ, ◌*◌, ◌<◌, ◌≤◌, List, ◌≡◌, drop, Ok}
use Rattle.machine.specs.State.{State}
use Rattle.machine.specs.Record.{four_at}
use Rattle.machine.specs.Events.{Event, event_at, event_count}
use Rattle.machine.specs.Devices.{deliver}
use Rattle.machine.specs.Run.{run_of}
use Rattle.machine.specs.Logged.{run_logged}
use Rattle.machine.specs.Refusal.{call_verdict}
use Rattle.machine.specs.Call.{run_call_of}
use Rattle.machine.specs.Depth.{call_deepest}

-- The first k records of the list are of steps below the step count in bytes 22-25 of the state record; the list being
-- in order, these can be all such records. [01 State and memory; 01 One step, in order, 1]
pub record PassedOver (r events : List ℕ) (k : ℕ) : Type 0 where
  pub within : k ≤ event_count events
  pub early : (i : ℕ) → i < k → (event_at events i).step < four_at r 22

-- The list less its first k records, of 8 bytes each. [01 State and memory]
abbrev pub less_first : (k : ℕ) → List ℕ → List ℕ
less_first k events = drop (8 * k) events

-- A call with the list and a call with the list less its first k records. [01 One step, in order; 02 §1; 02 §10]
pub record SameCall (memory r events log : List ℕ) (n number k : ℕ) : Type 0 where
  -- the shorter list refuses nothing either
  pub accepted : call_verdict memory r (less_first k events) log n ≡ Ok tt
  -- reply, memory, state record and log
  pub call : run_call_of memory r (less_first k events) log n ≡ run_call_of memory r events log n
  -- the deepest count left in the number lent for it
  pub deepest : call_deepest memory r (less_first k events) log n number ≡ call_deepest memory r events log n number

-- The law, of every accepted call. [01 One step, in order, 1]
abbrev pub PassedOverDoNothing : Type 0
PassedOverDoNothing =
    (memory r events log : List ℕ) (n number k : ℕ) → call_verdict memory r events log n ≡ Ok tt
    → PassedOver r events k
    → SameCall memory r events log n number k

-- Records may be left out at the front whatever their steps: what is left is accepted where the whole list is.
-- [01 Who can be turned back]
abbrev pub ShorterAccepted : Type 0
ShorterAccepted =
    (memory r events log : List ℕ) (n k : ℕ) → k ≤ event_count events → call_verdict memory r events log n ≡ Ok tt
    → call_verdict memory r (less_first k events) log n ≡ Ok tt

-- Two lists whose due events do the same from the step count c on.
abbrev pub SameFrom : (c : ℕ) → (ev ev' : List Event) → Type 0
SameFrom c ev ev' = (t : State) → c ≤ t.count → deliver ev t ≡ deliver ev' t

-- A run depends on its due events alone. [01 One step, in order, 1]
abbrev pub DueAlone : Type 0
DueAlone =
    (ev ev' : List Event) (s : State) → SameFrom s.count ev ev'
    → (room n : ℕ) → (run_of ev s n ≡ run_of ev' s n) × (run_logged ev s room n ≡ run_logged ev' s room n)
