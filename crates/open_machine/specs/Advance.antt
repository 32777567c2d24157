-- A machine held open and advanced by one call (document 01, "State and memory"; document 02, §1): its reply, and the
-- machine, the memory and the log that it leaves. It is turned back as the run call is on the machine's own record.
-- Assumes nothing.
use Rattle.std.specs.Prelude.{ℕ, cond, List, ◌≡◌, Result}
use Rattle.machine.specs.declared.Refusal.{Refusal}
use Rattle.machine.specs.State.{State}
use Rattle.machine.specs.Record.{record_of}
use Rattle.machine.specs.Events.{events_of}
use Rattle.machine.specs.Refusal.{verdict_of, call_verdict, refusal_number, accepted?}
use Rattle.machine.specs.Run.{Run, run_of, reason_of, reason_number}
use Rattle.machine.specs.Logged.{Logged, run_logged}
use Rattle.machine.specs.Call.{reply_number, run_reply, room_of, log_after}
use Rattle.machine.specs.Depth.{deepest_from}

-- what one call replies, and the state and the log that it leaves. [01 State and memory; 02 §1]
pub record Advance : Type 0 where
  pub reply : ℕ
  pub state : State
  pub log : List ℕ

-- Turned back: the number, no steps, machine, memory and log as handed over. [01 Who can be turned back]
abbrev pub left_alone : Result (Unit {0}) Refusal → State → List ℕ → Advance
left_alone v s log = record { reply = reply_number (refusal_number v) 0 0 0; state = s; log = log }

-- Accepted: reason, steps done, records added, and the state and the log that the run leaves.
-- [01 One step, in order; 02 §1]
abbrev pub advanced_by : List ℕ → Logged → Advance
advanced_by log x = record { reply = run_reply x; state = x.state; log = log_after log x }

-- the advance that a verdict gives. [01 Who can be turned back]
abbrev pub advance_for : Result (Unit {0}) Refusal → State → List ℕ → Logged → Advance
advance_for v s log x = cond (accepted? v) (advanced_by log x) (left_alone v s log)

-- an open machine advanced by n steps; its verdict is the run call's on the machine's own record.
-- [01 State and memory; 01 Who can be turned back; 02 §1]
unfoldable pub advance_of : State → (events log : List ℕ) → (n : ℕ) → Advance
advance_of s events log n =
    advance_for (call_verdict s.mem (record_of s) events log n) s log (run_logged (events_of events) s (room_of log) n)

-- what it leaves in the number lent for it: the most frames that were open together in its own steps, or the number as
-- handed over where it is turned back. [02 §10; 01 Who can be turned back]
unfoldable pub advance_deepest : State → (events log : List ℕ) → (n number : ℕ) → ℕ
advance_deepest s events log n number =
    cond (accepted? (call_verdict s.mem (record_of s) events log n))
    (deepest_from (events_of events) s (run_logged (events_of events) s (room_of log) n).steps)
    number

-- What an advance leaves: its reply, the state, the log, and the number lent for the figure. [02 §1; 02 §10]
pub record AdvanceLeaves
    (s : State) (events lent : List ℕ) (n number answer : ℕ) (after : State) (filled : List ℕ) (figure : ℕ) : Type 0 where
  pub reply : answer ≡ (advance_of s events lent n).reply
  pub state : after ≡ (advance_of s events lent n).state
  pub log : filled ≡ (advance_of s events lent n).log
  pub deepest : figure ≡ advance_deepest s events lent n number

-- One step of the by-value machine, with no log lent to it: the reply says nothing of records. [01 State and memory]
pub record Taken : Type 0 where
  pub reply : ℕ
  pub state : State

abbrev pub step_for : Result (Unit {0}) Refusal → State → Run → Taken
step_for v s x =
    cond (accepted? v)
    (record { reply = reply_number 0 (reason_number (reason_of x)) x.steps 0; state = x.state })
    (record { reply = reply_number (refusal_number v) 0 0 0; state = s })

unfoldable pub step_advance : State → (events : List ℕ) → Taken
step_advance s events = step_for (verdict_of s.mem (record_of s) events 1) s (run_of (events_of events) s 1)
