-- The whole answer of one run call: its reply, and the memory, the state record and the log that it leaves, for every
-- length, content and number (document 01, "Who can be turned back", "One step, in order"; document 02, §1).
-- Assumes nothing.
use Rattle.std.specs.Prelude.{ℕ, ◌+◌, ◌*◌, ◌/◌, cond, List, length, Result}
use Rattle.std.proofs.lemmas.List.Edits.{sets}
use Rattle.machine.specs.declared.Refusal.{Refusal}
use Rattle.machine.specs.Events.{events_of}
use Rattle.machine.specs.Record.{state_in, record_of}
use Rattle.machine.specs.Run.{reason_number}
use Rattle.machine.specs.Log.{log_bytes}
use Rattle.machine.specs.Logged.{Logged, run_logged, reason_logged}
use Rattle.machine.specs.Refusal.{call_verdict, refusal_number, accepted?}

pub record Closing : Type 0 where
  pub reply : ℕ
  pub memory : List ℕ
  pub state : List ℕ
  pub log : List ℕ

-- The reply as one number: bits 7-0 the refusal (0: none), 15-8 the reason, 39-16 the steps done, 63-40 the log records
-- added. [01 Which shape goes where; 02 §1]
abbrev pub reply_number : (refusal reason steps added : ℕ) → ℕ
reply_number refusal reason steps added = refusal + 256 * reason + 65536 * steps + 1099511627776 * added

-- the records that a log has room for. [02 §1]
abbrev pub room_of : List ℕ → ℕ
room_of log = length log / 8

-- a log in which a run has left its records: "Bytes past the last record keep what they held". [02 §1]
abbrev pub log_after : List ℕ → Logged → List ℕ
log_after log x = sets log 0 (log_bytes x.records)

-- Turned back: "its number, no steps, and memory, state record and every other lent buffer as handed over".
-- [01 Who can be turned back]
abbrev pub turned_back : Result (Unit {0}) Refusal → (memory r log : List ℕ) → Closing
turned_back v memory r log =
    record { reply = reply_number (refusal_number v) 0 0 0; memory = memory; state = r; log = log }

-- what a run replies: reason, steps done, records added. [01 One step, in order; 02 §1]
abbrev pub run_reply : Logged → ℕ
run_reply x = reply_number 0 (reason_number (reason_logged x)) x.steps (length x.records)

-- Accepted: the reply, the closing record, all of memory and of the log. [01 One step, in order; 02 §1]
abbrev pub closing : List ℕ → Logged → Closing
closing log x =
    record { reply = run_reply x; memory = x.state.mem; state = record_of x.state; log = log_after log x }

-- the closing that a verdict gives
abbrev pub closing_of : Result (Unit {0}) Refusal → (memory r log : List ℕ) → Logged → Closing
closing_of v memory r log x = cond (accepted? v) (closing log x) (turned_back v memory r log)

-- the run of a call, from its raw buffers. [02 §1]
abbrev pub run_on : (memory r events log : List ℕ) (n : ℕ) → Logged
run_on memory r events log n = run_logged (events_of events) (state_in r memory) (room_of log) n

-- the run call on its raw buffers and numbers
unfoldable pub run_call_of : (memory r events log : List ℕ) (n : ℕ) → Closing
run_call_of memory r events log n =
    closing_of (call_verdict memory r events log n) memory r log (run_on memory r events log n)
