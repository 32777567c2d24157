-- The whole answer of one trace call: its reply, and the memory, the state record and the trace that it leaves, for
-- every length, content and number.
-- Assumes nothing.
use Rattle.std.specs.Prelude.{ℕ, ◌/◌, ◌%◌, Bool, cond, not, ◌||◌, List, eqb, ltb, length}
use Rattle.std.proofs.lemmas.List.Edits.{sets}
use Rattle.machine.specs.Events.{events_of}
use Rattle.machine.specs.Record.{state_in, record_of}
use Rattle.machine.specs.Run.{reason_number}
use Rattle.machine.specs.Refusal.{verdict_of, refusal_number}
use Rattle.machine.specs.Call.{reply_number}
use Rattle.trace.specs.Trace.{trace_bytes}
use Rattle.trace.specs.Traced.{Traced, run_traced, reason_traced}

pub record Closing : Type 0 where
  pub reply : ℕ
  pub memory : List ℕ
  pub state : List ℕ
  pub trace : List ℕ

-- "21 where the length of `trace` is not a multiple of 16 or `kinds` is above 4,095". [call trace]
unfoldable pub misfits : (trace : List ℕ) → (kinds : ℕ) → Bool
misfits trace ks = not (eqb (length trace % 16) 0) || ltb 4095 ks

-- "those of a run without a log", then 21; 0 for none. [call trace; 01 Who can be turned back; 02 §3]
unfoldable pub refusal_of : (memory r events trace : List ℕ) (kinds n : ℕ) → ℕ
refusal_of memory r events trace ks n =
    let v = refusal_number (verdict_of memory r events n) in
    cond (not (eqb v 0)) v (cond (misfits trace ks) 21 0)

-- the records that a trace has room for. [call trace]
abbrev pub room_of : List ℕ → ℕ
room_of trace = length trace / 16

-- a trace in which a run has left its records: "Bytes past the last record keep what they held". [call trace]
abbrev pub trace_after : List ℕ → Traced → List ℕ
trace_after trace x = sets trace 0 (trace_bytes x.records)

-- Refused: its number, no steps, every lent buffer as handed over. [01 Who can be turned back]
abbrev pub turned_back : (number : ℕ) → (memory r trace : List ℕ) → Closing
turned_back number memory r trace =
    record { reply = reply_number number 0 0 0; memory = memory; state = r; trace = trace }

-- Accepted: reason, steps done, records added; the closing record, all of memory and of the trace. [call trace]
abbrev pub closing : List ℕ → Traced → Closing
closing trace x =
    record {
      reply = reply_number 0 (reason_number (reason_traced x)) x.steps (length x.records);
      memory = x.state.mem;
      state = record_of x.state;
      trace = trace_after trace x;
    }

-- the run of a call, from its raw buffers. [call trace]
abbrev pub run_on : (memory r events trace : List ℕ) (kinds n : ℕ) → Traced
run_on memory r events trace ks n = run_traced ks (events_of events) (state_in r memory) (room_of trace) n

-- the trace call on its raw buffers and numbers
unfoldable pub trace_call_of : (memory r events trace : List ℕ) (kinds n : ℕ) → Closing
trace_call_of memory r events trace ks n =
    let f = refusal_of memory r events trace ks n in
    cond (eqb f 0) (closing trace (run_on memory r events trace ks n)) (turned_back f memory r trace)
