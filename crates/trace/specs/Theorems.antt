-- What holds of every trace, as statements in the order of the call's sentences (docs/CALLS.md); proofs/Theorems.antt
-- has a proof of each. `run_traced` is the run that the call makes, `trace_call_of` the call's whole answer.
-- Assumes nothing.
use Rattle.std.specs.Prelude.{ℕ, zero, suc, ◌+◌, ◌-◌, ◌*◌, ◌<◌, ◌≤◌, true, false, List, [], ◌∷◌, ◌++◌, ◌≢◌, ◌≡◌, length, get_or}
use Rattle.word.specs.Psw.{bit_of}
use Rattle.machine.specs.declared.Reason.TheVariants.{NoRoom}
use Rattle.machine.specs.State.{State, sp, pc}
use Rattle.machine.specs.Memory.{byte_at}
use Rattle.machine.specs.Record.{state_in, record_of}
use Rattle.machine.specs.Events.{Event, events_of}
use Rattle.machine.specs.Devices.{status_of, of?, events_waiting, event_on, deliver}
use Rattle.machine.specs.Step.{step_of}
use Rattle.machine.specs.Run.{run_of}
use Rattle.machine.specs.Logged.{run_logged}
use Rattle.machine.specs.Uneventful.{next_act}
use Rattle.machine_laws.specs.Bounds.{Each, OfDevice}
use Rattle.trace.specs.Trace.{Entry, effect_on, events_traced, act_entry, asked, traced_of, entry_bytes}
use Rattle.trace.specs.Traced.{Traced, ran_of, reason_traced, run_traced, traces_of, joined}
use Rattle.trace.specs.Call.{Closing, refusal_of, turned_back, room_of, closing, run_on, trace_call_of}
use Rattle.trace.specs.Kinds.{all_kinds, act_kinds, Fewer}
use Rattle.trace.specs.Before.{events_before, Apart}
use Rattle.machine.specs.Logged as log

-- ---- the records of a step

-- the record of what the next step from s does
abbrev pub act_record : List Event → State → Entry
act_record ev s = act_entry s (next_act ev s) (deliver ev s).mem (step_of ev s).core

-- "a step has exactly one act, after its events": with all kinds its records are its events', of kind 0, and then one,
-- of kind 1 to 11. [call trace]
pub record ActLast (ev : List Event) (s : State) : Type 0 where
  pub whole : traced_of all_kinds ev s ≡ events_traced s s.count ev s ++ act_record ev s ∷ []
  pub events : Each (λ (x : Entry). x.kind ≡ 0) (events_traced s s.count ev s)
  pub act : (0 < (act_record ev s).kind) × ((act_record ev s).kind < 12)

abbrev pub EventsThenAct : Type 0
EventsThenAct = (ev : List Event) (s : State) → s.halted ≡ false → ActLast ev s

-- "0-3 step count before the step, .. 10-11 PC, 12-13 SP, 14-15 PSW before the step (an event's too)". [call trace]
pub record TellsBefore (s : State) (x : Entry) : Type 0 where
  pub step : x.step ≡ s.count
  pub pc_is : x.pc ≡ pc s.core
  pub sp_is : x.sp ≡ sp s.core
  pub psw_is : x.psw ≡ s.core.psw

abbrev pub BeforeTold : Type 0
BeforeTold = (ks : ℕ) (ev : List Event) (s : State) → Each (TellsBefore s) (traced_of ks ev s)

-- "DBA was set before it (so OF is set)": bit 1. [call trace]
abbrev pub OverrunTold : Type 0
OverrunTold =
    (e : Event) (t : State) → status_of e.device < length t.mem → bit_of 1 (effect_on t e.device) ≡ true
    → of? (byte_at (event_on e t).mem (status_of e.device)) ≡ true

-- "an event is lost where bits 2 and 3 are both set"; where bit 2 alone is, its device counts one more, and where it is
-- not no line changes. [call trace; 02 §7]
pub record LineTold (e : Event) (t : State) : Type 0 where
  pub lost : bit_of 2 (effect_on t e.device) ≡ true → bit_of 3 (effect_on t e.device) ≡ true
      → (event_on e t).lines ≡ t.lines
  pub counted : bit_of 2 (effect_on t e.device) ≡ true → bit_of 3 (effect_on t e.device) ≡ false
      → events_waiting (event_on e t).lines e.device ≡ events_waiting t.lines e.device + 1
  pub silent : bit_of 2 (effect_on t e.device) ≡ false → (event_on e t).lines ≡ t.lines

abbrev pub LinesTold : Type 0
LinesTold = (e : Event) (t : State) → LineTold e t

-- In a list without twins what an event does is what it does to the state before the step. [call trace; 02 §3]
abbrev pub EffectsBefore : Type 0
EffectsBefore =
    (s : State) (ev : List Event) → 16 ≤ length s.mem → Each OfDevice ev → Apart ev
    → events_traced s s.count ev s ≡ events_before s s.count ev

-- ---- the records of a run

-- "in the order in which things happen": those of its first step, of its second, and so on to the last one done; and
-- "of the kinds asked for (bit k of `kinds` asks for kind k)" alone. [call trace]
abbrev pub InOrder : Type 0
InOrder =
    (ks : ℕ) (ev : List Event) (s : State) (k n : ℕ)
    → (run_traced ks ev s k n).records ≡ traces_of ks ev s (run_traced ks ev s k n).steps

abbrev pub OnlyAsked : Type 0
OnlyAsked =
    (ks : ℕ) (ev : List Event) (s : State) (k n : ℕ)
    → Each (λ (x : Entry). bit_of x.kind ks ≡ true) (run_traced ks ev s k n).records

-- "A step that would need a record past the end is not taken: reason 2, memory and state those before that step, due
-- events not applied". A run falls short there and nowhere else. [call trace]
pub record Untaken (ks : ℕ) (ev : List Event) (s : State) (k n : ℕ) (x : Traced) : Type 0 where
  pub reason : reason_traced x ≡ NoRoom
  pub before : x.steps < n
  pub live : x.state.halted ≡ false
  pub past : k < length x.records + length (traced_of ks ev x.state)
  pub state : x.state ≡ (run_of ev s x.steps).state

abbrev pub ShortUntaken : Type 0
ShortUntaken =
    (ks : ℕ) (ev : List Event) (s : State) (k n : ℕ) → (run_traced ks ev s k n).short ≡ true
    → Untaken ks ev s k n (run_traced ks ev s k n)

-- "Up to eight places may then stay free": no more, in a list of the eight devices without twins. [call trace; 02 §3]
abbrev pub EightFree : Type 0
EightFree =
    (ks : ℕ) (ev : List Event) (s : State) (k n : ℕ) → Each OfDevice ev → Apart ev
    → (run_traced ks ev s k n).short ≡ true → k ≤ length (run_traced ks ev s k n).records + 8

-- one place for each step and each event of the list never falls short. [call trace]
abbrev pub NeverShort : Type 0
NeverShort =
    (ks : ℕ) (ev : List Event) (s : State) (k n : ℕ) → n + length ev ≤ k → (run_traced ks ev s k n).short ≡ false

-- A run that stopped for room goes on where it stopped: what it has done and a run of the rest, with the room that is
-- left, are one run with all the room. [call trace]
abbrev pub GoesOn : Type 0
GoesOn =
    (ks : ℕ) (ev : List Event) (s : State) (k n K N : ℕ)
    → length (run_traced ks ev s k n).records ≤ K → (run_traced ks ev s k n).steps ≤ N
    → run_traced ks ev s K N
    ≡ joined (run_traced ks ev s k n)
    (run_traced ks ev (run_traced ks ev s k n).state
    (K - length (run_traced ks ev s k n).records) (N - (run_traced ks ev s k n).steps))

-- ---- the three laws

-- the acts of the first n steps of the run
unfoldable pub acts_of : List Event → State → ℕ → List Entry
acts_of ev s zero = []
acts_of ev s (suc n) = acts_of ev s n ++ act_record ev (run_of ev s n).state ∷ []

-- "with all kinds asked for there is one act record for each step done": those records are the steps' acts, in order.
-- [call trace]
pub record ActEach (ev : List Event) (s : State) (x : Traced) : Type 0 where
  pub acts : asked act_kinds x.records ≡ acts_of ev s x.steps
  pub as_many : length (asked act_kinds x.records) ≡ x.steps

abbrev pub OneAct : Type 0
OneAct = (ev : List Event) (s : State) (k n : ℕ) → ActEach ev s (run_traced all_kinds ev s k n)

-- "records for a smaller set are the filter of those for a larger one where neither run falls short"; the two runs are
-- one run, whatever room each has. [call trace]
pub record Filtered (a : ℕ) (x y : Traced) : Type 0 where
  pub run : ran_of x ≡ ran_of y
  pub records : x.records ≡ asked a y.records

abbrev pub FewerKinds : Type 0
FewerKinds =
    (ev : List Event) (s : State) (a b j k n : ℕ) → Fewer a b
    → (run_traced a ev s j n).short ≡ false → (run_traced b ev s k n).short ≡ false
    → Filtered a (run_traced a ev s j n) (run_traced b ev s k n)

-- "the run's closing state is `run_of`'s": of the steps done, which are all n or end halted where the trace does not
-- fall short; it is then the run with a log long enough. [call trace]
pub record Closes (ev : List Event) (s : State) (n : ℕ) (x : Traced) : Type 0 where
  pub run : ran_of x ≡ run_of ev s x.steps
  pub few : x.steps ≤ n
  pub whole : x.short ≡ false → ran_of x ≡ run_of ev s n
  pub logged : (room : ℕ) → n ≤ room → x.short ≡ false → ran_of x ≡ log.ran_of (run_logged ev s room n)

abbrev pub ClosesAsRun : Type 0
ClosesAsRun = (ks : ℕ) (ev : List Event) (s : State) (k n : ℕ) → Closes ev s n (run_traced ks ev s k n)

-- ---- the call

-- Refused, its number, no steps, and every buffer as handed over; accepted, what its run gives, in which the memory and
-- the record are those of the machine's own run. [call trace]
pub record Answers (memory r events trace : List ℕ) (ks n : ℕ) (c : Closing) : Type 0 where
  pub refused : refusal_of memory r events trace ks n ≢ 0
      → c ≡ turned_back (refusal_of memory r events trace ks n) memory r trace
  pub accepted : refusal_of memory r events trace ks n ≡ 0 → c ≡ closing trace (run_on memory r events trace ks n)
  pub memory_is : refusal_of memory r events trace ks n ≡ 0
      → c.memory ≡ (run_of (events_of events) (state_in r memory) (run_on memory r events trace ks n).steps).state.mem
  pub state_is : refusal_of memory r events trace ks n ≡ 0
      → c.state ≡ record_of (run_of (events_of events) (state_in r memory) (run_on memory r events trace ks n).steps).state

abbrev pub CallAnswers : Type 0
CallAnswers =
    (memory r events trace : List ℕ) (ks n : ℕ)
    → Answers memory r events trace ks n (trace_call_of memory r events trace ks n)

-- An accepted call leaves record j at bytes 16 × j to 16 × j + 15, and "Bytes past the last record keep what they held";
-- at most eight places are free where it stopped for room. [call trace]
pub record Leaves (memory r events trace : List ℕ) (ks n : ℕ) (x : Traced) (left : List ℕ) : Type 0 where
  pub size : length left ≡ length trace
  pub fits : 16 * length x.records ≤ length trace
  pub records : (none : Entry) (j i : ℕ) → j < length x.records → i < 16
      → byte_at left (16 * j + i) ≡ byte_at (entry_bytes (get_or x.records j none)) i
  pub kept : (i : ℕ) → 16 * length x.records ≤ i → byte_at left i ≡ byte_at trace i
  pub free : x.short ≡ true → room_of trace ≤ length x.records + 8

abbrev pub TraceLeft : Type 0
TraceLeft =
    (memory r events trace : List ℕ) (ks n : ℕ) → refusal_of memory r events trace ks n ≡ 0
    → Leaves memory r events trace ks n (run_on memory r events trace ks n)
    (trace_call_of memory r events trace ks n).trace
