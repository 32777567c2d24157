-- A judged run: the run, and beside it what is carried and what has been found, with room for 256 devices' frames; and
-- the whole answer of the call that does it, on raw buffers (docs/CALLS.md, xm23_judge; document 01, "Resumption",
-- "Who can be turned back").
-- Assumes nothing.
use Rattle.std.specs.Prelude.{ℕ, zero, suc, ◌+◌, ◌≤◌, Bool, true, false, cond, not, ◌&&◌, ◌||◌, List, [], ◌∷◌, ◌++◌, ◌≡◌, eqb, length, replicate}
use Rattle.machine.specs.State.{State}
use Rattle.machine.specs.Memory.{low_byte, high_byte}
use Rattle.machine.specs.Record.{state_in, record_of, count_byte}
use Rattle.machine.specs.Events.{Event, events_of}
use Rattle.machine.specs.Devices.{deliver}
use Rattle.machine.specs.declared.Act.{Act}
use Rattle.machine.specs.declared.Act.TheVariants as acts
use Rattle.machine.specs.Step.{plan_of, step_of}
use Rattle.machine.specs.Refusal.{verdict_of, refusal_number}
use Rattle.machine.specs.Call.{reply_number}
use Rattle.resume.specs.Frames.{Start, after}
use Rattle.resume.specs.Resume.{Premises}
use Rattle.soundness.specs.Findings.{Kind, started, faulted, unopened, trapped, unclosed, changed, slept, device}
use Rattle.soundness.specs.Findings.{foreign, Finding, nothing, find_after, start_finding, open_finding, kinds_found}
use Rattle.soundness.specs.Findings.{found_of}
use Rattle.soundness.specs.Watch.{Watch, unwatched, no_device?, open_in, seen_by, watch_after, watch, noted}

-- The state reached, the steps done, what is carried, what has been found, and whether a step was not taken because it
-- would have opened one frame too many. [call judge]
pub record Judging : Type 0 where
  pub state : State
  pub steps : ℕ
  pub watch : Watch
  pub noted : Kind → Finding
  pub deep : Bool

abbrev pub begun : State → Judging
begun s = record { state = s; steps = 0; watch = unwatched; noted = λ κ. nothing; deep = false }

-- The act makes one more device's frame, where o frames of the application are open and, if own is set, no other.
-- [01 Depth; 02 §13]
abbrev pub holds? : Act → (o : ℕ) → (own : Bool) → Bool
holds? acts.Stopped o own = false
holds? acts.Pull o own = false
holds? (acts.Chain d) o own = own && not (eqb o 0)
holds? (acts.Accept d) o own = true
holds? acts.Sleep o own = false
holds? (acts.Fault v) o own = true
holds? acts.Halt o own = false
holds? acts.Skip o own = false
holds? (acts.Trap v) o own = not own
holds? acts.Plain o own = false
holds? (acts.Loads byte a d) o own = false
holds? (acts.Stores byte a v) o own = false

abbrev pub too_deep? : Act → Watch → Bool
too_deep? a w = eqb (length w.devices) 256 && holds? a w.owns (no_device? w.devices)

-- No further step is taken.
abbrev pub over? : Judging → Bool
over? x = x.state.halted || x.deep

-- One step more: a step that would open the 257th device's frame is not taken. [call judge]
abbrev pub onward : List Event → Judging → Judging
onward ev x =
    let b = deliver ev x.state in
    let a = (plan_of b).act in
    let t = step_of ev x.state in
    cond (over? x) x
    (cond (too_deep? a x.watch)
    (record { state = x.state; steps = x.steps; watch = x.watch; noted = x.noted; deep = true })
    (record {
      state = t;
      steps = suc x.steps;
      watch = watch_after a x.steps b t x.watch;
      noted = λ κ. find_after κ x.steps (seen_by a b t x.watch) (x.noted κ);
      deep = false;
    }))

-- A judged run of n. [call judge]
unfoldable pub judged_run : List Event → State → ℕ → Judging
judged_run ev s zero = begun s
judged_run ev s (suc n) = onward ev (judged_run ev s n)

-- What it tells of each kind at its close; s is the start. [call judge]
abbrev pub closing_told : State → Judging → Kind → Finding
closing_told s x started = start_finding s
closing_told s x faulted = x.noted faulted
closing_told s x unopened = x.noted unopened
closing_told s x trapped = x.noted trapped
closing_told s x unclosed = open_finding (eqb (open_in x.watch) 0) x.watch.oldest
closing_told s x changed = x.noted changed
closing_told s x slept = x.noted slept
closing_told s x device = x.noted device
closing_told s x foreign = x.noted foreign

-- ---- the call

-- Why it ended: 2 if a step would have opened the 257th frame, else 1 if it ends halted, else 0.
-- [01 One step, in order; call judge]
abbrev pub judged_reason : Judging → ℕ
judged_reason x = cond x.deep 2 (cond x.state.halted 1 0)

-- A number in four bytes.
abbrev pub four_bytes : ℕ → List ℕ
four_bytes n = count_byte n 1 ∷ count_byte n 0x100 ∷ count_byte n 0x10000 ∷ count_byte n 0x1000000 ∷ []

-- A finding in sixteen bytes, c the step count at the start: 0-3 the step count before the step, 4-7 before the one
-- that opened the frame, 8 one, 9 the number that says more, 10-11 the address, 12 the vector by which the frame was
-- entered, 13 that of the handler that ran, 14-15 zero; where nothing was found all are zero. [call judge]
abbrev pub finding_bytes : (c : ℕ) → Finding → List ℕ
finding_bytes c x =
    cond x.found
    (four_bytes (c + x.step) ++ four_bytes (c + x.by.opened)
    ++ (1 ∷ x.detail ∷ low_byte x.address ∷ high_byte x.address ∷ x.by.vector ∷ x.by.running ∷ 0 ∷ 0 ∷ []))
    (replicate 16 0)

-- The nine of them. [call judge]
abbrev pub findings_bytes : (c : ℕ) → (Kind → Finding) → List ℕ
findings_bytes c f =
    finding_bytes c (f started) ++ finding_bytes c (f faulted) ++ finding_bytes c (f unopened)
    ++ finding_bytes c (f trapped)
    ++ finding_bytes c (f unclosed) ++ finding_bytes c (f changed) ++ finding_bytes c (f slept)
    ++ finding_bytes c (f device) ++ finding_bytes c (f foreign)

-- What the call replies and leaves. [call judge]
pub record JudgeClosing : Type 0 where
  pub reply : ℕ
  pub memory : List ℕ
  pub state : List ℕ
  pub writers : List ℕ
  pub findings : List ℕ

-- The refusals of a start; then 20 if writers is not 65,536 bytes or findings not 144.
-- [01 Who can be turned back; 02 §3; call judge]
abbrev pub judge_refusal : (memory r events writers findings : List ℕ) (n : ℕ) → ℕ
judge_refusal memory r events writers findings n =
    let v = refusal_number (verdict_of memory r events n) in
    cond (not (eqb v 0)) v (cond (eqb (length writers) 65536 && eqb (length findings) 144) 0 20)

-- Refused: everything lent as handed over. [01 Who can be turned back; call judge]
abbrev pub judge_refused : (refusal : ℕ) → (memory r writers findings : List ℕ) → JudgeClosing
judge_refused k memory r writers findings =
    record {
      reply = reply_number k 0 0 0;
      memory = memory;
      state = r;
      writers = writers;
      findings = findings;
    }

-- Accepted, of a judged run x from s. The reply as one number: bits 7-0 the refusal, here none, 15-8 the reason, 39-16
-- the steps done, 63-40 the kinds found. [call judge]
abbrev pub judge_accepted : (s : State) → (x : Judging) → JudgeClosing
judge_accepted s x =
    record {
      reply = reply_number 0 (judged_reason x) x.steps (kinds_found (closing_told s x));
      memory = x.state.mem;
      state = record_of x.state;
      writers = x.watch.writers;
      findings = findings_bytes s.count (closing_told s x);
    }

-- The judged run of a call, from its raw buffers. [call judge]
abbrev pub judged_on : (memory r events : List ℕ) (n : ℕ) → Judging
judged_on memory r events n = judged_run (events_of events) (state_in r memory) n

-- The call on its raw buffers and numbers. [call judge]
unfoldable pub judge_call_of : (memory r events writers findings : List ℕ) (n : ℕ) → JudgeClosing
judge_call_of memory r events writers findings n =
    cond (eqb (judge_refusal memory r events writers findings n) 0)
    (judge_accepted (state_in r memory) (judged_on memory r events n))
    (judge_refused (judge_refusal memory r events writers findings n) memory r writers findings)

-- ---- what is proved of it

-- A judged run is the run, as far as it goes; what it carries is what the run's steps make of it, never more than 256
-- devices' frames; it goes on to n unless it halts or would be too deep.
pub record Follows (ev : List Event) (s : State) (n : ℕ) : Type 0 where
  pub within : (judged_run ev s n).steps ≤ n
  pub state : (judged_run ev s n).state ≡ after ev s (judged_run ev s n).steps
  pub carries : (judged_run ev s n).watch ≡ watch ev s (judged_run ev s n).steps
  pub notes : (κ : Kind) → (judged_run ev s n).noted κ ≡ noted ev s κ (judged_run ev s n).steps
  pub room : length (judged_run ev s n).watch.devices ≤ 256
  pub whole : over? (judged_run ev s n) ≡ false → (judged_run ev s n).steps ≡ n

abbrev pub RunFollows : Type 0
RunFollows = (ev : List Event) (s : State) (n : ℕ) → Follows ev s n

-- Of an accepted start it tells what is found in the steps done; so the reply has no kind exactly if those steps keep
-- the premises of resumption.
pub record Tried (memory r events : List ℕ) (n : ℕ) : Type 0 where
  pub tells : (κ : Kind)
      → closing_told (state_in r memory) (judged_run (events_of events) (state_in r memory) n) κ
      ≡ found_of (events_of events) (state_in r memory) κ (judged_run (events_of events) (state_in r memory) n).steps
  pub sound : kinds_found (closing_told (state_in r memory) (judged_run (events_of events) (state_in r memory) n)) ≡ 0
      → Premises memory r events (judged_run (events_of events) (state_in r memory) n).steps
  pub complete : Premises memory r events (judged_run (events_of events) (state_in r memory) n).steps
      → kinds_found (closing_told (state_in r memory) (judged_run (events_of events) (state_in r memory) n)) ≡ 0

abbrev pub Tries : Type 0
Tries = (memory r events : List ℕ) (n : ℕ) → Start memory r events n → Tried memory r events n
