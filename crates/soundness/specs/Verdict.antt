-- What the judge call's answer is worth, at the buffers that it was handed and those that it leaves: no kind is found
-- exactly if the premises of resumption hold of the steps done, and then the program ended as it would have with no
-- events; a kind is found exactly if its own premise fails, and its finding tells the step at which that first fails
-- (document 01, "Resumption"; document 02, §13).
-- Assumes nothing.
use Rattle.std.specs.Prelude.{ℕ, zero, suc, ◌+◌, ◌*◌, ◌/◌, ◌%◌, ◌^◌, ◌<◌, cond, List, ◌≡◌, eqb}
use Rattle.machine.specs.State.{State}
use Rattle.machine.specs.Memory.{byte_at, writes?}
use Rattle.machine.specs.Record.{four_at, state_in}
use Rattle.machine.specs.Events.{Event, events_of}
use Rattle.machine.specs.Step.{outcome_of}
use Rattle.resume.specs.Frames.{own_writes?, due, act, frames, foreign?}
use Rattle.resume.specs.Resume.{Premises}
use Rattle.resume.specs.Resumption.{CallResumes}
use Rattle.soundness.specs.Findings.{Kind, started, faulted, unopened, trapped, unclosed, changed, slept, device}
use Rattle.soundness.specs.Findings.{foreign, found_of}
use Rattle.soundness.specs.Soundness.{kinds_in, Premise, FailsAt}
use Rattle.soundness.specs.Judge.{findings_bytes}

module _ (ev : List Event) (s : State) where
  -- Who wrote byte a last in the first k steps: 0 none of them, 1 a step of the application, 2 any other.
  -- [01 Resumption; 02 §13; call judge]
  unfoldable pub last_writer : (k a : ℕ) → ℕ
  last_writer zero a = 0
  last_writer (suc k) a =
      cond (writes? (outcome_of (due ev s k)).writes a)
      (cond (own_writes? (act ev s k) (frames ev s k)) 1 2)
      (last_writer k a)

-- A kind's number. [call judge]
abbrev pub number_of : Kind → ℕ
number_of started = 0
number_of faulted = 1
number_of unopened = 2
number_of trapped = 3
number_of unclosed = 4
number_of changed = 5
number_of slept = 6
number_of device = 7
number_of foreign = 8

-- Its bit among the kinds of a reply; and the step count that its finding tells, in bytes 0-3 of its record.
-- [call judge]
abbrev pub bit_in : (kinds : ℕ) → Kind → ℕ
bit_in kinds κ = kinds / 2 ^ number_of κ % 2

abbrev pub count_in : (findings : List ℕ) → Kind → ℕ
count_in findings κ = four_at findings (16 * number_of κ)

-- What a finding of a kind tells of a run of n: a step, by the step count before it, at which that kind's own premise
-- first fails. [01 Resumption; call judge]
pub record FoundAt (memory r events : List ℕ) (κ : Kind) (n count : ℕ) : Type 0 where
  pub step : ℕ
  pub counted : count ≡ (state_in r memory).count + step
  pub fails : FailsAt memory r events κ n step

-- Of a call that was handed memory, r and events, did so many steps, found these kinds, a bit for each, and leaves the
-- buffers with a prime. [01 Resumption; 02 §13; call judge]
pub record TrueVerdict
    (memory r events : List ℕ) (steps kinds : ℕ) (memory' r' writers' findings' : List ℕ) : Type 0 where
  -- no sound run is blamed, and no other passes
  pub sound : kinds ≡ 0 → Premises memory r events steps
  pub complete : Premises memory r events steps → kinds ≡ 0
  -- a sound one ended as it would have with no events
  pub resumes : kinds ≡ 0 → CallResumes memory r events steps memory' r'
  -- the kinds and the findings are those of the run itself, each finding the first of its kind
  pub found : kinds ≡ kinds_in memory r events steps
  pub told : findings'
      ≡ findings_bytes (state_in r memory).count (λ κ. found_of (events_of events) (state_in r memory) κ steps)
  -- kind by kind: a bit is clear exactly if that kind's own premise holds of the steps done
  pub kind_sound : (κ : Kind) → bit_in kinds κ ≡ 0 → Premise memory r events κ steps
  pub kind_complete : (κ : Kind) → Premise memory r events κ steps → bit_in kinds κ ≡ 0
  -- and where it is set, the finding tells the step at which that premise first fails
  pub kind_least : (κ : Kind) → bit_in kinds κ ≡ 1 → FoundAt memory r events κ steps (count_in findings' κ)
  -- each byte's mark says who wrote it last; it is 2 exactly if a handler or an entry did
  pub marks : (a : ℕ) → a < 65536 → byte_at writers' a ≡ last_writer (events_of events) (state_in r memory) steps a
  pub foreign_marks : (a : ℕ) → a < 65536
      → eqb (byte_at writers' a) 2 ≡ foreign? (events_of events) (state_in r memory) steps a

-- The promise of every judge call: where its reply has no refusal, steps and kinds are those in the reply.
-- [01 Resumption; 02 §13; call judge]
abbrev pub Judgement : (memory r events : List ℕ) (reply : ℕ) (memory' r' writers' findings' : List ℕ) → Type 0
Judgement memory r events reply memory' r' writers' findings' =
    reply % 256 ≡ 0
    → TrueVerdict memory r events (reply / 65536 % 16777216) (reply / 1099511627776) memory' r' writers' findings'
