-- Demand 3 as document 01 has it, of a run with no SVC at all: a step is the application's only if no frame whatever is
-- open before it, a return counts as loading nothing, every frame is to be found as entry left it. It is written out so
-- that a reader sees that nothing was lost: proofs/Untrapped shows that without SVC the application's steps, what they
-- read and the last writers are those of Frames, and that the demand follows from Resume.
-- Assumes nothing.
use Rattle.std.specs.Prelude.{ℕ, zero, suc, ◌<◌, Bool, true, false, cond, not, ◌&&◌, List, [], ◌∷◌, ◌≡◌}
use Rattle.word.specs.Psw.{asleep?}
use Rattle.machine.specs.State.{State}
use Rattle.machine.specs.Memory.{byte_at, writes?}
use Rattle.machine.specs.Record.{state_in}
use Rattle.machine.specs.Events.{Event, events_of}
use Rattle.machine.specs.Devices.{device?}
use Rattle.machine.specs.declared.Act.TheVariants as acts
use Rattle.machine.specs.Step.{outcome_of}
use Rattle.machine.specs.Run.{run_of}
use Rattle.machine_laws.specs.Bounds.{Each}
use Rattle.resume.specs.Frames.{Start, Frame, Calm, svc?, none?, accepts_none?, instruction_reads, after, due}
use Rattle.resume.specs.Frames.{act, frames}
use Rattle.resume.specs.Resume.{Found}

module _ (ev : List Event) (s : State) where
  -- "A step is the application's if no frame opened since the start is open before it and it accepts no line."
  -- [01 Depth]
  abbrev pub unframed? : ℕ → Bool
  unframed? k = none? (frames ev s k) && accepts_none? (act ev s k)

  -- Such steps among the first k. [01 Resumption]
  unfoldable pub unframed_steps : ℕ → ℕ
  unframed_steps zero = zero
  unframed_steps (suc k) = cond (unframed? k) (suc (unframed_steps k)) (unframed_steps k)

  -- "Bytes written by any other step are a handler's or an entry's": of the first k steps the newest that wrote byte a.
  -- [01 Depth; 01 Resumption]
  unfoldable pub handled? : ℕ → ℕ → Bool
  handled? zero a = false
  handled? (suc k) a = cond (writes? (outcome_of (due ev s k)).writes a) (not (unframed? k)) (handled? k a)

module _ (memory r events : List ℕ) where
  -- the event list and the state that the buffers hold. [01 State and memory]
  abbrev list : List Event
  list = events_of events

  abbrev start : State
  start = state_in r memory

  -- What a run of n is to keep. [01 Resumption]
  pub record UntrappedPremises (n : ℕ) : Type 0 where
    -- "Whatever the events of an accepted list do, passed-over ones included, and for every accepted start and step
    -- count"
    pub accepted : Start memory r events n
    -- "let a run start awake, not halted, with no line waiting"
    pub awake : asleep? start.core.psw ≡ false
    pub not_halted : start.halted ≡ false
    pub no_line : start.lines ≡ 0
    -- "and be free of faults, SVC and returns with no frame open"
    pub calm : (k : ℕ) → k < n → Calm (act list start k) (frames list start k)
    pub no_svc : (k : ℕ) → k < n → svc? (act list start k) ≡ false
    -- "let every frame be closed"
    pub closed : frames list start n ≡ []
    -- "its closing return finding R0 to R4, SP and the frame's bytes as entry left them"
    pub restored : (k : ℕ) (f : Frame) (fs : List Frame) → k < n → act list start k ≡ acts.Pull
        → frames list start k ≡ f ∷ fs
        → Found f.held (due list start k)
    -- "let the application never set SLP"
    pub never_sleeps : (k : ℕ) → k < n → unframed? list start k ≡ true
        → asleep? (after list start (suc k)).core.psw ≡ false
    -- "nor load or fetch from a device register or from a byte last written by a handler or an entry"
    pub reads_own : (k : ℕ) → k < n → unframed? list start k ≡ true
        → Each (λ a. (device? a ≡ false) × (handled? list start k a ≡ false))
        (instruction_reads (act list start k) (due list start k).core)

  -- The run with no events when the run has done k steps. [01 Resumption]
  abbrev pub unframed_alone : ℕ → State
  unframed_alone k = (run_of [] start (unframed_steps list start k)).state

  -- The two runs agree when the run has done k steps. [01 Resumption]
  pub record UntrappedAgree (k : ℕ) : Type 0 where
    pub core : (after list start k).core ≡ (unframed_alone k).core
    pub bytes : (a : ℕ) → a < 65536 → device? a ≡ false → handled? list start k a ≡ false
        → byte_at (after list start k).mem a ≡ byte_at (unframed_alone k).mem a

  -- What then holds of it: "before each of its steps, after its last and at the run's close". [01 Resumption]
  pub record UntrappedResumes (n : ℕ) : Type 0 where
    pub before_step : (k : ℕ) → k < n → unframed? list start k ≡ true → UntrappedAgree k
    pub after_step : (k : ℕ) → k < n → unframed? list start k ≡ true → UntrappedAgree (suc k)
    pub at_close : UntrappedAgree n
