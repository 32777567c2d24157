-- Resumption: a run that keeps the premises below is, to the application, the run with no events (demand 3; document
-- 01, "Resumption"; document 02, §13, which lets the application use SVC). The run is that of an accepted start, event
-- list and step count, as the run call has them: three byte buffers and a number. The fields stand in the demand's
-- order, each under its words.
-- Assumes nothing.
use Rattle.std.specs.Prelude.{ℕ, suc, ◌<◌, ◌≤◌, true, false, List, [], ◌∷◌, ◌≡◌}
use Rattle.word.specs.Psw.{asleep?}
use Rattle.machine.specs.State.{State, reg}
use Rattle.machine.specs.Memory.{byte_at}
use Rattle.machine.specs.Record.{state_in}
use Rattle.machine.specs.Events.{Event, events_of}
use Rattle.machine.specs.Devices.{device?}
use Rattle.machine.specs.declared.Act.TheVariants as acts
use Rattle.machine.specs.Run.{run_of}
use Rattle.machine_laws.specs.Bounds.{Each}
use Rattle.resume.specs.Frames.{Start, Frame, FrameFound, Calm, svc?, NoChain, own?, reads_of, after, due, act}
use Rattle.resume.specs.Frames.{frames}
use Rattle.resume.specs.Frames.{application?, application_steps, foreign?}

-- The state t has R0 to R4, SP and the frame's bytes as the state s has them, which the frame holds. [01 Resumption]
pub record Found (s t : State) : Type 0 where
  pub registers : (i : ℕ) → i < 5 → reg t.core i ≡ reg s.core i
  pub frame : FrameFound s t

module _ (memory r events : List ℕ) where
  -- the event list and the state that the buffers hold. [01 State and memory]
  abbrev list : List Event
  list = events_of events

  abbrev start : State
  start = state_in r memory

  -- What a run of n is to keep. [01 Resumption; 02 §13]
  pub record Premises (n : ℕ) : Type 0 where
    -- "Whatever the events of an accepted list do, passed-over ones included, and for every accepted start and step
    -- count"
    pub accepted : Start memory r events n
    -- "let a run start awake, not halted, with no line waiting": lines of 0 are "eight zero counts". [02 §7]
    pub awake : asleep? start.core.psw ≡ false
    pub not_halted : start.halted ≡ false
    pub no_line : start.lines ≡ 0
    -- "and be free of faults .. and returns with no frame open"
    pub calm : (k : ℕ) → k < n → Calm (act list start k) (frames list start k)
    -- "free of .. SVC", but "SVC frames opened while no device frame is open .. count as the application's": SVC is let
    -- in while no device frame is open, and only then
    pub own_traps : (k : ℕ) → k < n → svc? (act list start k) ≡ true → own? (frames list start k) ≡ true
    -- "let every frame be closed", the application's too
    pub closed : frames list start n ≡ []
    -- "its closing return finding R0 to R4, SP and the frame's bytes as entry left them", of a device's frame: SVC's
    -- "handlers need restore nothing", but "A device handler chained onto an SVC frame must leave R0 to R4, SP and the
    -- eight bytes that the return was about to pull as it found them": such a frame is a device's from the chaining on,
    -- and holds what the chained handler found
    pub restored : (k : ℕ) (f : Frame) (fs : List Frame) → k < n → act list start k ≡ acts.Pull
        → frames list start k ≡ f ∷ fs
        → f.own ≡ false
        → Found f.held (due list start k)
    -- "let the application never set SLP": "a step sets SLP if SLP is set after it"
    pub never_sleeps : (k : ℕ) → k < n → application? list start k ≡ true
        → asleep? (after list start (suc k)).core.psw ≡ false
    -- "nor load or fetch from a device register or from a byte last written by a handler or an entry", SVC's vector and
    -- the eight bytes of its return among what is loaded
    pub reads_own : (k : ℕ) → k < n → application? list start k ≡ true
        → Each (λ a. (device? a ≡ false) × (foreign? list start k a ≡ false))
        (reads_of (act list start k) (due list start k).core)

  -- "The run with no events has the same state record and memory, an empty list, and as many steps as the application
  -- took, 0 included." Its state when the run has done k steps. [01 Resumption]
  abbrev pub alone : ℕ → State
  alone k = (run_of [] start (application_steps list start k)).state

  -- The two runs agree when the run has done k steps. [01 Resumption]
  pub record Agree (k : ℕ) : Type 0 where
    -- "the application's PC, R0 to R6, PSW and CEX state .. equal those of the run with no events from the same start,
    -- after as many steps as the application has then done": the core is these, PC being R7
    pub core : (after list start k).core ≡ (alone k).core
    -- "and so .. does every byte outside the device registers not last written by a handler or an entry"
    pub bytes : (a : ℕ) → a < 65536 → device? a ≡ false → foreign? list start k a ≡ false
        → byte_at (after list start k).mem a ≡ byte_at (alone k).mem a

  -- "the chaining step counts as the application's return, its outcome read after the pull": in a run of n there is the
  -- pull that closes the frame onto which step k chained, and the two runs agree after it. [02 §13]
  pub record ReadAfterPull (n k : ℕ) : Type 0 where
    pub at : ℕ
    pub later : k < at
    pub within : at < n
    pub pulls : act list start at ≡ acts.Pull
    -- "from the chaining to the pull the frame counts as a device's"
    pub device_until : (i : ℕ) → k < i → i ≤ at → own? (frames list start i) ≡ false
    pub own_after : own? (frames list start (suc at)) ≡ true
    -- the return is counted once, and no step between the chaining and the pull is, nor the pull itself
    pub counted : application_steps list start (suc at) ≡ suc (application_steps list start k)
    pub agree : Agree (suc at)

  -- What then holds of it. [01 Resumption; 02 §13]
  pub record Resumes (n : ℕ) : Type 0 where
    -- "before each of its steps", those of SVC's handlers and the chaining step among them
    pub before_step : (k : ℕ) → k < n → application? list start k ≡ true → Agree k
    -- "after its last": after each of them, the last among these, but for a chaining step
    pub after_step : (k : ℕ) → k < n → application? list start k ≡ true → NoChain (act list start k) → Agree (suc k)
    -- of which "its outcome read after the pull"
    pub after_chaining : (k d : ℕ) → k < n → application? list start k ≡ true → act list start k ≡ acts.Chain d
        → ReadAfterPull n k
    -- "and at the run's close"
    pub at_close : Agree n
    -- "The event-free run takes the same traps": step for step it does what the application does ..
    pub same_steps : (k : ℕ) → k < n → application? list start k ≡ true → NoChain (act list start k)
        → act [] start (application_steps list start k) ≡ act list start k
    -- .. and pulls where the application's return is chained
    pub same_return : (k d : ℕ) → k < n → application? list start k ≡ true → act list start k ≡ acts.Chain d
        → act [] start (application_steps list start k) ≡ acts.Pull
