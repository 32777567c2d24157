-- Frames and whose they are, the application's steps, what they read, and the bytes last written by a handler or an
-- entry (document 01, "Depth" and "Resumption"; document 02, §13). Each is a recursion over the number of steps done
-- that reads the run itself: nothing is carried beside it. What a step does is the act that drives it; what it writes
-- is the list of writes that its memory comes from.
-- Assumes nothing.
use Rattle.std.specs.Prelude.{ℕ, zero, suc, ◌+◌, ◌*◌, ◌<◌, Bool, true, false, cond, not, ◌&&◌, List, [], ◌∷◌, ◌++◌, ◌≡◌, Ok}
use Rattle.machine.specs.State.{Core, State, sp, pc, wrap}
use Rattle.machine.specs.Memory.{writes?, even, span}
use Rattle.machine.specs.Events.{Event}
use Rattle.machine.specs.Devices.{deliver}
use Rattle.machine.specs.Entry.{frame_byte}
use Rattle.machine.specs.declared.Act.{Act}
use Rattle.machine.specs.declared.Act.TheVariants as acts
use Rattle.machine.specs.Step.{plan_of, outcome_of}
use Rattle.machine.specs.Run.{run_of}
use Rattle.machine.specs.Refusal.{verdict_of}
use Rattle.machine_laws.specs.Bounds.{Bytes}

-- "Every accepted start and step count": three byte buffers and a number with which the run call refuses nothing.
-- [01 Who can be turned back]
pub record Start (memory r events : List ℕ) (n : ℕ) : Type 0 where
  pub memory_bytes : Bytes memory
  pub record_bytes : Bytes r
  pub event_bytes : Bytes events
  pub accepted : verdict_of memory r events n ≡ Ok tt

-- A frame holds the state that its entry left: "As entry left them: after that entry's step." It says whether it is the
-- application's: "SVC frames opened while no device frame is open .. count as the application's"; any other is a
-- device's. [01 Depth; 01 Resumption; 02 §13]
pub record Frame : Type 0 where
  pub held : State
  pub own : Bool

-- The frame that holds t. [01 Depth; 02 §13]
abbrev pub frame : State → Bool → Frame
frame t o = record { held = t; own = o }

-- No frame is open. [01 Depth]
abbrev pub none? : List Frame → Bool
none? [] = true
none? (f ∷ fs) = false

-- No device frame is open: each open frame is the application's. [02 §13]
abbrev pub own? : List Frame → Bool
own? [] = true
own? (f ∷ fs) = f.own && own? fs

-- The newest frame closed. [01 Depth]
abbrev pub older : List Frame → List Frame
older [] = []
older (f ∷ fs) = fs

-- The newest frame after a chaining onto it that leaves the state t: "from the chaining to the pull the frame counts as
-- a device's", to be found at the pull as the chained handler found it. (A chaining changes none of R0 to R4, SP and
-- memory, so that the chaining step found the same.) A device's frame stays as it is. [01 Depth; 02 §13]
abbrev pub chained : State → List Frame → List Frame
chained t [] = []
chained t (f ∷ fs) = cond f.own (frame t false) f ∷ fs

-- "An entry that pushes opens a frame; a return that pulls closes the newest open one. A chained entry keeps its frame
-- open." The frames after a step that leaves the state t, newest first. [01 Depth; 02 §13]
abbrev pub frames_after : Act → State → List Frame → List Frame
frames_after acts.Stopped t fs = fs
frames_after acts.Pull t fs = older fs
frames_after (acts.Chain d) t fs = chained t fs
frames_after (acts.Accept d) t fs = frame t false ∷ fs
frames_after acts.Sleep t fs = fs
frames_after (acts.Fault v) t fs = frame t false ∷ fs
frames_after acts.Halt t fs = fs
frames_after acts.Skip t fs = fs
frames_after (acts.Trap v) t fs = frame t (own? fs) ∷ fs
frames_after acts.Plain t fs = fs
frames_after (acts.Loads byte a d) t fs = fs
frames_after (acts.Stores byte a v) t fs = fs

-- A step is taken, and it accepts no line. [01 Depth]
abbrev pub accepts_none? : Act → Bool
accepts_none? acts.Stopped = false
accepts_none? acts.Pull = true
accepts_none? (acts.Chain d) = true
accepts_none? (acts.Accept d) = false
accepts_none? acts.Sleep = true
accepts_none? (acts.Fault v) = true
accepts_none? acts.Halt = true
accepts_none? acts.Skip = true
accepts_none? (acts.Trap v) = true
accepts_none? acts.Plain = true
accepts_none? (acts.Loads byte a d) = true
accepts_none? (acts.Stores byte a v) = true

-- "free of faults .. and returns with no frame open": of returns of either kind, pulling or chaining.
-- [01 Depth; 01 Resumption]
abbrev pub Calm : Act → List Frame → Type 0
Calm acts.Stopped fs = Unit {0}
Calm acts.Pull fs = none? fs ≡ false
Calm (acts.Chain d) fs = none? fs ≡ false
Calm (acts.Accept d) fs = Unit {0}
Calm acts.Sleep fs = Unit {0}
Calm (acts.Fault v) fs = ⊥
Calm acts.Halt fs = ⊥
Calm acts.Skip fs = Unit {0}
Calm (acts.Trap v) fs = Unit {0}
Calm acts.Plain fs = Unit {0}
Calm (acts.Loads byte a d) fs = Unit {0}
Calm (acts.Stores byte a v) fs = Unit {0}

-- The step is an SVC, granted. [01 Depth; 01 Resumption]
abbrev pub svc? : Act → Bool
svc? acts.Stopped = false
svc? acts.Pull = false
svc? (acts.Chain d) = false
svc? (acts.Accept d) = false
svc? acts.Sleep = false
svc? (acts.Fault v) = false
svc? acts.Halt = false
svc? acts.Skip = false
svc? (acts.Trap v) = true
svc? acts.Plain = false
svc? (acts.Loads byte a d) = false
svc? (acts.Stores byte a v) = false

-- The act chains no line. [01 Return]
abbrev pub NoChain : Act → Type 0
NoChain a = (d : ℕ) → a ≡ acts.Chain d → ⊥

-- The bytes that an instruction from the core c fetches and loads: point 7 fetches the word at PC, LD and LDR load each
-- byte that they touch; a skipped word is not fetched. Faults, of which the run is free, are left out. [01 Resumption]
abbrev pub instruction_reads : Act → Core → List ℕ
instruction_reads acts.Stopped c = []
instruction_reads acts.Pull c = []
instruction_reads (acts.Chain d) c = []
instruction_reads (acts.Accept d) c = []
instruction_reads acts.Sleep c = []
instruction_reads (acts.Fault v) c = []
instruction_reads acts.Halt c = []
instruction_reads acts.Skip c = []
instruction_reads (acts.Trap v) c = span false (pc c)
instruction_reads acts.Plain c = span false (pc c)
instruction_reads (acts.Loads byte a d) c = span false (pc c) ++ span byte a.0
instruction_reads (acts.Stores byte a v) c = span false (pc c)

-- The four bytes of vector v. [01 Entry]
abbrev pub vector_span : ℕ → List ℕ
vector_span v = span false (0xFFC0 + 4 * v) ++ span false (0xFFC0 + 4 * v + 2)

-- The eight bytes that a pull at SP s takes: a word access drops bit 0 of its address, and addresses wrap.
-- [01 State and memory; 01 Return]
abbrev pub frame_span : ℕ → List ℕ
frame_span s =
    wrap (even s + 0) ∷ wrap (even s + 1) ∷ wrap (even s + 2) ∷ wrap (even s + 3)
    ∷ wrap (even s + 4) ∷ wrap (even s + 5) ∷ wrap (even s + 6) ∷ wrap (even s + 7) ∷ []

-- "SVC counts as loading its vector, and its return as loading the eight bytes it pulls, wherever SP then stands", the
-- return that is chained too: "the chaining step counts as the application's return". [02 §13]
abbrev pub trap_reads : Act → Core → List ℕ
trap_reads acts.Stopped c = []
trap_reads acts.Pull c = frame_span (sp c)
trap_reads (acts.Chain d) c = frame_span (sp c)
trap_reads (acts.Accept d) c = []
trap_reads acts.Sleep c = []
trap_reads (acts.Fault v) c = []
trap_reads acts.Halt c = []
trap_reads acts.Skip c = []
trap_reads (acts.Trap v) c = vector_span v
trap_reads acts.Plain c = []
trap_reads (acts.Loads byte a d) c = []
trap_reads (acts.Stores byte a v) c = []

-- All bytes that a step of the application from the core c loads or fetches. [01 Resumption; 02 §13]
abbrev pub reads_of : Act → Core → List ℕ
reads_of a c = trap_reads a c ++ instruction_reads a c

-- A step that does a while the frames fs are open is the application's: "A step is the application's if no frame opened
-- since the start is open before it and it accepts no line", where "SVC frames opened while no device frame is open,
-- their pushes, and the steps of their handlers, count as the application's". A chaining onto such a frame is a step of
-- the application, the pull that later closes it is none. [02 §13, for 01 Depth]
abbrev pub own_step? : Act → List Frame → Bool
own_step? a fs = own? fs && accepts_none? a

-- What such a step writes is the application's, SVC's pushes too; "Bytes written by any other step are a handler's or
-- an entry's." [01 Depth; 02 §13]
abbrev pub own_writes? : Act → List Frame → Bool
own_writes? a fs = own_step? a fs

-- The state t has SP and the eight bytes of the frame at that SP as the state s has them. [01 Depth; 01 Resumption]
pub record FrameFound (s t : State) : Type 0 where
  pub stack : sp t.core ≡ sp s.core
  pub bytes : (i : ℕ) → i < 8 → frame_byte t.mem (sp s.core) i ≡ frame_byte s.mem (sp s.core) i

module _ (ev : List Event) (s : State) where
  -- The state of the run from s after k steps. [01 One step, in order]
  abbrev pub after : ℕ → State
  after k = (run_of ev s k).state

  -- The state in which step k acts, its due events applied: "when the pull begins" of a pull. [01 Resumption]
  abbrev pub due : ℕ → State
  due k = deliver ev (after k)

  -- What step k does; of a halted machine, nothing. [01 One step, in order]
  abbrev pub act : ℕ → Act
  act k = (plan_of (due k)).act

  -- The frames opened since the start and open before step k. [01 Depth]
  unfoldable pub frames : ℕ → List Frame
  frames zero = []
  frames (suc k) = frames_after (act k) (after (suc k)) (frames k)

  -- Step k is the application's. [01 Depth; 02 §13]
  abbrev pub application? : ℕ → Bool
  application? k = own_step? (act k) (frames k)

  -- The application's steps among the first k. [01 Resumption]
  unfoldable pub application_steps : ℕ → ℕ
  application_steps zero = zero
  application_steps (suc k) = cond (application? k) (suc (application_steps k)) (application_steps k)

  -- "A byte is last written by the newest step of the run that wrote it, even with the value it had, and by none if
  -- none did." Here: of the first k steps the newest that wrote byte a is a handler's or an entry's. [01 Resumption]
  unfoldable pub foreign? : ℕ → ℕ → Bool
  foreign? zero a = false
  foreign? (suc k) a = cond (writes? (outcome_of (due k)).writes a) (not (own_writes? (act k) (frames k))) (foreign? k a)
