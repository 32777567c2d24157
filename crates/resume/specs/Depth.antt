-- How many frames can be open together (document 01, "Depth"), in the run of an accepted start, event list and step
-- count.
-- Assumes nothing.
use Rattle.std.specs.Prelude.{ℕ, zero, suc, ◌-◌, ◌<◌, ◌≤◌, Bool, true, false, cond, ◌&&◌, List, [], ◌∷◌, ◌≡◌, ltb, length}
use Rattle.word.specs.Psw.{current}
use Rattle.isa.specs.declared.Instr.{Instr}
use Rattle.isa.specs.declared.Instr.TheVariants as i
use Rattle.isa.specs.Decode.{decode_of}
use Rattle.machine.specs.State.{State, pc}
use Rattle.machine.specs.Memory.{word_at}
use Rattle.machine.specs.Record.{state_in}
use Rattle.machine.specs.Events.{Event, events_of}
use Rattle.machine.specs.Entry.{priority}
use Rattle.machine.specs.declared.Act.{Act}
use Rattle.machine.specs.declared.Act.TheVariants as acts
use Rattle.machine.specs.Step.{plan_of}
use Rattle.resume.specs.Frames.{Start, Frame, FrameFound, Calm, svc?, none?, after, due, act, frames}

-- The instruction is a SETPRI. [01 Depth]
abbrev pub set_pri? : Instr → Bool
set_pri? i.Illegal = false
set_pri? (i.Bl off) = false
set_pri? (i.Branch n off) = false
set_pri? (i.Alu op rc wb src dst) = false
set_pri? (i.Mov wb src dst) = false
set_pri? (i.Swap src dst _) = false
set_pri? (i.Unary op wb dst) = false
set_pri? (i.Swpb dst _) = false
set_pri? (i.Sxt dst _) = false
set_pri? (i.SetPri level) = true
set_pri? (i.Svc v) = false
set_pri? (i.SetCc f) = false
set_pri? (i.ClrCc f) = false
set_pri? (i.Cex n t f) = false
set_pri? (i.Ld prpo dec inc wb src dst) = false
set_pri? (i.St prpo dec inc wb src dst) = false
set_pri? (i.MovImm op b dst) = false
set_pri? (i.Ldr off wb src dst) = false
set_pri? (i.Str off wb src dst) = false

-- The step executes an instruction that is neither skipped nor a fault nor SVC. [01 One step, in order, 7]
abbrev pub executes? : Act → Bool
executes? acts.Stopped = false
executes? acts.Pull = false
executes? (acts.Chain d) = false
executes? (acts.Accept d) = false
executes? acts.Sleep = false
executes? (acts.Fault v) = false
executes? acts.Halt = false
executes? acts.Skip = false
executes? (acts.Trap v) = false
executes? acts.Plain = true
executes? (acts.Loads byte a d) = true
executes? (acts.Stores byte a v) = true

-- The step that acts in s executes a SETPRI. [01 Depth]
abbrev pub sets_priority? : State → Bool
sets_priority? s = executes? (plan_of s).act && set_pri? (decode_of (word_at s.mem (pc s.core)))

-- The lesser of two numbers. [01 Depth]
abbrev pub lesser : ℕ → ℕ → ℕ
lesser a b = cond (ltb a b) a b

-- The priorities of the open frames, newest first: that of the vector by which the handler in the frame was entered,
-- pushing or chained. The list after a step that acts over the memory m. [01 Depth; 01 Entry; 01 Return]
abbrev pub levels_after : Act → List ℕ → List ℕ → List ℕ
levels_after acts.Stopped m ls = ls
levels_after acts.Pull m [] = []
levels_after acts.Pull m (l ∷ ls) = ls
levels_after (acts.Chain d) m [] = []
levels_after (acts.Chain d) m (l ∷ ls) = priority m d ∷ ls
levels_after (acts.Accept d) m ls = priority m d ∷ ls
levels_after acts.Sleep m ls = ls
levels_after (acts.Fault v) m ls = priority m v ∷ ls
levels_after acts.Halt m ls = ls
levels_after acts.Skip m ls = ls
levels_after (acts.Trap v) m ls = priority m v ∷ ls
levels_after acts.Plain m ls = ls
levels_after (acts.Loads byte a d) m ls = ls
levels_after (acts.Stores byte a v) m ls = ls

-- The newest of them; with no frame open p. [01 Depth]
abbrev pub newest : (p : ℕ) → List ℕ → ℕ
newest p [] = p
newest p (l ∷ ls) = l

-- They rise: each lies above the one before it, the oldest above p. [01 Depth]
abbrev pub Rising : (p : ℕ) → List ℕ → Type 0
Rising p [] = Unit {0}
Rising p (l ∷ ls) = (newest p ls < l) × Rising p ls

module _ (ev : List Event) (s : State) where
  -- The priorities of the frames open before step k. [01 Depth]
  unfoldable pub levels : ℕ → List ℕ
  levels zero = []
  levels (suc k) = levels_after (act ev s k) (due ev s k).mem (levels k)

  -- "p the lowest current priority held while no frame is open", before the first of n steps and after each.
  -- [01 Depth]
  unfoldable pub lowest : ℕ → ℕ
  lowest zero = current s.core.psw
  lowest (suc k) =
      cond (none? (frames ev s (suc k))) (lesser (lowest k) (current (after ev s (suc k)).core.psw)) (lowest k)

module _ (memory r events : List ℕ) where
  -- the event list and the state that the buffers hold. [01 State and memory]
  abbrev list : List Event
  list = events_of events

  abbrev start : State
  start = state_in r memory

  -- What a run of n is to keep. [01 Depth]
  pub record DepthPremises (n : ℕ) : Type 0 where
    -- an accepted start, event list and step count
    pub accepted : Start memory r events n
    -- "With no fault, no SVC, .. no return with no frame open"
    pub calm : (k : ℕ) → k < n → Calm (act list start k) (frames list start k)
    pub no_svc : (k : ℕ) → k < n → svc? (act list start k) ≡ false
    -- "no SETPRI in a handler"
    pub no_setpri : (k : ℕ) → k < n → none? (frames list start k) ≡ false → sets_priority? (due list start k) ≡ false
    -- "each pull finding SP and frame as entry left them"
    pub found : (k : ℕ) (f : Frame) (fs : List Frame) → k < n → act list start k ≡ acts.Pull
        → frames list start k ≡ f ∷ fs
        → FrameFound f.held (due list start k)

  -- "at most 7 − p frames are open together". [01 Depth]
  abbrev pub Shallow : ℕ → Type 0
  Shallow n = (k : ℕ) → k ≤ n → length (frames list start k) ≤ 7 - lowest list start n

  -- The priorities of open frames rise from p on, whence their bound. [01 Depth]
  abbrev pub PrioritiesRise : ℕ → Type 0
  PrioritiesRise n = (k : ℕ) → k ≤ n → Rising (lowest list start n) (levels list start k)
