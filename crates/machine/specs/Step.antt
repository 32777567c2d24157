-- One step of the machine, in the seven points of document 01, "One step, in order". A plan reads the state and says
-- what the step does; its performance gives what the step leaves, memory's change being a list of byte writes.
-- Assumes nothing.
use Rattle.std.specs.Prelude.{ℕ, ◌+◌, ◌%◌, Bool, true, false, cond, not, ◌&&◌, ◌||◌, List, [], eqb, ltb, set}
use Rattle.word.specs.Psw.{asleep?, faulted?, current, previous}
use Rattle.isa.specs.Decode.{decode_of}
use Rattle.machine.specs.declared.Access.{Access}
use Rattle.machine.specs.declared.Access.TheVariants.{Nothing, Load, Store, Fault, Trap}
use Rattle.machine.specs.declared.Act.{Act}
use Rattle.machine.specs.declared.Act.TheVariants as act
use Rattle.machine.specs.State.{Core, State, sp, pc, wrap}
use Rattle.machine.specs.Memory.{word_at, Write, commit, value_at}
use Rattle.machine.specs.Events.{Event}
use Rattle.machine.specs.Devices.{fallen, deliver, load_writes, store_writes}
use Rattle.machine.specs.Cex.{skips?, lowered}
use Rattle.machine.specs.Entry.{priority, best, above, vectored, pushed, pushes, pulled}
use Rattle.machine.specs.Effect.{Effect, effect_of, loaded}

-- the act, and the core that it starts from
pub record Plan : Type 0 where
  pub core : Core
  pub act : Act

abbrev pub planned : Core → Act → Plan
planned c a = record { core = c; act = a }

-- Points 2 and 3: "SLP clear and PC = #FFFF: return", else the best line is accepted "if that priority is above the
-- PSW's". A return that finds a line above the previous priority enters it instead.
-- [01 One step, in order, 2, 3; 01 Return]
pub data Interrupt : Type 0 where
  pulls : Interrupt
  chains : (d : ℕ) → Interrupt
  accepts : (d : ℕ) → Interrupt
  nothing : Interrupt

abbrev pub returns? : Core → Bool
returns? c = not (asleep? c.psw) && eqb (pc c) 0xFFFF

unfoldable pub interrupt_of : Core → (lines : ℕ) → List ℕ → Interrupt
interrupt_of c l m =
    let d = best l m in
    cond (returns? c)
    (cond (above m d (previous c.psw)) (chains d) pulls)
    (cond (above m d (current c.psw)) (accepts d) nothing)

-- PC past the instruction, its CEX count lowered. [01 One step, in order, 6, 7; 01 CEX]
unfoldable pub advanced : Core → Core
advanced c = record { regs = set c.regs 7 (wrap (pc c + 2)); psw = c.psw; cex = lowered c.cex }

-- A fault v from the core c; with FLT set it halts and leaves the core as it was before the step. [01 Faults]
abbrev pub faulting : (before c : Core) → ℕ → Plan
faulting before c v = cond (faulted? before.psw) (planned before act.Halt) (planned c (act.Fault v))

-- What an instruction asks for, by its kind: SVC to a vector whose priority is not above the current one is fault 10. A
-- faulting instruction changes nothing besides its CEX count and PC. [01 Faults]
abbrev pub allowed : (before x : Core) → Access → List ℕ → Plan
allowed c x Nothing m = planned x act.Plain
allowed c x (Load byte a d) m = planned x (act.Loads byte a d)
allowed c x (Store byte a v) m = planned x (act.Stores byte a v)
allowed c x (Fault v) m = faulting c (advanced c) v
allowed c x (Trap v) m =
    cond (ltb (current c.psw) (priority m v)) (planned x (act.Trap v)) (faulting c (advanced c) 10)

-- A word access at an odd address: the effective one, after pre-adjustment or offset. [02 §6]
abbrev pub odd? : Access → Bool
odd? Nothing = false
odd? (Load byte a d) = not byte && eqb (a.0 % 2) 1
odd? (Store byte a v) = not byte && eqb (a.0 % 2) 1
odd? (Fault v) = false
odd? (Trap v) = false

-- What an instruction asks for, granted. "Word loads and stores by instructions at odd addresses now raise fault 9,
-- pushing the address after the instruction; neither register, memory nor auto-adjustment takes effect."
-- [02 §6, for 01 State and memory]
unfoldable pub granted : (before x : Core) → Access → List ℕ → Plan
granted c x a m = cond (odd? a) (faulting c (advanced c) 9) (allowed c x a m)

abbrev pub executed : Core → Effect → List ℕ → Plan
executed c e m = granted c e.core e.access m

-- Points 4 to 7: asleep, odd PC, a CEX block that skips, else fetch, decode, execute. [01 One step, in order, 4 to 7]
unfoldable pub instruction_of : Core → List ℕ → Plan
instruction_of c m =
    cond (asleep? c.psw) (planned c act.Sleep)
    (cond (eqb (pc c % 2) 1) (faulting c c 9)
    (cond (skips? c.cex) (planned (advanced c) act.Skip)
    (executed c (effect_of (advanced c) (decode_of (word_at m (pc c)))) m)))

abbrev pub chosen : Interrupt → Core → Plan → Plan
chosen pulls c p = planned c act.Pull
chosen (chains d) c p = planned c (act.Chain d)
chosen (accepts d) c p = planned c (act.Accept d)
chosen nothing c p = p

-- the plan of a state whose due events are applied
unfoldable pub plan_of : State → Plan
plan_of s =
    cond s.halted (planned s.core act.Stopped)
    (chosen (interrupt_of s.core s.lines s.mem) s.core (instruction_of s.core s.mem))

-- what a step leaves: core, lines, halted mark, and the bytes that it writes, in order
pub record Outcome : Type 0 where
  pub core : Core
  pub lines : ℕ
  pub halted : Bool
  pub writes : List Write

abbrev pub outcome : Core → ℕ → List Write → Outcome
outcome c l ws = record { core = c; lines = l; halted = false; writes = ws }

-- An entry that pushes: the vector is read before the pushes; previous priority is the old current; FLT is set exactly
-- if it was set or this is a fault. [01 Entry]
abbrev pub entered : Core → List ℕ → ℕ → (fault : Bool) → Core
entered c m v f = vectored c m v (current c.psw) (f || faulted? c.psw) (pushed c)

-- A chained entry pushes nothing and keeps the previous priority. [01 Return]
abbrev pub chained : Core → List ℕ → ℕ → Core
chained c m v = vectored c m v (previous c.psw) (faulted? c.psw) (sp c)

-- An acceptance and a chained entry take one from the line's count; SVC takes none.
-- [02 §7, for 01 Devices; 01 Entry; 01 Return; 01 Faults]
unfoldable pub perform : Act → Core → (lines : ℕ) → List ℕ → Outcome
perform act.Stopped c l m = record { core = c; lines = l; halted = true; writes = [] }
perform act.Pull c l m = outcome (pulled c m) l []
perform (act.Chain d) c l m = outcome (chained c m d) (fallen l d) []
perform (act.Accept d) c l m = outcome (entered c m d false) (fallen l d) (pushes c)
perform act.Sleep c l m = outcome c l []
perform (act.Fault v) c l m = outcome (entered c m v true) l (pushes c)
perform act.Halt c l m = record { core = c; lines = l; halted = true; writes = [] }
perform act.Skip c l m = outcome c l []
perform (act.Trap v) c l m = outcome (entered c m v false) l (pushes c)
perform act.Plain c l m = outcome c l []
perform (act.Loads byte a d) c l m = outcome (loaded c byte d (value_at byte m a.0)) l (load_writes byte m a.0)
perform (act.Stores byte a v) c l m = outcome c l (store_writes byte m a.0 v)

-- the outcome of the step that begins in s, its due events applied
abbrev pub outcome_of : State → Outcome
outcome_of s = perform (plan_of s).act (plan_of s).core s.lines s.mem

-- what an outcome makes of the memory m and the count n. "The step count then gains 1." [01 One step, in order]
abbrev pub closed : Outcome → (n : ℕ) → List ℕ → State
closed o n m =
    record { core = o.core; lines = o.lines; halted = o.halted; count = n + 1; mem = commit o.writes m }

abbrev pub finished : State → State
finished s = closed (outcome_of s) s.count s.mem

-- One step with the event list: point 1, then the plan and its outcome. "A halted machine takes no step."
-- [01 One step, in order]
unfoldable pub step_of : List Event → State → State
step_of ev s = cond s.halted s (finished (deliver ev s))
