-- Which premises of resumption a run breaks, and of each the first step that breaks it, with who broke it (crate
-- resume, specs/Resume.antt, Premises; document 01, "Resumption"; document 02, §13). Each premise has one kind of
-- breach; whether a step makes it is a test of the run itself.
-- Assumes nothing.
use Rattle.std.specs.Prelude.{ℕ, zero, suc, ◌+◌, ◌*◌, Bool, true, false, cond, not, ◌&&◌, ◌||◌, List, [], ◌∷◌, eqb}
use Rattle.word.specs.Width.{bit}
use Rattle.word.specs.Psw.{asleep?}
use Rattle.machine.specs.State.{Core, State, reg, sp, pc}
use Rattle.machine.specs.Events.{Event}
use Rattle.machine.specs.Devices.{device?}
use Rattle.machine.specs.Entry.{frame_byte}
use Rattle.machine.specs.declared.Act.{Act}
use Rattle.machine.specs.declared.Act.TheVariants as acts
use Rattle.resume.specs.Frames.{Frame, none?, own?, accepts_none?, svc?, reads_of, after, due, act, frames, foreign?}

-- The kinds of breach, in the order of the premises: the start is asleep, halted or has a line waiting; a fault; a
-- return with no frame open; SVC while a device's frame is open; a frame that is not closed; a device's frame not found
-- as it is held when it is pulled; the application sets SLP; it reads a device register; it reads a byte last written
-- by a handler or an entry. [01 Resumption; 02 §13; call judge]
pub data Kind : Type 0 where
  started : Kind
  faulted : Kind
  unopened : Kind
  trapped : Kind
  unclosed : Kind
  changed : Kind
  slept : Kind
  device : Kind
  foreign : Kind

-- The handler in a frame: the step that opened the frame, the vector by which it was entered, and the vector of the
-- handler that runs in it, which is another if that was chained onto a device's frame.
-- [01 Entry; 01 Return; call judge]
pub record Handler : Type 0 where
  pub opened : ℕ
  pub vector : ℕ
  pub running : ℕ

abbrev pub handler : (k v w : ℕ) → Handler
handler k v w = record { opened = k; vector = v; running = w }

-- In place of a handler, where the application runs: 16 is no vector. [01 Depth; 02 §13]
abbrev pub application_runs : Handler
application_runs = handler 0 16 16

-- What was found of a kind: whether anything was, the steps done before, a number that says more, the byte that was
-- read or else PC, and the handler that ran. [call judge]
pub record Finding : Type 0 where
  pub found : Bool
  pub step : ℕ
  pub detail : ℕ
  pub address : ℕ
  pub by : Handler

abbrev pub finding : (step detail address : ℕ) → Handler → Finding
finding k x a h = record { found = true; step = k; detail = x; address = a; by = h }

abbrev pub nothing : Finding
nothing = record { found = false; step = 0; detail = 0; address = 0; by = application_runs }

-- ---- acts

-- A fault, halting or not. [01 Faults]
abbrev pub fault? : Act → Bool
fault? acts.Stopped = false
fault? acts.Pull = false
fault? (acts.Chain d) = false
fault? (acts.Accept d) = false
fault? acts.Sleep = false
fault? (acts.Fault v) = true
fault? acts.Halt = true
fault? acts.Skip = false
fault? (acts.Trap v) = false
fault? acts.Plain = false
fault? (acts.Loads byte a d) = false
fault? (acts.Stores byte a v) = false

-- A return that pulls; a return of either kind, pulling or chaining. [01 Return]
abbrev pub pull? : Act → Bool
pull? acts.Stopped = false
pull? acts.Pull = true
pull? (acts.Chain d) = false
pull? (acts.Accept d) = false
pull? acts.Sleep = false
pull? (acts.Fault v) = false
pull? acts.Halt = false
pull? acts.Skip = false
pull? (acts.Trap v) = false
pull? acts.Plain = false
pull? (acts.Loads byte a d) = false
pull? (acts.Stores byte a v) = false

abbrev pub return? : Act → Bool
return? acts.Stopped = false
return? acts.Pull = true
return? (acts.Chain d) = true
return? (acts.Accept d) = false
return? acts.Sleep = false
return? (acts.Fault v) = false
return? acts.Halt = false
return? acts.Skip = false
return? (acts.Trap v) = false
return? acts.Plain = false
return? (acts.Loads byte a d) = false
return? (acts.Stores byte a v) = false

-- The vector by which the act enters; 16 if it enters nothing. [01 Entry]
abbrev pub vector_of : Act → ℕ
vector_of acts.Stopped = 16
vector_of acts.Pull = 16
vector_of (acts.Chain d) = d
vector_of (acts.Accept d) = d
vector_of acts.Sleep = 16
vector_of (acts.Fault v) = v
vector_of acts.Halt = 16
vector_of acts.Skip = 16
vector_of (acts.Trap v) = v
vector_of acts.Plain = 16
vector_of (acts.Loads byte a d) = 16
vector_of (acts.Stores byte a v) = 16

-- ---- what a frame is to be found with

-- R0 to R4, SP, and the eight bytes of the frame that stands at SP p. [01 Resumption]
pub record Kept : Type 0 where
  pub registers : List ℕ
  pub stack : ℕ
  pub bytes : List ℕ

abbrev pub registers_of : Core → List ℕ
registers_of c = reg c 0 ∷ reg c 1 ∷ reg c 2 ∷ reg c 3 ∷ reg c 4 ∷ []

abbrev pub bytes_at : List ℕ → (p : ℕ) → List ℕ
bytes_at m p =
    frame_byte m p 0 ∷ frame_byte m p 1 ∷ frame_byte m p 2 ∷ frame_byte m p 3
    ∷ frame_byte m p 4 ∷ frame_byte m p 5 ∷ frame_byte m p 6 ∷ frame_byte m p 7 ∷ []

abbrev pub kept_at : (p : ℕ) → State → Kept
kept_at p t = record { registers = registers_of t.core; stack = sp t.core; bytes = bytes_at t.mem p }

-- As the state that the frame holds has them. [01 Resumption]
abbrev pub kept_in : State → Kept
kept_in s = kept_at (sp s.core) s

-- A bit for each place in which two lists differ, the first lowest. [01 Resumption]
abbrev pub differing : List ℕ → List ℕ → ℕ
differing [] ys = 0
differing (x ∷ xs) [] = 0
differing (x ∷ xs) (y ∷ ys) = bit (not (eqb x y)) + 2 * differing xs ys

abbrev pub same? : List ℕ → List ℕ → Bool
same? [] ys = true
same? (x ∷ xs) [] = true
same? (x ∷ xs) (y ∷ ys) = eqb x y && same? xs ys

-- What differs between what is held and what is found: bits 0 to 4 are R0 to R4, 5 SP, 6 the frame's bytes.
-- [01 Resumption]
abbrev pub changes_of : (held found : Kept) → ℕ
changes_of h f =
    differing h.registers f.registers
    + 32 * bit (not (eqb h.stack f.stack))
    + 64 * bit (not (same? h.bytes f.bytes))

-- What the state t, in which a pull begins, has changed of what the newest frame holds, if that is a device's.
-- [01 Resumption; 02 §13]
abbrev pub changes : List Frame → State → ℕ
changes [] t = 0
changes (f ∷ fs) t = cond f.own 0 (changes_of (kept_in f.held) (kept_at (sp f.held.core) t))

-- ---- what is read

-- One of the bytes has it; the first that has it, 0 if none has.
abbrev pub some? : (ℕ → Bool) → List ℕ → Bool
some? p [] = false
some? p (a ∷ as') = p a || some? p as'

abbrev pub first_of : (ℕ → Bool) → List ℕ → ℕ
first_of p [] = 0
first_of p (a ∷ as') = cond (p a) a (first_of p as')

-- ---- whose the frames are

-- The newest frame is the application's. [02 §13]
abbrev pub newest_own? : List Frame → Bool
newest_own? [] = false
newest_own? (f ∷ fs) = f.own

abbrev pub pulled_handler : List Handler → List Handler
pulled_handler [] = []
pulled_handler (h ∷ hs) = hs

-- A chaining at step k by vector d: onto the application's frame, which is a device's from then on, or onto a device's.
-- [01 Return; 02 §13]
abbrev pub chained_handler : Bool → (k d : ℕ) → List Handler → List Handler
chained_handler own k d [] = []
chained_handler own k d (h ∷ hs) = cond own (handler k d d) (handler h.opened h.vector d) ∷ hs

-- The handlers in the frames after step k, which does the act, newest first. [01 Entry; 01 Return]
abbrev pub handlers_after : Act → (k : ℕ) → List Frame → List Handler → List Handler
handlers_after acts.Stopped k fs hs = hs
handlers_after acts.Pull k fs hs = pulled_handler hs
handlers_after (acts.Chain d) k fs hs = chained_handler (newest_own? fs) k d hs
handlers_after (acts.Accept d) k fs hs = handler k d d ∷ hs
handlers_after acts.Sleep k fs hs = hs
handlers_after (acts.Fault v) k fs hs = handler k v v ∷ hs
handlers_after acts.Halt k fs hs = hs
handlers_after acts.Skip k fs hs = hs
handlers_after (acts.Trap v) k fs hs = handler k v v ∷ hs
handlers_after acts.Plain k fs hs = hs
handlers_after (acts.Loads byte a d) k fs hs = hs
handlers_after (acts.Stores byte a v) k fs hs = hs

-- Who runs: the handler in the newest frame if that is a device's, else the application. [01 Depth; 02 §13]
abbrev pub who_runs : List Frame → List Handler → Handler
who_runs [] hs = application_runs
who_runs (f ∷ fs) [] = application_runs
who_runs (f ∷ fs) (h ∷ hs) = cond f.own application_runs h

-- The handler in the oldest frame. [01 Depth]
abbrev pub oldest : List Handler → Handler
oldest [] = application_runs
oldest (h ∷ []) = h
oldest (h ∷ (g ∷ hs)) = oldest (g ∷ hs)

-- ---- one step

-- What a step shows: its act, the state in which it begins, its due events applied, and the state that it leaves;
-- whether no frame is open before it, whether no device's frame is; what a pull then finds changed, who runs, and the
-- bytes last written by a handler or an entry. [01 Resumption; 02 §13]
pub record Seen : Type 0 where
  pub act : Act
  pub begins : State
  pub leaves : State
  pub none_open : Bool
  pub own_open : Bool
  pub changes : ℕ
  pub runs : Handler
  pub foreign : ℕ → Bool

-- It is the application's. [01 Depth; 02 §13]
abbrev pub applications? : Seen → Bool
applications? z = z.own_open && accepts_none? z.act

-- The bytes that it reads, if it is. [01 Resumption; 02 §13]
abbrev pub reads_in : Seen → List ℕ
reads_in z = reads_of z.act z.begins.core

-- It makes a breach of this kind; a start and frames left open are no step's. [01 Resumption; 02 §13]
abbrev pub breaks? : Kind → Seen → Bool
breaks? started z = false
breaks? faulted z = fault? z.act
breaks? unopened z = return? z.act && z.none_open
breaks? trapped z = svc? z.act && not z.own_open
breaks? unclosed z = false
breaks? changed z = pull? z.act && not (eqb z.changes 0)
breaks? slept z = applications? z && asleep? z.leaves.core.psw
breaks? device z = applications? z && some? device? (reads_in z)
breaks? foreign z = applications? z && some? z.foreign (reads_in z)

-- The number that says more: the vector of a fault, 16 if it halts, or of SVC; what is changed. [call judge]
abbrev pub detail_of : Kind → Seen → ℕ
detail_of started z = 0
detail_of faulted z = vector_of z.act
detail_of unopened z = 0
detail_of trapped z = vector_of z.act
detail_of unclosed z = 0
detail_of changed z = z.changes
detail_of slept z = 0
detail_of device z = 0
detail_of foreign z = 0

-- The first byte read that is a device register, or last written by a handler or an entry; else PC. [call judge]
abbrev pub address_of : Kind → Seen → ℕ
address_of started z = pc z.begins.core
address_of faulted z = pc z.begins.core
address_of unopened z = pc z.begins.core
address_of trapped z = pc z.begins.core
address_of unclosed z = pc z.begins.core
address_of changed z = pc z.begins.core
address_of slept z = pc z.begins.core
address_of device z = first_of device? (reads_in z)
address_of foreign z = first_of z.foreign (reads_in z)

-- What is told of the step, k having been done before it. [call judge]
abbrev pub finding_of : Kind → (k : ℕ) → Seen → Finding
finding_of κ k z = finding k (detail_of κ z) (address_of κ z) z.runs

-- What was found before a step stays; else what the step breaks is found. Step k shows z. [call judge]
abbrev pub find_after : Kind → (k : ℕ) → Seen → Finding → Finding
find_after κ k z x = cond x.found x (cond (breaks? κ z) (finding_of κ k z) nothing)

-- ---- the findings of a run

-- The start is asleep, halted, or has a line waiting: bits 0, 1 and 2. [01 Resumption; call judge]
abbrev pub start_faults : State → ℕ
start_faults s = bit (asleep? s.core.psw) + 2 * bit s.halted + 4 * bit (not (eqb s.lines 0))

abbrev pub start_finding : State → Finding
start_finding s = cond (eqb (start_faults s) 0) nothing (finding 0 (start_faults s) (pc s.core) application_runs)

-- Frames left open, h in the oldest of them, which is the first that was opened and not closed; the step is the one
-- that opened it. [01 Resumption; call judge]
abbrev pub open_finding : (none_open : Bool) → Handler → Finding
open_finding none h = cond none nothing (finding h.opened 0 0 h)

module _ (ev : List Event) (s : State) where
  -- The handlers in the frames open before step k, newest first. [01 Depth]
  unfoldable pub handlers : ℕ → List Handler
  handlers zero = []
  handlers (suc k) = handlers_after (act ev s k) k (frames ev s k) (handlers k)

  -- What step k shows. [01 Resumption; 02 §13]
  abbrev pub seen : ℕ → Seen
  seen k =
      record {
        act = act ev s k;
        begins = due ev s k;
        leaves = after ev s (suc k);
        none_open = none? (frames ev s k);
        own_open = own? (frames ev s k);
        changes = changes (frames ev s k) (due ev s k);
        runs = who_runs (frames ev s k) (handlers k);
        foreign = foreign? ev s k;
      }

  -- The first breach of a kind in the first n steps. [call judge]
  unfoldable pub first_breach : Kind → ℕ → Finding
  first_breach κ zero = nothing
  first_breach κ (suc n) = find_after κ n (seen n) (first_breach κ n)

  -- What is found of each kind in a run of n. [call judge]
  abbrev pub found_of : Kind → ℕ → Finding
  found_of started n = start_finding s
  found_of faulted n = first_breach faulted n
  found_of unopened n = first_breach unopened n
  found_of trapped n = first_breach trapped n
  found_of unclosed n = open_finding (none? (frames ev s n)) (oldest (handlers n))
  found_of changed n = first_breach changed n
  found_of slept n = first_breach slept n
  found_of device n = first_breach device n
  found_of foreign n = first_breach foreign n

-- The kinds found, a bit for each in the order above, started lowest. [call judge]
abbrev pub kinds_found : (Kind → Finding) → ℕ
kinds_found f =
    bit (f started).found + 2 * bit (f faulted).found + 4 * bit (f unopened).found + 8 * bit (f trapped).found
    + 16 * bit (f unclosed).found + 32 * bit (f changed).found + 64 * bit (f slept).found
    + 128 * bit (f device).found + 256 * bit (f foreign).found
