-- How far below the application's SP the handlers' stacks reach (document 02, §9), in the run of an accepted start,
-- event list and step count: demand 2's run, at the byte buffers of the run call.
-- Assumes nothing.
use Rattle.std.specs.Prelude.{ℕ, zero, suc, ◌+◌, ◌%◌, ◌<◌, ◌≤◌, Bool, true, false, cond, List, [], ◌∷◌, ◌⊎◌, ◌≡◌}
use Rattle.machine.specs.State.{State, sp, down}
use Rattle.machine.specs.Memory.{byte_at, writes?}
use Rattle.machine.specs.Record.{state_in}
use Rattle.machine.specs.Events.{Event, events_of}
use Rattle.machine.specs.declared.Act.{Act}
use Rattle.machine.specs.declared.Act.TheVariants as acts
use Rattle.machine.specs.Step.{outcome_of}
use Rattle.resume.specs.Frames.{none?, after, due, act, frames}
use Rattle.resume.specs.Depth.{lowest, DepthPremises}
use Rattle.stack_need.specs.Need.{given?, use_of, need_of, need_refused?}

-- How far x lies below y: downwards, modulo 65,536. [02 §9; 01 State and memory]
abbrev pub below : (y x : ℕ) → ℕ
below y x = down y x

-- The handler that runs in an open frame: the vector of its entry, and SP as that entry left it. [02 §9]
pub record Handler : Type 0 where
  pub vector : ℕ
  pub left : ℕ

-- An entry that pushes adds a handler, a chained entry takes the newest one's place, a return that pulls ends it. The
-- handlers after a step that leaves the state t, newest first. [01 Depth; 02 §9]
abbrev pub handlers_after : Act → State → List Handler → List Handler
handlers_after acts.Stopped t hs = hs
handlers_after acts.Pull t [] = []
handlers_after acts.Pull t (h ∷ hs) = hs
handlers_after (acts.Chain d) t [] = []
handlers_after (acts.Chain d) t (h ∷ hs) = record { vector = d; left = sp t.core } ∷ hs
handlers_after (acts.Accept d) t hs = record { vector = d; left = sp t.core } ∷ hs
handlers_after acts.Sleep t hs = hs
handlers_after (acts.Fault v) t hs = record { vector = v; left = sp t.core } ∷ hs
handlers_after acts.Halt t hs = hs
handlers_after acts.Skip t hs = hs
handlers_after (acts.Trap v) t hs = record { vector = v; left = sp t.core } ∷ hs
handlers_after acts.Plain t hs = hs
handlers_after (acts.Loads byte a d) t hs = hs
handlers_after (acts.Stores byte a v) t hs = hs

-- The step enters the handler of device d, pushing or chained. [02 §9]
abbrev pub Enters : Act → ℕ → Type 0
Enters a d = (a ≡ acts.Accept d) ⊎ (a ≡ acts.Chain d)

-- The step is a return, pulling or chaining. [02 §9]
abbrev pub return? : Act → Bool
return? acts.Stopped = false
return? acts.Pull = true
return? (acts.Chain d) = true
return? (acts.Accept d) = false
return? acts.Sleep = false
return? (acts.Fault v) = false
return? acts.Halt = false
return? acts.Skip = false
return? (acts.Trap v) = false
return? acts.Plain = false
return? (acts.Loads byte a d) = false
return? (acts.Stores byte a v) = false

-- The step is the running code's own: it neither enters nor returns. [02 §9]
abbrev pub works? : Act → Bool
works? acts.Stopped = false
works? acts.Pull = false
works? (acts.Chain d) = false
works? (acts.Accept d) = false
works? acts.Sleep = true
works? (acts.Fault v) = false
works? acts.Halt = false
works? acts.Skip = true
works? (acts.Trap v) = false
works? acts.Plain = true
works? (acts.Loads byte a d) = true
works? (acts.Stores byte a v) = true

module _ (ev : List Event) (s : State) where
  -- The handlers that run in the open frames before step k. [02 §9]
  unfoldable pub handlers : ℕ → List Handler
  handlers zero = []
  handlers (suc k) = handlers_after (act ev s k) (after ev s (suc k)) (handlers k)

  -- "the application's SP when the outermost frame opened": SP before the newest of the first k steps that began with
  -- no frame open; while a frame is open that step accepted the outermost one. [02 §9]
  unfoldable pub opened : ℕ → ℕ
  opened zero = sp s.core
  opened (suc k) = cond (none? (frames ev s k)) (sp (due ev s k).core) (opened k)

module _ (memory r events vectors : List ℕ) (devices : ℕ) (uses : List ℕ) (p : ℕ) where
  -- the event list and the state that the buffers hold. [01 State and memory]
  abbrev list : List Event
  list = events_of events

  abbrev start : State
  start = state_in r memory

  -- What a run of n is to keep, however "below" is measured. [02 §9]
  pub record RunPremises (n : ℕ) : Type 0 where
    -- "meet document 01's conditions on depth"
    pub depth : DepthPremises memory r events n
    -- the call gives a figure
    pub not_refused : need_refused? vectors uses p ≡ false
    -- "With vectors unaltered": the 64 bytes at #FFC0 are those given throughout
    pub unaltered : (k i : ℕ) → k ≤ n → i < 64 → byte_at (after list start k).mem (0xFFC0 + i) ≡ byte_at vectors i
    -- "SP even at each entry"
    pub even_entry : (k d : ℕ) → k < n → act list start k ≡ acts.Accept d → sp (due list start k).core % 2 ≡ 0
    -- "only these devices' lines accepted or chained"
    pub only_given : (k d : ℕ) → k < n → Enters (act list start k) d → given? devices d ≡ true
    -- "document 01's p not below this one"
    pub not_below : p ≤ lowest list start n
    -- "hand SP back at each return", chaining ones included
    pub handed_back : (k : ℕ) (h : Handler) (hs : List Handler) → k < n → return? (act list start k) ≡ true
        → handlers list start k ≡ h ∷ hs
        → sp (due list start k).core ≡ h.left

  -- "handlers that hold SP no further below where entry left it than their figure", after each step of their own,
  -- downwards modulo 65,536: SP above where entry left it lies nearly 65,536 below. [02 §9]
  pub record StackPremises (n : ℕ) : Type 0 where
    pub run : RunPremises n
    pub held : (k : ℕ) (h : Handler) (hs : List Handler) → k < n → works? (act list start k) ≡ true
        → handlers list start k ≡ h ∷ hs
        → below h.left (sp (after list start (suc k)).core) ≤ use_of uses h.vector

  -- The same in plain numbers: SP may stand above where entry left it, by any number of bytes, as where a handler reads
  -- its frame by LD SP+,R0. An SP that has passed 0 is a great number, and lies below nothing. [02 §9]
  pub record PlainPremises (n : ℕ) : Type 0 where
    pub run : RunPremises n
    pub held_plainly : (k : ℕ) (h : Handler) (hs : List Handler) → k < n → works? (act list start k) ≡ true
        → handlers list start k ≡ h ∷ hs
        → h.left ≤ use_of uses h.vector + sp (after list start (suc k)).core

  -- What then holds of it. [02 §9]
  pub record Within (n : ℕ) : Type 0 where
    -- "no handler's SP .. lies further below the application's SP when the outermost frame opened": after every step
    -- while a frame is open
    pub stack : (k : ℕ) → k ≤ n → none? (frames list start k) ≡ false
        → below (opened list start k) (sp (after list start k).core) ≤ need_of vectors devices uses p
    -- "and no pushed byte": of an entry
    pub pushes : (k d a : ℕ) → k < n → act list start k ≡ acts.Accept d
        → writes? (outcome_of (due list start k)).writes a ≡ true
        → below (opened list start (suc k)) a ≤ need_of vectors devices uses p

  -- The same in plain numbers. [02 §9]
  pub record PlainWithin (n : ℕ) : Type 0 where
    pub stack : (k : ℕ) → k ≤ n → none? (frames list start k) ≡ false
        → opened list start k ≤ need_of vectors devices uses p + sp (after list start k).core
    pub pushes : (k d a : ℕ) → k < n → act list start k ≡ acts.Accept d
        → writes? (outcome_of (due list start k)).writes a ≡ true
        → opened list start (suc k) ≤ need_of vectors devices uses p + a
