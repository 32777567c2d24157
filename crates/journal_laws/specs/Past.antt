-- What the journal stands for: the steps taken, newest first (document 02, §8). Assumes nothing.
use Rattle.std.specs.Prelude.{ℕ, zero, suc, ◌<◌, false, cond, List, [], ◌∷◌, ◌≡◌, eqb}
use Rattle.machine.specs.State.{State}
use Rattle.machine.specs.Record.{record_of}
use Rattle.machine.specs.Events.{Event}
use Rattle.machine.specs.Step.{step_of}
use Rattle.machine.specs.Run.{run_of}
use Rattle.machine_laws.specs.Bounds.{Each, Tidy, EventFits}
use Rattle.journal.specs.Record.{journal_record}
use Rattle.journal.specs.Ring.{record_at}
use Rattle.journal.specs.Back.{Lent, lent_of, lowered}

-- One step taken: the state before it, and the event list of its run. [02 §8]
pub record Past : Type 0 where
  pub state : State
  pub events : List Event

abbrev pub past : State → List Event → Past
past s ev = record { state = s; events = ev }

-- the state that the step leaves. [01 One step, in order]
abbrev pub next : Past → State
next t = step_of t.events t.state

-- A step that an accepted call took. [01 Who can be turned back]
pub record Taken (t : Past) : Type 0 where
  pub tidy : Tidy t.state
  pub countable : t.state.count < 4294967295
  pub live : t.state.halted ≡ false
  pub events : Each EventFits t.events

-- What is lent is as the step t left it, and the journal's newest record is that of t. [02 §8]
pub record Newest (x : Lent) (t : Past) : Type 0 where
  pub taken : Taken t
  pub memory : x.memory ≡ (next t).mem
  pub state : x.state ≡ record_of (next t)
  pub entry : record_at x.journal.bytes (lowered x.journal).place ≡ journal_record t.events t.state

-- the state and the memory that the step t found, the journal one back. [02 §8]
abbrev pub rewound : Lent → Past → Lent
rewound x t = lent_of t.state.mem (record_of t.state) (lowered x.journal)

-- The invariant: the journal stands for the newest k of the steps h, newest first. [02 §8]
abbrev pub Recalls : Lent → List Past → ℕ → Type 0
Recalls x h zero = Unit {0}
Recalls x [] (suc k) = ⊥
Recalls x (t ∷ h) (suc k) = Newest x t × Recalls (rewound x t) h k

-- The first n steps of a run from s, newest first, before those of h. [02 §8]
unfoldable pub pasts_of : List Event → State → ℕ → List Past → List Past
pasts_of ev s zero h = h
pasts_of ev s (suc n) h = past (run_of ev s n).state ev ∷ pasts_of ev s n h

-- the events of a list that are due at step k, in list order. [01 One step, in order, 1]
unfoldable pub due_at : ℕ → List Event → List Event
due_at k [] = []
due_at k (e ∷ es) = cond (eqb e.step k) (e ∷ due_at k es) (due_at k es)

-- "each step's due events the same": the list ev has for each of the newest k steps what its own list had. [02 §8]
abbrev pub SameDue : List Event → List Past → ℕ → Type 0
SameDue ev h zero = Unit {0}
SameDue ev [] (suc k) = ⊥
SameDue ev (t ∷ h) (suc k) =
    (due_at t.state.count ev ≡ due_at t.state.count t.events) × SameDue ev h k

-- the state before the oldest of the newest k steps; s where k is 0. [02 §8]
abbrev pub earlier : State → List Past → ℕ → State
earlier s h zero = s
earlier s [] (suc k) = s
earlier s (t ∷ h) (suc k) = earlier t.state h k
