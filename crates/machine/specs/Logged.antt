-- A run of n steps that is lent a log with room for k records (document 02, §1).
-- Assumes nothing.
use Rattle.std.specs.Prelude.{ℕ, zero, suc, ◌+◌, Bool, true, false, cond, ◌||◌, List, [], ◌++◌, ltb, length}
use Rattle.machine.specs.declared.Reason.{Reason}
use Rattle.machine.specs.declared.Reason.TheVariants.{NoRoom}
use Rattle.machine.specs.State.{State}
use Rattle.machine.specs.Events.{Event}
use Rattle.machine.specs.Step.{step_of}
use Rattle.machine.specs.Run.{Run, ran, run_of, reason_of}
use Rattle.machine.specs.Log.{Shown, logged_next}

-- The state reached, the steps done, the records added, newest last, and whether a step was not taken for want of room.
-- [02 §1]
pub record Logged : Type 0 where
  pub state : State
  pub steps : ℕ
  pub records : List Shown
  pub short : Bool

abbrev pub logged : State → (steps : ℕ) → List Shown → (short : Bool) → Logged
logged s n xs b = record { state = s; steps = n; records = xs; short = b }

-- the run alone, and a run not yet begun
abbrev pub ran_of : Logged → Run
ran_of x = ran x.state x.steps

abbrev pub fresh : State → Logged
fresh s = logged s 0 [] false

-- no further step is taken
abbrev pub over? : Logged → Bool
over? x = x.state.halted || x.short

-- One step more, with room for k records in all. "A step that would need a record past the end is not taken": "memory
-- and state are those before that step, due events not applied". [02 §1]
abbrev pub onward : List Event → (k : ℕ) → Logged → Logged
onward ev k x =
    cond (over? x) x
    (cond (ltb k (length x.records + length (logged_next ev x.state)))
    (logged x.state x.steps x.records true)
    (logged (step_of ev x.state) (suc x.steps) (x.records ++ logged_next ev x.state) false))

-- a run of n with room for k records. [02 §1]
unfoldable pub run_logged : List Event → State → (k n : ℕ) → Logged
run_logged ev s k zero = fresh s
run_logged ev s k (suc n) = onward ev k (run_logged ev s k n)

-- "the run gives reason 2", else the reason of 01. [02 §1]
abbrev pub reason_logged : Logged → Reason
reason_logged x = cond x.short NoRoom (reason_of (ran_of x))

-- the records of the first n steps of the run with no limit. [02 §1]
unfoldable pub records_of : List Event → State → ℕ → List Shown
records_of ev s zero = []
records_of ev s (suc n) = records_of ev s n ++ logged_next ev (run_of ev s n).state

-- a run, and then a run from the state that it left: steps add up, records are joined. [02 §1]
abbrev pub joined : Logged → Logged → Logged
joined x y = logged y.state (x.steps + y.steps) (x.records ++ y.records) y.short
