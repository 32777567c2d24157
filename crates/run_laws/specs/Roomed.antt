-- A run of n steps with room for k records, whatever a step adds: a step whose records would pass the end is not taken.
-- The trace is defined by it; the run with a log (crate machine, specs/Logged.antt; document 02, §1) is it with the
-- records that a step logs (proofs/Room.antt, logged-is), so that their laws are said once.
-- Assumes nothing.
use Rattle.std.specs.Prelude.{ℕ, zero, suc, ◌+◌, Bool, true, false, cond, ◌||◌, List, [], ◌++◌, ltb, length}
use Rattle.machine.specs.State.{State}
use Rattle.machine.specs.Events.{Event}
use Rattle.machine.specs.Step.{step_of}
use Rattle.machine.specs.Run.{Run, ran, run_of}

-- The state reached, the steps done, the records added, newest last, and whether a step was not taken for want of room.
-- [02 §1; call trace]
pub record Roomed (A : Type 0) : Type 0 where
  pub state : State
  pub steps : ℕ
  pub records : List A
  pub short : Bool

module _ {A : Type 0} where
  abbrev pub roomed : State → (steps : ℕ) → List A → (short : Bool) → Roomed A
  roomed s n xs b = record { state = s; steps = n; records = xs; short = b }

  -- the run alone, and a run not yet begun
  abbrev pub ran_of : Roomed A → Run
  ran_of x = ran x.state x.steps

  abbrev pub fresh : State → Roomed A
  fresh s = roomed s 0 [] false

  -- no further step is taken
  abbrev pub over? : Roomed A → Bool
  over? x = x.state.halted || x.short

  -- a run, and then a run from the state that it left: steps add up, records are joined. [02 §1; call trace]
  abbrev pub joined : Roomed A → Roomed A → Roomed A
  joined x y = roomed y.state (x.steps + y.steps) (x.records ++ y.records) y.short

-- `adds` are the records that the next step from a state would add.
module _ {A : Type 0} (adds : State → List A) (ev : List Event) where
  -- One step more, with room for k records in all. "A step that would need a record past the end is not taken": "memory
  -- and state are those before that step, due events not applied". [02 §1; call trace]
  abbrev pub onward : (k : ℕ) → Roomed A → Roomed A
  onward k x =
      cond (over? x) x
      (cond (ltb k (length x.records + length (adds x.state)))
      (roomed x.state x.steps x.records true)
      (roomed (step_of ev x.state) (suc x.steps) (x.records ++ adds x.state) false))

  -- a run of n with room for k records. [02 §1; call trace]
  unfoldable pub run_roomed : State → (k n : ℕ) → Roomed A
  run_roomed s k zero = fresh s
  run_roomed s k (suc n) = onward k (run_roomed s k n)

  -- the records of the first n steps of the run with no limit. [02 §1; call trace]
  unfoldable pub records_of : State → ℕ → List A
  records_of s zero = []
  records_of s (suc n) = records_of s n ++ adds (run_of ev s n).state
