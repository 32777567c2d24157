-- A run of n steps (document 01, "One step, in order"): exactly n unless halted first, with its reason and the steps
-- done.
-- Assumes nothing.
use Rattle.std.specs.Prelude.{ℕ, zero, suc, cond, List}
use Rattle.machine.specs.declared.Reason.{Reason}
use Rattle.machine.specs.declared.Reason.TheVariants.{Done, Halted, NoRoom}
use Rattle.machine.specs.State.{State}
use Rattle.machine.specs.Events.{Event}
use Rattle.machine.specs.Step.{step_of}

-- the state that a run reaches and the steps it has done
pub record Run : Type 0 where
  pub state : State
  pub steps : ℕ

abbrev pub ran : State → ℕ → Run
ran s k = record { state = s; steps = k }

-- one step more, unless halted. [01 One step, in order]
abbrev pub further : List Event → Run → Run
further ev r = cond r.state.halted r (ran (step_of ev r.state) (suc r.steps))

-- a run of n. [01 One step, in order]
unfoldable pub run_of : List Event → State → ℕ → Run
run_of ev s zero = ran s 0
run_of ev s (suc n) = further ev (run_of ev s n)

-- "it gives reason 1 if it ends halted, n = 0 included, else 0". [01 One step, in order]
abbrev pub reason_of : Run → Reason
reason_of r = cond r.state.halted Halted Done

-- The papers' number of each reason. [01 One step, in order; 02 §1]
abbrev pub reason_number : Reason → ℕ
reason_number Done = 0
reason_number Halted = 1
reason_number NoRoom = 2
