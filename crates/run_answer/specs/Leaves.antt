-- What a run leaves: one promise, which every run makes (document 02, §1 and §10).
-- Assumes nothing.
use Rattle.std.specs.Prelude.{ℕ, List, ◌≡◌, length}
use Rattle.machine.specs.declared.Depth.{Depth}
use Rattle.machine.specs.State.{State, state_of}
use Rattle.machine.specs.Events.{events_of}
use Rattle.machine.specs.Logged.{Logged, run_logged, reason_logged}
use Rattle.machine.specs.Call.{room_of, log_after}
use Rattle.machine.specs.Depth.{depth_from}
use Rattle.devices.specs.Cursor.{Behind}
use Rattle.run_answer.specs.declared.Ran.{Ran}

-- the run of n steps from s, with these events and with room in the log that is lent. [02 §1]
abbrev pub run_lent : (events : List ℕ) → State → (lent : List ℕ) → (n : ℕ) → Logged
run_lent events s lent n = run_logged (events_of events) s (room_of lent) n

-- The answer r, the memory and the log are those of that run; the index is past every record that is behind, and the
-- depth is the one that was begun with, carried over the steps done. [01 One step, in order; 02 §1; 02 §10]
pub record RunLeaves
    (events : List ℕ) (s : State) (lent : List ℕ) (begun : Depth) (n : ℕ) (r : Ran) (memory filled : List ℕ) : Type 0 where
  pub state : state_of r.machine memory ≡ (run_lent events s lent n).state
  pub reason : r.reason ≡ reason_logged (run_lent events s lent n)
  pub steps : r.steps ≡ (run_lent events s lent n).steps
  pub added : r.added ≡ length (run_lent events s lent n).records
  pub log : filled ≡ log_after lent (run_lent events s lent n)
  pub next : Behind events r.next r.machine.rest.count
  pub depth : r.depth ≡ depth_from (events_of events) s begun (run_lent events s lent n).steps
