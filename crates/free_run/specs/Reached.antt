-- What a run has reached, as the loop holds it: a definition's run in its parts (document 02, §1).
-- Assumes nothing.
use Rattle.std.specs.Prelude.{ℕ, Bool, List, ◌≡◌, length}
use Rattle.machine.specs.State.{State}
use Rattle.machine.specs.Logged.{Logged}
use Rattle.machine.specs.Call.{log_after}

-- The state s, the steps done, the records there, the log that was lent as it is now, and whether the run was stopped
-- for want of room are those of x. [01 One step, in order; 02 §1]
pub record Reached
    (x : Logged) (lent : List ℕ) (s : State) (done there : ℕ) (now : List ℕ) (stopped : Bool) : Type 0 where
  pub state : s ≡ x.state
  pub steps : done ≡ x.steps
  pub added : there ≡ length x.records
  pub log : now ≡ log_after lent x
  pub short : stopped ≡ x.short
