-- A run in which no event is due, carried on: from what it has reached to what it reaches in so many steps more.
-- Assumes nothing.
use Rattle.std.specs.Prelude.{ℕ, ◌+◌, ◌/◌, false, List, ◌≡◌, length}
use Rattle.machine.specs.declared.Depth.{Depth}
use Rattle.machine.specs.State.{State}
use Rattle.machine.specs.Events.{Event}
use Rattle.machine.specs.Logged.{run_logged}
use Rattle.machine.specs.Depth.{depth_from}
use Rattle.stretch.specs.Stretch.{Undisturbed}
use Rattle.free_run.specs.Reached.{Reached}

-- A run from s₀ at the depth p, with room for k records in the log that was lent, has come in so many steps to the
-- state s, the depth d, the records there and the log as it is now. [01 One step, in order; 02 §1; 02 §10]
pub record Along
    (ev : List Event) (s₀ : State) (k : ℕ) (lent : List ℕ) (p : Depth)
    (s : State) (d : Depth) (there : ℕ) (now : List ℕ) (done : ℕ) : Type 0 where
  pub reached : Reached (run_logged ev s₀ k done) lent s done there now false
  pub depth : d ≡ depth_from ev s₀ p done

-- Any run that has come to s comes to s' in j steps more, where no event is due in the n steps from s on; the room is
-- that of the log as it is at s. [01 One step, in order; 02 §1; 02 §10]
pub record Goes
    (n : ℕ) (s : State) (d : Depth) (there : ℕ) (now : List ℕ)
    (s' : State) (d' : Depth) (there' : ℕ) (now' : List ℕ) (j : ℕ) : Type 0 where
  pub on :
      (ev : List Event) (s₀ : State) (k : ℕ) (lent : List ℕ) (p : Depth) (done : ℕ) →
      Undisturbed ev s.count (s.count + n) → k ≡ length now / 8 →
      Along ev s₀ k lent p s d there now done → Along ev s₀ k lent p s' d' there' now' (done + j)
