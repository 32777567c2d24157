-- The records of a step's events read off the state before all of them, and event lists in which that is the same: no
-- two records share step and device (document 02, §3).
-- Assumes nothing.
use Rattle.std.specs.Prelude.{ℕ, cond, List, [], ◌∷◌, ◌≢◌, ◌≡◌, eqb}
use Rattle.machine.specs.State.{State}
use Rattle.machine.specs.Events.{Event}
use Rattle.machine_laws.specs.Bounds.{Each}
use Rattle.trace.specs.Trace.{Entry, event_entry}

-- each in the state s, before the step. [call trace]
unfoldable pub events_before : State → ℕ → List Event → List Entry
events_before s k [] = []
events_before s k (e ∷ es) =
    let later = events_before s k es in
    cond (eqb e.step k) (event_entry s s e ∷ later) later

-- "two records share step and device": nowhere. [02 §3]
abbrev pub Apart : List Event → Type 0
Apart [] = Unit {0}
Apart (e ∷ es) = Each (λ (f : Event). f.step ≡ e.step → f.device ≢ e.device) es × Apart es
