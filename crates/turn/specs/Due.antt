-- The step of the next event, so that a step before it looks at no event (document 01, "One step, in order", 1).
-- Assumes nothing.
use Rattle.std.specs.Prelude.{ℕ, cond, List, ◌≡◌, ltb}
use Rattle.machine.specs.Events.{event_at, event_count}
use Rattle.devices.specs.Cursor.{Behind}

-- the step of record k, past every step where there is none. [01 One step, in order, 1]
unfoldable pub due_of : List ℕ → ℕ → ℕ
due_of b k = cond (ltb k (event_count b)) (event_at b k).step 4294967296

-- Before step k: `next` is the first record that is not behind, and `due` its step. [01 One step, in order, 1]
abbrev pub Awaits : List ℕ → (next due k : ℕ) → Type 0
Awaits b next due k = Behind b next k × (due ≡ due_of b next)
