-- Event records (document 01, "State and memory"): 8 bytes each, little-endian, no header: 0-3 step, 4 device, 5 data
-- byte, 6-7 zero.
-- Assumes nothing.
use Rattle.std.specs.Prelude.{ℕ, zero, suc, ◌+◌, ◌*◌, ◌/◌, List, [], ◌∷◌, length}
use Rattle.machine.specs.Memory.{byte_at}
use Rattle.machine.specs.Record.{four_at}

-- one event. [01 State and memory]
pub record Event : Type 0 where
  pub step : ℕ
  pub device : ℕ
  pub byte : ℕ

-- record k of a buffer. [01 State and memory]
unfoldable pub event_at : List ℕ → ℕ → Event
event_at b k = record { step = four_at b (8 * k); device = byte_at b (8 * k + 4); byte = byte_at b (8 * k + 5) }

-- n records from record k on, and all of a buffer's. [01 State and memory]
unfoldable pub events_from : List ℕ → (k n : ℕ) → List Event
events_from b k zero = []
events_from b k (suc n) = event_at b k ∷ events_from b (suc k) n

abbrev pub event_count : List ℕ → ℕ
event_count b = length b / 8

abbrev pub events_of : List ℕ → List Event
events_of b = events_from b 0 (event_count b)
