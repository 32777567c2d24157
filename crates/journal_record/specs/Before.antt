-- What the code that fills a record relies on (document 02, §8). Assumes nothing.
use Rattle.std.specs.Prelude.{◌≡◌, ℕ, ◌<◌, ◌≤◌, List, length, take}
use Rattle.machine.specs.Memory.{byte_at}

-- The memory b before the step's events: its device bytes are d, its other bytes are still those of the memory m.
-- [02 §8]
pub record Before (b d m : List ℕ) : Type 0 where
  pub size : length b ≡ 65536
  pub devices : d ≡ take 16 b
  pub others : (a : ℕ) → 16 ≤ a → a < 65536 → byte_at m a ≡ byte_at b a
