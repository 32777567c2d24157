-- Two records of an event list that share step and device (document 02, §3), as a reader finds them: two places of the
-- list. The laws about them are in proofs/Twins.antt.
-- Assumes nothing.
use Rattle.std.specs.Prelude.{ℕ, ◌<◌, List, ◌≡◌}
use Rattle.machine.specs.Events.{event_at}

-- Places of two records among the first n; their data bytes do not count. [02 §3]
pub record Twins (b : List ℕ) (n : ℕ) : Type 0 where
  pub one : ℕ
  pub other : ℕ
  pub before : one < other
  pub within : other < n
  pub step : (event_at b one).step ≡ (event_at b other).step
  pub device : (event_at b one).device ≡ (event_at b other).device
