-- What the run call has settled once it refuses nothing (document 01, "Who can be turned back"; document 02, §3): each
-- rule as a fact about the buffers and the step count.
-- Assumes nothing.
use Rattle.std.specs.Prelude.{ℕ, ◌+◌, ◌*◌, ◌/◌, ◌%◌, ◌<◌, ◌≤◌, List, ◌≢◌, ◌≡◌, length}
use Rattle.machine.specs.Memory.{byte_at}
use Rattle.machine.specs.Record.{two_at, four_at}
use Rattle.machine.specs.Events.{event_at, event_count}

-- Each rule by its number. [01 Who can be turned back; 02 §3; 02 §7]
pub record Passed (memory r events : List ℕ) (n : ℕ) : Type 0 where
  -- 1
  pub memory_size : length memory ≡ 65536
  -- 2
  pub few_steps : n ≤ 1000000
  pub count_fits : four_at r 22 + n ≤ 4294967295
  -- 3
  pub record_size : length r ≡ 32
  -- 4
  pub psw_zeros : two_at r 16 / 512 % 16 ≡ 0
  pub cex_small : two_at r 18 < 128
  pub zero_20 : byte_at r 20 ≡ 0
  pub halted_mark : byte_at r 21 < 2
  pub zeros_30 : two_at r 30 ≡ 0
  -- 5
  pub whole_events : length events % 8 ≡ 0
  pub few_events : length events ≤ 32768
  -- 6
  pub devices : (k : ℕ) → k < event_count events → (event_at events k).device < 8
  pub event_zeros : (k : ℕ) → k < event_count events → two_at events (8 * k + 6) ≡ 0
  -- 7
  pub in_order : (j k : ℕ) → j ≤ k → k < event_count events → (event_at events j).step ≤ (event_at events k).step
  -- 13
  pub no_twins : (j k : ℕ) → j < k → k < event_count events → (event_at events j).step ≡ (event_at events k).step
      → (event_at events j).device ≢ (event_at events k).device
