-- Where a record has each device's count (document 02, §7). The proof is proofs/Counts.antt.
-- Assumes nothing.
use Rattle.std.specs.Prelude.{ℕ, ◌+◌, ◌*◌, ◌/◌, ◌%◌, ◌<◌, List, ◌≡◌}
use Rattle.machine.specs.Memory.{byte_at}
use Rattle.machine.specs.Devices.{events_waiting}
use Rattle.machine.specs.Record.{state_in}

-- "bytes 26-29 hold the counts, four bits each, device 0 in the low half of byte 26". [02 §7]
abbrev pub CountsInRecord : Type 0
CountsInRecord =
    (r mem : List ℕ) → ((i : ℕ) → byte_at r i < 256) → (i : ℕ) → i < 4 →
    (events_waiting (state_in r mem).lines (2 * i) ≡ byte_at r (26 + i) % 16)
    × (events_waiting (state_in r mem).lines (2 * i + 1) ≡ byte_at r (26 + i) / 16)
