-- A store by an instruction, with what it shows (document 01, "Devices"; document 02, §1, §6).
-- Assumes nothing.
use Rattle.std.specs.Prelude.{◌≡◌, ℕ, ◌+◌, ◌*◌, ◌/◌, ◌≤◌, Bool, false, List, length}
use Rattle.std.proofs.lemmas.List.Edits.{sets}
use Rattle.machine.specs.declared.Access.TheVariants as asks
use Rattle.machine.specs.declared.Act.{Act}
use Rattle.machine.specs.declared.Act.TheVariants as act
use Rattle.machine.specs.State.{State}
use Rattle.machine.specs.Memory.{commit}
use Rattle.machine.specs.Devices.{store_writes}
use Rattle.machine.specs.Effect.{byte_addr}
use Rattle.machine.specs.Step.{odd?}
use Rattle.machine.specs.Log.{logged_of, log_bytes}

abbrev pub storing : (byte : Bool) (at v : ℕ) → Act
storing byte at v = act.Stores byte (byte_addr at) v

-- It is no odd word's; memory, the log's records and bytes are as it leaves them, and the log had room. The memory m,
-- so many records and the log before it, the step count being n; the same with a prime after it. [02 §1; 02 §6]
pub record Stored
    (byte : Bool) (at v n : ℕ) (m : List ℕ) (added : ℕ) (log m' : List ℕ) (added' : ℕ) (log' : List ℕ) : Type 0 where
  pub granted : odd? (asks.Store byte (byte_addr at) v) ≡ false
  pub memory : m' ≡ commit (store_writes byte m at v) m
  pub records : (s : State) → s.mem ≡ m → s.count ≡ n → added' ≡ added + length (logged_of (storing byte at v) s)
  pub bytes : (s : State) → s.mem ≡ m → s.count ≡ n → log' ≡ sets log (8 * added) (log_bytes (logged_of (storing byte at v) s))
  pub room : added' ≤ length log / 8
