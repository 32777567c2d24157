-- Lengths of a record's parts. Assumes nothing.
use Prim.Native.Nat.{ℕ, zero, suc}
use mathlib.Core.List.{List}
use mathlib.Core.Path.{◌≡◌, refl, ap}
use lib.ListN.{length}
use Rattle.machine.specs.State.{State}
use Rattle.machine.specs.Record.{record_of}
use Rattle.journal.specs.Record.{bytes_from}

pub bytes-length : (m : List ℕ) (a n : ℕ) → length (bytes_from m a n) ≡ n
unfolding bytes_from
bytes-length m a zero = refl
bytes-length m a (suc n) = ap suc (bytes-length m (suc a) n)

pub record-length : (s : State) → length (record_of s) ≡ 32
unfolding record_of
record-length s = refl
