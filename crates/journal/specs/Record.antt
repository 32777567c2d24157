-- One record of the journal, 64 bytes (document 02, §8): 0-31 the state record, 32-47 the device bytes, 48-49 an
-- address, 50-57 the eight bytes there, 58-63 zero; all as they are before the step, its due events not applied.
-- Assumes nothing.
use Rattle.std.specs.Prelude.{ℕ, zero, suc, Bool, cond, List, [], ◌∷◌, ◌++◌, take}
use Rattle.std.proofs.Math.Seq.{slice}
use Rattle.machine.specs.declared.Act.{Act}
use Rattle.machine.specs.declared.Act.TheVariants as act
use Rattle.machine.specs.State.{Core, State, wrap}
use Rattle.machine.specs.Memory.{byte_at, even, low_byte, high_byte, Write, write, commit}
use Rattle.machine.specs.Record.{two_at, record_of}
use Rattle.machine.specs.Events.{Event}
use Rattle.machine.specs.Devices.{device?, deliver}
use Rattle.machine.specs.Entry.{pushed}
use Rattle.machine.specs.Step.{Plan, plan_of}

-- the first byte of a store. [01 State and memory]
abbrev pub first_stored : (byte : Bool) → ℕ → ℕ
first_stored byte a = cond byte a (even a)

-- "The address is that of the last word pushed, bit 0 dropped, or of the first byte stored outside the device bytes, or
-- 0." An entry pushes the CEX state last, lowest. [02 §8]
unfoldable pub address_of : Act → Core → ℕ
address_of act.Stopped c = 0
address_of act.Pull c = 0
address_of (act.Chain d) c = 0
address_of (act.Accept d) c = even (pushed c)
address_of act.Sleep c = 0
address_of (act.Fault v) c = even (pushed c)
address_of act.Halt c = 0
address_of act.Skip c = 0
address_of (act.Trap v) c = even (pushed c)
address_of act.Plain c = 0
address_of (act.Loads byte a d) c = 0
address_of (act.Stores byte a v) c = cond (device? (first_stored byte a.0)) 0 (first_stored byte a.0)

-- the address of a step with this plan; what the step from s will do is known once its due events are applied. [02 §8]
abbrev pub address_by : Plan → ℕ
address_by p = address_of p.act p.core

abbrev pub address_in : List Event → State → ℕ
address_in ev s = address_by (plan_of (deliver ev s))

-- n bytes from address a on, "addresses wrapping". [02 §8]
unfoldable pub bytes_from : List ℕ → (a n : ℕ) → List ℕ
bytes_from m a zero = []
bytes_from m a (suc n) = byte_at m (wrap a) ∷ bytes_from m (suc a) n

-- the record with these five fields, and that of the step from s. [02 §8]
unfoldable pub fields_of : (state devices : List ℕ) → (a : ℕ) → (eight : List ℕ) → List ℕ
fields_of state devices a eight =
    state ++ (devices ++ (low_byte a ∷ high_byte a ∷ (eight ++ (0 ∷ 0 ∷ 0 ∷ 0 ∷ 0 ∷ 0 ∷ []))))

unfoldable pub journal_record : List Event → State → List ℕ
journal_record ev s =
    fields_of (record_of s) (bytes_from s.mem 0 16) (address_in ev s) (bytes_from s.mem (address_in ev s) 8)

-- the bytes written from address a on, addresses wrapping. [02 §8]
unfoldable pub placed : ℕ → List ℕ → List Write
placed a [] = []
placed a (x ∷ xs) = write (wrap a) x ∷ placed (suc a) xs

-- A record copied out, "fields in order": the state record, and memory with the device bytes and then the eight bytes
-- at the address; the rest is not looked at. [02 §8]
abbrev pub state_out : List ℕ → List ℕ
state_out e = take 32 e

unfoldable pub memory_out : (e memory : List ℕ) → List ℕ
memory_out e memory =
    commit (placed (two_at e 48) (slice 50 58 e)) (commit (placed 0 (slice 32 48 e)) memory)
