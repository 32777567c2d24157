-- The eight devices (document 01, "Devices"): device d has its status byte at 2 × d and its data byte above it.
-- Status: IE bit 0, input bit 1, DBA bit 2, OF bit 3, ENA bit 4.
-- Assumes nothing.
use Rattle.std.specs.Prelude.{ℕ, ◌+◌, ◌*◌, ◌-◌, ◌/◌, ◌%◌, ◌^◌, Bool, true, false, cond, not, ◌&&◌, ◌||◌, List, [], ◌∷◌, ◌++◌, eqb, ltb}
use Rattle.word.specs.Psw.{bit_of, put_bit}
use Rattle.machine.specs.State.{State}
use Rattle.machine.specs.Memory.{byte_at, even, low_byte, high_byte, Write, write, commit}
use Rattle.machine.specs.Events.{Event}

-- the addresses of device d, and which addresses are a device's. [01 Devices]
abbrev pub status_of : ℕ → ℕ
status_of d = 2 * d

abbrev pub data_of : ℕ → ℕ
data_of d = 2 * d + 1

abbrev pub device? : ℕ → Bool
device? a = ltb a 16

abbrev pub status? : ℕ → Bool
status? a = device? a && eqb (a % 2) 0

-- the bits of a status byte. [01 Devices]
abbrev pub ie? : ℕ → Bool
ie? t = bit_of 0 t

abbrev pub input? : ℕ → Bool
input? t = bit_of 1 t

abbrev pub dba? : ℕ → Bool
dba? t = bit_of 2 t

abbrev pub of? : ℕ → Bool
of? t = bit_of 3 t

abbrev pub ena? : ℕ → Bool
ena? t = bit_of 4 t

-- Lines: "Each device now holds a count of waiting events that raised its line, 0 to 15", four bits each, device 0
-- lowest; a line waits while its count is above 0. [02 §7, for 01 State and memory]
abbrev pub events_waiting : (l d : ℕ) → ℕ
events_waiting l d = l / 2 ^ (4 * d) % 16

abbrev pub waiting : (l d : ℕ) → Bool
waiting l d = ltb 0 (events_waiting l d)

-- A line that rises counts one more, "staying at 15 when full"; "an acceptance or chained entry takes one".
-- [02 §7, for 01 Devices]
abbrev pub raised : (l d : ℕ) → ℕ
raised l d = cond (ltb (events_waiting l d) 15) (l + 2 ^ (4 * d)) l

abbrev pub fallen : (l d : ℕ) → ℕ
fallen l d = cond (waiting l d) (l - 2 ^ (4 * d)) l

-- An event on an enabled device: an input device takes the byte; OF is set if DBA was set; DBA is set; with IE the
-- line rises. On a device with ENA clear it does nothing. [01 Devices]
abbrev pub event_status : ℕ → ℕ
event_status t = put_bit 2 (put_bit 3 t (of? t || dba? t)) true

abbrev pub event_writes : Event → ℕ → List Write
event_writes e t =
    cond (input? t) (write (data_of e.device) e.byte ∷ []) []
    ++ write (status_of e.device) (event_status t) ∷ []

unfoldable pub event_on : Event → State → State
event_on e s =
    let t = byte_at s.mem (status_of e.device) in
    cond (ena? t)
    (record {
      core = s.core;
      lines = cond (ie? t) (raised s.lines e.device) s.lines;
      halted = s.halted;
      count = s.count;
      mem = commit (event_writes e t) s.mem;
    })
    s

-- Events whose step is k, applied in list order; the others are passed over. [01 One step, in order, 1]
unfoldable pub deliver_at : ℕ → List Event → State → State
deliver_at k [] s = s
deliver_at k (e ∷ es) s = deliver_at k es (cond (eqb e.step k) (event_on e s) s)

abbrev pub deliver : List Event → State → State
deliver ev s = deliver_at s.count ev s

-- "A load touching status gives the byte, then clears DBA and OF." A word's status byte is its first. [01 Devices]
abbrev pub cleared_status : ℕ → ℕ
cleared_status t = put_bit 2 (put_bit 3 t false) false

abbrev pub load_writes : (byte : Bool) → List ℕ → ℕ → List Write
load_writes byte m a =
    let b = cond byte a (even a) in
    cond (status? b) (write b (cleared_status (byte_at m b)) ∷ []) []

-- "A store to status changes bits 0 and 4 only." [01 Devices]
abbrev pub stored_status : ℕ → ℕ → ℕ
stored_status t v = put_bit 4 (put_bit 0 t (bit_of 0 v)) (bit_of 4 v)

-- "A store to data writes it, and on an output device clears DBA." Elsewhere a store only writes. [01 Devices]
abbrev pub byte_writes : List ℕ → ℕ → ℕ → List Write
byte_writes m a v =
    cond (status? a)
    (write a (stored_status (byte_at m a) v) ∷ [])
    (write a v
    ∷ cond (device? a && not (input? (byte_at m (a - 1)))) (write (a - 1) (put_bit 2 (byte_at m (a - 1)) false) ∷ []) [])

-- A word is stored low byte first; the high byte meets the device as the low byte left it. [01 Devices]
abbrev pub store_writes : (byte : Bool) → List ℕ → ℕ → ℕ → List Write
store_writes true m a v = byte_writes m a (low_byte v)
store_writes false m a v =
    byte_writes m (even a) (low_byte v)
    ++ byte_writes (commit (byte_writes m (even a) (low_byte v)) m) (even a + 1) (high_byte v)
