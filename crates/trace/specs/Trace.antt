-- What a step did and what each of its events did, as records of the kinds asked for. A record is 16 bytes,
-- little-endian, no header: 0-3 step count before the step, 4 kind, 5 number, 6-7 address, 8-9 value, 10-11 PC, 12-13
-- SP, 14-15 PSW before the step. "Before the step" is before its due events. What a step does is told by `deliver`,
-- `plan_of` and `step_of` alone.
-- Assumes nothing.
use Rattle.std.specs.Prelude.{ℕ, ◌+◌, ◌*◌, Bool, true, false, cond, List, [], ◌∷◌, ◌++◌, eqb}
use mir.Val.{bool_byte}
use Rattle.word.specs.Psw.{bit_of}
use Rattle.machine.specs.declared.Act.{Act}
use Rattle.machine.specs.declared.Act.TheVariants as act
use Rattle.machine.specs.State.{Core, State, sp, pc}
use Rattle.machine.specs.Memory.{byte_at, low_byte, high_byte, value_at}
use Rattle.machine.specs.Record.{count_byte}
use Rattle.machine.specs.Events.{Event}
use Rattle.machine.specs.Devices.{status_of, ie?, dba?, ena?, events_waiting, event_on, deliver}
use Rattle.machine.specs.Step.{plan_of, step_of}

-- one record. [call trace]
pub record Entry : Type 0 where
  pub step : ℕ
  pub kind : ℕ
  pub number : ℕ
  pub address : ℕ
  pub value : ℕ
  pub pc : ℕ
  pub sp : ℕ
  pub psw : ℕ

-- the record of a step that begins in s, before its events. [call trace]
abbrev pub entry : State → (kind number address value : ℕ) → Entry
entry s k n a v =
    record {
      step = s.count;
      kind = k;
      number = n;
      address = a;
      value = v;
      pc = pc s.core;
      sp = sp s.core;
      psw = s.core.psw;
    }

-- ---- events

-- What an event does to the state that it is applied in: bit 0 taken, bit 1 DBA was set before it, bit 2 it raises its
-- line, bit 3 the device's count was 15 before it; 0 for a device with ENA clear. [call trace]
abbrev pub effect_bits : (status waiting : ℕ) → ℕ
effect_bits t w =
    cond (ena? t) (1 + 2 * bool_byte (dba? t) + 4 * bool_byte (ie? t) + 8 * bool_byte (eqb w 15)) 0

unfoldable pub effect_on : State → (device : ℕ) → ℕ
effect_on t d = effect_bits (byte_at t.mem (status_of d)) (events_waiting t.lines d)

-- the record of an event applied in the state t, in a step that begins in s. [call trace]
abbrev pub event_entry : (s t : State) → Event → Entry
event_entry s t e = entry s 0 e.device (effect_on t e.device) e.byte

-- The events of step k, in list order, each in the state that those before it leave; the others are passed over, as by
-- `deliver_at`. [call trace; 01 One step, in order, 1]
unfoldable pub events_traced : State → ℕ → List Event → State → List Entry
events_traced s k [] t = []
events_traced s k (e ∷ es) t =
    let first = event_entry s t e ∷ events_traced s k es (event_on e t) in
    let later = events_traced s k es t in
    cond (eqb e.step k) first later

-- ---- the act

-- The kind of an act: the constructors of `Act` in its order. `Stopped` is no step's act; it has a kind that cannot be
-- asked for. [call trace]
abbrev pub kind_of : Act → ℕ
kind_of act.Stopped = 12
kind_of act.Pull = 1
kind_of (act.Chain d) = 2
kind_of (act.Accept d) = 3
kind_of act.Sleep = 4
kind_of (act.Fault v) = 5
kind_of act.Halt = 6
kind_of act.Skip = 7
kind_of (act.Trap v) = 8
kind_of act.Plain = 9
kind_of (act.Loads byte a d) = 10
kind_of (act.Stores byte a v) = 11

-- the device, the vector, or one for a byte. [call trace]
abbrev pub number_of : Act → ℕ
number_of act.Stopped = 0
number_of act.Pull = 0
number_of (act.Chain d) = d
number_of (act.Accept d) = d
number_of act.Sleep = 0
number_of (act.Fault v) = v
number_of act.Halt = 0
number_of act.Skip = 0
number_of (act.Trap v) = v
number_of act.Plain = 0
number_of (act.Loads byte a d) = bool_byte byte
number_of (act.Stores byte a v) = bool_byte byte

-- PC after the step where it leaves by a vector or a frame, the byte address of a load or a store. [call trace]
abbrev pub address_of : Act → (after : Core) → ℕ
address_of act.Stopped c = 0
address_of act.Pull c = pc c
address_of (act.Chain d) c = pc c
address_of (act.Accept d) c = pc c
address_of act.Sleep c = 0
address_of (act.Fault v) c = pc c
address_of act.Halt c = 0
address_of act.Skip c = 0
address_of (act.Trap v) c = pc c
address_of act.Plain c = 0
address_of (act.Loads byte a d) c = a.0
address_of (act.Stores byte a v) c = a.0

-- "the instruction's operand that is stored", "a byte's high byte zero". [call trace]
abbrev pub operand_of : (byte : Bool) → ℕ → ℕ
operand_of true v = low_byte v
operand_of false v = v

-- PSW after the step, the value loaded from the memory that the act starts from, or the value stored.
-- [call trace]
abbrev pub value_of : Act → (after : Core) → (mem : List ℕ) → ℕ
value_of act.Stopped c m = 0
value_of act.Pull c m = c.psw
value_of (act.Chain d) c m = c.psw
value_of (act.Accept d) c m = c.psw
value_of act.Sleep c m = 0
value_of (act.Fault v) c m = c.psw
value_of act.Halt c m = 0
value_of act.Skip c m = 0
value_of (act.Trap v) c m = c.psw
value_of act.Plain c m = 0
value_of (act.Loads byte a d) c m = value_at byte m a.0
value_of (act.Stores byte a v) c m = operand_of byte v

-- the record of an act, in a step that begins in s, acts on the memory m and leaves the core c. [call trace]
abbrev pub act_entry : (s : State) → Act → (m : List ℕ) → (c : Core) → Entry
act_entry s a m c = entry s (kind_of a) (number_of a) (address_of a c) (value_of a c m)

-- ---- a step

-- All that the next step from s would add: its events in list order, and then its act. [call trace]
unfoldable pub step_traced : List Event → State → List Entry
step_traced ev s =
    events_traced s s.count ev s
    ++ act_entry s (plan_of (deliver ev s)).act (deliver ev s).mem (step_of ev s).core ∷ []

-- the records of the kinds asked for, bit k of `kinds` for kind k. [call trace]
unfoldable pub asked : (kinds : ℕ) → List Entry → List Entry
asked ks [] = []
asked ks (x ∷ xs) = cond (bit_of x.kind ks) (x ∷ asked ks xs) (asked ks xs)

-- what the next step from s would add. [call trace]
unfoldable pub traced_of : (kinds : ℕ) → List Event → State → List Entry
traced_of ks ev s = asked ks (step_traced ev s)

-- ---- bytes

-- the sixteen bytes of a record, and the bytes of several. [call trace]
abbrev pub entry_bytes : Entry → List ℕ
entry_bytes x =
    count_byte x.step 1 ∷ count_byte x.step 0x100 ∷ count_byte x.step 0x10000 ∷ count_byte x.step 0x1000000
    ∷ x.kind ∷ x.number ∷ low_byte x.address ∷ high_byte x.address
    ∷ low_byte x.value ∷ high_byte x.value
    ∷ low_byte x.pc ∷ high_byte x.pc
    ∷ low_byte x.sp ∷ high_byte x.sp
    ∷ low_byte x.psw ∷ high_byte x.psw ∷ []

unfoldable pub trace_bytes : List Entry → List ℕ
trace_bytes [] = []
trace_bytes (x ∷ xs) = entry_bytes x ++ trace_bytes xs
