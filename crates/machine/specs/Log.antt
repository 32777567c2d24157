-- What the screen showed (document 02, §1): the records that a step adds to the log. A record is 8 bytes,
-- little-endian, no header: 0-3 the step count before the step, 4 device, 5 byte, 6-7 zero. Assumes nothing.
use Rattle.std.specs.Prelude.{ℕ, ◌%◌, true, false, cond, not, ◌&&◌, List, [], ◌∷◌, ◌++◌, eqb, ltb}
use Rattle.machine.specs.declared.Act.{Act}
use Rattle.machine.specs.declared.Act.TheVariants as act
use Rattle.machine.specs.State.{State}
use Rattle.machine.specs.Memory.{byte_at, low_byte, high_byte, word_number}
use Rattle.machine.specs.Record.{count_byte}
use Rattle.machine.specs.Events.{Event}
use Rattle.machine.specs.Devices.{status_of, input?, ena?, deliver}
use Rattle.machine.specs.Step.{plan_of}

-- one record: the step count before the step, the device, the byte. [02 §1]
pub record Shown : Type 0 where
  pub step : ℕ
  pub device : ℕ
  pub byte : ℕ

abbrev pub shown : (step device byte : ℕ) → Shown
shown n d v = record { step = n; device = d; byte = v }

-- The byte v stored in the data byte of word number d, the step count being n: a record where d is "an output device
-- whose ENA was set before the store", as the memory m has it. [02 §1]
unfoldable pub shown_on : (n : ℕ) → List ℕ → (d v : ℕ) → List Shown
shown_on n m d v =
    let t = byte_at m (status_of d) in
    cond (ltb d 8 && ena? t && not (input? t)) (shown n d v ∷ []) []

-- "A record is added for each store by an instruction to the data byte": of a byte stored at an odd address, and of the
-- high byte of a word. The state is that in which the step acts: its due events applied, nothing stored yet. [02 §1]
abbrev pub logged_of : Act → State → List Shown
logged_of act.Stopped s = []
logged_of act.Pull s = []
logged_of (act.Chain d) s = []
logged_of (act.Accept d) s = []
logged_of act.Sleep s = []
logged_of (act.Fault v) s = []
logged_of act.Halt s = []
logged_of act.Skip s = []
logged_of (act.Trap v) s = []
logged_of act.Plain s = []
logged_of (act.Loads byte a d) s = []
logged_of (act.Stores true a v) s =
    cond (eqb (a.0 % 2) 1) (shown_on s.count s.mem (word_number a.0) (low_byte v)) []
logged_of (act.Stores false a v) s = shown_on s.count s.mem (word_number a.0) (high_byte v)

-- the records that the next step from s would add. [02 §1]
unfoldable pub logged_next : List Event → State → List Shown
logged_next ev s = logged_of (plan_of (deliver ev s)).act (deliver ev s)

-- the eight bytes of a record, and the bytes of several. [02 §1]
abbrev pub shown_bytes : Shown → List ℕ
shown_bytes x =
    count_byte x.step 1 ∷ count_byte x.step 0x100 ∷ count_byte x.step 0x10000 ∷ count_byte x.step 0x1000000
    ∷ x.device ∷ x.byte ∷ 0 ∷ 0 ∷ []

unfoldable pub log_bytes : List Shown → List ℕ
log_bytes [] = []
log_bytes (x ∷ xs) = shown_bytes x ++ log_bytes xs
