-- The 32-byte state record (document 01, "State and memory"; document 02, §7): 0-15 R0 to R7; 16-17 PSW; 18-19 CEX
-- state; 20 zero; 21 halted; 22-25 step count; 26-29 the lines' counts; 30-31 zero; all little-endian.
-- Assumes nothing.
use Rattle.std.specs.Prelude.{ℕ, ◌+◌, ◌*◌, ◌/◌, ◌%◌, List, [], ◌∷◌, eqb}
use mir.Val.{bool_byte}
use Rattle.machine.specs.State.{State, reg, core_of}
use Rattle.machine.specs.Memory.{byte_at, low_byte, high_byte}

-- the number in two bytes, and in four, from byte i of a buffer. [01 State and memory]
abbrev pub two_at : List ℕ → ℕ → ℕ
two_at b i = byte_at b i + 256 * byte_at b (i + 1)

abbrev pub four_at : List ℕ → ℕ → ℕ
four_at b i = two_at b i + 65536 * two_at b (i + 2)

-- The state that a record and a memory hold. The lines are one number, so device 0's count is in "the low half of byte
-- 26". [01 State and memory; 02 §7]
unfoldable pub state_in : (r mem : List ℕ) → State
state_in r mem =
    record {
      core =
          core_of
          (two_at r 0 ∷ two_at r 2 ∷ two_at r 4 ∷ two_at r 6 ∷ two_at r 8 ∷ two_at r 10 ∷ two_at r 12 ∷ two_at r 14 ∷ [])
          (two_at r 16)
          (two_at r 18);
      lines = four_at r 26;
      halted = eqb (byte_at r 21) 1;
      count = four_at r 22;
      mem = mem;
    }

-- the byte of a four-byte number that counts in units of k: the step count's, and the lines'. [01 State and memory]
abbrev pub count_byte : ℕ → ℕ → ℕ
count_byte n k = n / k % 256

-- The record of a state: "byte 20 becomes zero, bytes 26-29 hold the counts". [01 State and memory; 02 §7]
unfoldable pub record_of : State → List ℕ
record_of s =
    let c = s.core in
    low_byte (reg c 0) ∷ high_byte (reg c 0) ∷ low_byte (reg c 1) ∷ high_byte (reg c 1)
    ∷ low_byte (reg c 2) ∷ high_byte (reg c 2) ∷ low_byte (reg c 3) ∷ high_byte (reg c 3)
    ∷ low_byte (reg c 4) ∷ high_byte (reg c 4) ∷ low_byte (reg c 5) ∷ high_byte (reg c 5)
    ∷ low_byte (reg c 6) ∷ high_byte (reg c 6) ∷ low_byte (reg c 7) ∷ high_byte (reg c 7)
    ∷ low_byte c.psw ∷ high_byte c.psw
    ∷ low_byte c.cex ∷ high_byte c.cex
    ∷ 0
    ∷ bool_byte s.halted
    ∷ count_byte s.count 1 ∷ count_byte s.count 0x100
    ∷ count_byte s.count 0x10000 ∷ count_byte s.count 0x1000000
    ∷ count_byte s.lines 1 ∷ count_byte s.lines 0x100
    ∷ count_byte s.lines 0x10000 ∷ count_byte s.lines 0x1000000
    ∷ 0 ∷ 0 ∷ []
