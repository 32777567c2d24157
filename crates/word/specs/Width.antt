-- The two widths of an operand, and what a width means for a register. Every later definition takes the width w as a
-- number. Assumes nothing.
use Rattle.std.specs.Prelude.{Bool, true, false, ℕ, ◌+◌, ◌-◌, ◌*◌, ◌/◌, ◌%◌, ◌^◌}
use mir.Val.{bool_byte}

-- 8 bits for a byte form, else 16. [01 Arithmetic]
unfoldable pub width_of : Bool → ℕ
width_of true = 8
width_of false = 16

-- a flag as a number: 1 if set. [01 State and memory]
abbrev pub bit : Bool → ℕ
bit = bool_byte

-- the low w bits of a register. [01 Arithmetic]
abbrev pub low : (w x : ℕ) → ℕ
low w x = x % 2 ^ w

-- a register with v for its low w bits: byte forms keep the high byte. [01 Arithmetic]
abbrev pub with_low : (w x v : ℕ) → ℕ
with_low w x v = x / 2 ^ w * 2 ^ w + v

-- each of the low w bits turned over: "not src". [01 Arithmetic; 003 8.3]
abbrev pub turned : (w x : ℕ) → ℕ
turned w x = 2 ^ w - 1 - low w x
