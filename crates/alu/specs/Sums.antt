-- Sums of w bits with a carry in: the value, the carry out, and when the sum overflows. Assumes nothing.
use Rattle.std.specs.Prelude.{Bool, not, ◌&&◌, ℕ, ◌+◌, ◌-◌, ◌%◌, ◌^◌, leb}
use Rattle.std.specs.Bool.{beq}
use Rattle.alu.specs.declared.Sum.{Sum}

-- the sum kept modulo 2 ^ w, and whether it passed it. [01 Arithmetic; 003 8.3]
unfoldable pub add_with_carry : (w a b c : ℕ) → Sum
add_with_carry w a b c = record { value = (a + b + c) % 2 ^ w; carry = leb (2 ^ w) (a + b + c) }

-- the top bit of a number of w bits. [01 Arithmetic]
abbrev pub negative : (w x : ℕ) → Bool
negative w x = leb (2 ^ (w - 1)) x

-- V: both addends have one sign and the result the other. [01 Arithmetic]
abbrev pub differs : (a b r : Bool) → Bool
differs a b r = beq a b && not (beq a r)

-- V of the addends a and b with the result r. [01 Arithmetic]
unfoldable pub overflow_of : (w a b r : ℕ) → Bool
overflow_of w a b r = differs (negative w a) (negative w b) (negative w r)
