-- The decimal sum of DADD, digit by digit from the lowest. Assumes nothing.
use Rattle.std.specs.Prelude.{cond, ℕ, zero, suc, ◌+◌, ◌-◌, ◌*◌, ◌/◌, ◌%◌, ◌≤◌, ltb}
use Rattle.word.specs.Width.{bit}
use Rattle.alu.specs.declared.Decimal.{Decimal}

-- the digit that a sum of two digits and a carry leaves: above 9, less 10; kept modulo 16. [01 Arithmetic]
unfoldable pub digit_of : ℕ → ℕ
digit_of s = cond (ltb 9 s) (s - 10) s % 16

-- its carry: 1 above 9. [01 Arithmetic]
unfoldable pub digit_carry : ℕ → ℕ
digit_carry s = bit (ltb 9 s)

-- the digit d below the digits of rest. [01 Arithmetic]
abbrev pub above : ℕ → Decimal → Decimal
above d rest = record { value = d + 16 * rest.value; carry = rest.carry }

-- the sum of the lowest digits of a and b and the carry c. [01 Arithmetic]
unfoldable pub decimal_sum : (digits a b c : ℕ) → Decimal
decimal_sum zero a b c = record { value = 0; carry = c }
decimal_sum (suc n) a b c =
    above (digit_of (a % 16 + b % 16 + c)) (decimal_sum n (a / 16) (b / 16) (digit_carry (a % 16 + b % 16 + c)))

-- ---- what the digits stand for

-- the lowest digits of x, read in base ten. [01 Arithmetic]
abbrev pub decimal_value : (digits x : ℕ) → ℕ
decimal_value zero x = 0
decimal_value (suc n) x = x % 16 + 10 * decimal_value n (x / 16)

-- each of the lowest digits of x is at most 9. [01 Arithmetic]
abbrev pub DecimalDigits : (digits x : ℕ) → Type 0
DecimalDigits zero x = Unit {0}
DecimalDigits (suc n) x = (x % 16 ≤ 9) × DecimalDigits n (x / 16)
