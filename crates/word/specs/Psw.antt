-- The bits of a number, and the fields of the PSW: C bit 0, Z 1, N 2, SLP 3, V 4, current priority 7-5, FLT 8,
-- previous priority 15-13. Assumes nothing.
use Rattle.std.specs.Prelude.{Bool, ℕ, ◌+◌, ◌*◌, ◌/◌, ◌%◌, ◌^◌, eqb}
use Rattle.word.specs.Width.{bit}

-- bit k of p is set. [01 State and memory]
abbrev pub bit_of : (k p : ℕ) → Bool
bit_of k p = eqb (p / 2 ^ k % 2) 1

-- p with b for its bit k. [01 State and memory]
abbrev pub put_bit : (k p : ℕ) → Bool → ℕ
put_bit k p b = p / 2 ^ (k + 1) * 2 ^ (k + 1) + bit b * 2 ^ k + p % 2 ^ k

-- C, as the number that a sum takes in. [01 Arithmetic]
abbrev pub carry_of : ℕ → ℕ
carry_of p = p % 2

-- C is set. [01 State and memory]
abbrev pub carry? : ℕ → Bool
carry? p = bit_of 0 p

-- Z is set. [01 State and memory]
abbrev pub zero? : ℕ → Bool
zero? p = bit_of 1 p

-- N is set. [01 State and memory]
abbrev pub negative? : ℕ → Bool
negative? p = bit_of 2 p

-- V is set. [01 State and memory]
abbrev pub overflow? : ℕ → Bool
overflow? p = bit_of 4 p

-- SLP is set. [01 State and memory]
abbrev pub asleep? : ℕ → Bool
asleep? p = bit_of 3 p

-- FLT is set. [01 State and memory]
abbrev pub faulted? : ℕ → Bool
faulted? p = bit_of 8 p

-- the current priority. [01 State and memory]
abbrev pub current : ℕ → ℕ
current p = p / 32 % 8

-- the previous priority. [01 State and memory]
abbrev pub previous : ℕ → ℕ
previous p = p / 8192 % 8
