-- The flags of a stretch of instructions, kept as what they come from: `last`, a result, whose low 16 bits are 0 where Z
-- is set, and whose bit 15 or bit 18 is N; `sum`, whose bit 16 is C; `over`, whose bit 15 is V. Bit 18 is for an N that is
-- not of the result that Z is of. Assumes nothing.
use Rattle.std.specs.Prelude.{Bool, ◌||◌, ℕ, ◌%◌, eqb}
use Rattle.word.specs.Psw.{bit_of, put_bit}
use Rattle.flags.specs.declared.Kept.{Kept}

-- Z and N of `last`. [01 Arithmetic]
abbrev pub nothing? : ℕ → Bool
nothing? last = eqb (last % 65536) 0

abbrev pub minus? : ℕ → Bool
minus? last = bit_of 15 last || bit_of 18 last

-- p with c for C, z for Z, n for N and v for V; its other bits stay. [01 State and memory]
abbrev pub flagged : ℕ → (c z n v : Bool) → ℕ
flagged p c z n v = put_bit 4 (put_bit 2 (put_bit 1 (put_bit 0 p c) z) n) v

-- the PSW p with its flags as they are kept. [01 State and memory]
unfoldable pub held : (p last sum over : ℕ) → ℕ
held p last sum over = flagged p (bit_of 16 sum) (nothing? last) (minus? last) (bit_of 15 over)

-- the same, of the three numbers together. [01 State and memory]
abbrev pub held_in : (p : ℕ) → Kept → ℕ
held_in p kept = held p kept.last kept.sum kept.over
