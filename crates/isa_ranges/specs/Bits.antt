-- The ends of the same ranges by leading bits, as the code has them: proofs/Rows.antt shows that they are the rows'.
-- Each row has the words below its limit that the rows above it leave. Assumes nothing.
use Rattle.std.specs.Prelude.{ℕ, ◌+◌, ◌-◌, ◌*◌, ◌/◌, ◌%◌, cond, ltb}
use Rattle.isa_ranges.specs.declared.Ends.{Ends}

-- The block of a size around w: the words with the same leading bits. [02 §4]
abbrev pub block_of : ℕ → ℕ → Ends
block_of size w = record { first = w / size * size; last = w / size * size + (size - 1) }

-- 4D00 to 4D7F: eight words to an operation, and one gap of three eights for each value of bit 6. [02 §4]
abbrev pub one_ends : ℕ → Ends
one_ends w = cond (ltb (w / 8 % 8) 5) (block_of 8 w) (record { first = w / 64 * 64 + 0x28; last = w / 64 * 64 + 0x3F })

-- 4D80 to 4DFF. [02 §4]
abbrev pub control_ends : ℕ → Ends
control_ends w =
    cond (ltb w 0x4D88) (block_of 8 w)
    (cond (ltb w 0x4DA0) (record { first = 0x4D88; last = 0x4D9F })
    (cond (ltb w 0x4DC0) (block_of 0x10 w)
    (block_of 0x20 w)))

-- 4C00 to 4FFF. [02 §4]
abbrev pub misc_ends : ℕ → Ends
misc_ends w =
    cond (ltb w 0x4D00) (block_of 0x80 w)
    (cond (ltb w 0x4D80) (one_ends w)
    (cond (ltb w 0x4E00) (control_ends w)
    (block_of 0x200 w)))

-- Every word. [02 §4]
abbrev pub bits_ends : ℕ → Ends
bits_ends w =
    cond (ltb w 0x2000) (block_of 0x2000 w)
    (cond (ltb w 0x4000) (block_of 0x400 w)
    (cond (ltb w 0x4C00) (block_of 0x100 w)
    (cond (ltb w 0x5000) (misc_ends w)
    (cond (ltb w 0x6000) (block_of 0x400 w)
    (cond (ltb w 0x8000) (block_of 0x800 w)
    (block_of 0x4000 w))))))
