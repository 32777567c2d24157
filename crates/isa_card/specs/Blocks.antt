-- The words of each operation by its number, as the code has them: proofs/Blocks.antt shows that they are the rows'.
-- Each row has the numbers below its limit that the rows above it leave. Assumes nothing.
use Rattle.std.specs.Prelude.{ℕ, ◌+◌, ◌-◌, ◌*◌, Bool, false, cond, List, [], ◌∷◌, ltb, Option, Some, None}
use Rattle.isa_card.specs.declared.Block.{Block}

-- Block n of blocks of a size that follow each other from a word on. [02 §11]
abbrev pub nth_block : ℕ → ℕ → ℕ → Block
nth_block n first size = record { first = first + n * size; size = size }

-- MOV to CLRCC. [02 §11; 003 14]
abbrev pub misc_block : ℕ → Block
misc_block o =
    cond (ltb o 23) (nth_block (o - 22) 0x4C00 0x80)
    (cond (ltb o 24) (nth_block (o - 23) 0x4C80 0x80)
    (cond (ltb o 29) (nth_block (o - 24) 0x4D00 8)
    (cond (ltb o 30) (nth_block (o - 29) 0x4D80 8)
    (cond (ltb o 31) (nth_block (o - 30) 0x4DA0 0x10)
    (nth_block (o - 31) 0x4DC0 0x20)))))

-- Operations 1 to 41. [02 §11; 003 14]
abbrev pub block_of : ℕ → Block
block_of o =
    cond (ltb o 2) (nth_block (o - 1) 0 0x2000)
    (cond (ltb o 10) (nth_block (o - 2) 0x2000 0x400)
    (cond (ltb o 22) (nth_block (o - 10) 0x4000 0x100)
    (cond (ltb o 33) (misc_block o)
    (cond (ltb o 34) (nth_block (o - 33) 0x5000 0x400)
    (cond (ltb o 36) (nth_block (o - 34) 0x5800 0x400)
    (cond (ltb o 40) (nth_block (o - 36) 0x6000 0x800)
    (nth_block (o - 40) 0x8000 0x4000)))))))

-- SRA to SXT have a second block, 64 words above the first. [02 §11; 003 14]
abbrev pub is_twice : ℕ → Bool
is_twice o = cond (ltb o 24) false (ltb o 29)

-- The blocks of an operation, rising. [02 §11; 003 14]
abbrev pub above_block : Block → Block
above_block b = record { first = b.first + 64; size = b.size }

abbrev pub blocks_of : ℕ → List Block
blocks_of o = block_of o ∷ cond (is_twice o) (above_block (block_of o) ∷ []) []

-- The greater of two words, and the first word at or above w of blocks that rise. [02 §11]
abbrev pub at_least : ℕ → ℕ → ℕ
at_least w first = cond (ltb w first) first w

abbrev pub first_among : List Block → ℕ → Option ℕ
first_among [] w = None
first_among (b ∷ rest) w = cond (ltb w (b.first + b.size)) (Some (at_least w b.first)) (first_among rest w)
