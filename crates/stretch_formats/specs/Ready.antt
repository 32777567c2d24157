-- What a word is taken with: PC past it, the whole memory, and the constants in an array.
-- Assumes nothing.
use Rattle.std.specs.Prelude.{ℕ, ◌<◌, List, [], ◌∷◌, ◌≡◌, length}
use Rattle.stretch_registers.specs.Effected.{Past}

-- the constants by number. [003 14]
abbrev pub constants : List ℕ
constants = 0 ∷ 1 ∷ 2 ∷ 4 ∷ 8 ∷ 16 ∷ 32 ∷ 0xFFFF ∷ []

abbrev pub Ready : (pc w : ℕ) (regs m k : List ℕ) → Type 0
Ready pc w regs m k = Past pc regs × (w < 65536) × (length m ≡ 65536) × (k ≡ constants)
