-- The parts of the state record as they are written, one after the other (document 01, "State and memory").
-- Assumes nothing.
use Rattle.std.specs.Prelude.{ℕ, Bool, List, [], ◌∷◌, get_or}
use mir.Val.{bool_byte}
use Rattle.machine.specs.Memory.{low_byte, high_byte}
use Rattle.machine.specs.Record.{count_byte}

-- a number's two bytes, before the rest. [01 State and memory]
abbrev pub two : ℕ → List ℕ → List ℕ
two v l = low_byte v ∷ high_byte v ∷ l

-- bytes 0-15. [01 State and memory]
abbrev pub register_bytes : List ℕ → List ℕ
register_bytes r =
    two (get_or r 0 0) (two (get_or r 1 0) (two (get_or r 2 0) (two (get_or r 3 0)
    (two (get_or r 4 0) (two (get_or r 5 0) (two (get_or r 6 0) (two (get_or r 7 0) [])))))))

-- bytes 16-21. [01 State and memory; 02 §7]
abbrev pub status_bytes : (psw cex : ℕ) → Bool → List ℕ
status_bytes psw cex halted = two psw (two cex (0 ∷ bool_byte halted ∷ []))

-- a number's four bytes, before the rest. [01 State and memory]
abbrev pub four : ℕ → List ℕ → List ℕ
four n l = count_byte n 1 ∷ count_byte n 0x100 ∷ count_byte n 0x10000 ∷ count_byte n 0x1000000 ∷ l

-- bytes 22-31: the step count, the lines, and two zeros. [01 State and memory; 02 §7]
abbrev pub counts_bytes : (count lines : ℕ) → List ℕ
counts_bytes n l = four n (four l (two 0 []))
