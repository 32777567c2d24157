-- Numbers stored in two and four bytes, the low byte first (document 01, "State and memory").
-- Assumes nothing.
use Rattle.std.specs.Prelude.{ℕ, ◌+◌, ◌/◌, ◌%◌, List, set}
use Rattle.machine.specs.Memory.{low_byte, high_byte}

-- a number's two bytes stored at byte i. [01 State and memory]
abbrev pub two_put : List ℕ → (i v : ℕ) → List ℕ
two_put b i v = set (set b i (low_byte v)) (i + 1) (high_byte v)

-- a number's four bytes stored at byte i. [01 State and memory]
abbrev pub four_put : List ℕ → (i v : ℕ) → List ℕ
four_put b i v = two_put (two_put b i (v % 65536)) (i + 2) (v / 65536)
