-- The text of a span of memory (document 02, §2).
-- Assumes nothing.
use Rattle.std.specs.Prelude.{ℕ, zero, suc, ◌+◌, ◌-◌, ◌*◌, ◌/◌, ◌%◌, min, List, [], ◌∷◌, ◌++◌, length, take, drop}
use Rattle.text_lines.specs.Lines.{text_of}
use Rattle.srec.specs.Digits.{digits_of, sum_of}

-- bytes and their checksum: the sum of all is #FF modulo 256. [02 §2]
abbrev pub sealed : List ℕ → List ℕ
sealed bs = bs ++ ((255 - sum_of bs % 256) ∷ [])

-- a record's line: type, count, address, data, checksum. [02 §2]
unfoldable pub line_of : (kind a : ℕ) → List ℕ → List ℕ
line_of kind a ds = 83 ∷ kind ∷ digits_of (sealed ((length ds + 3) ∷ (a / 256) ∷ (a % 256) ∷ ds))

-- k S1 lines for n bytes from place a of m: "S1 lines of 16 bytes, the last perhaps shorter". [02 §2]
unfoldable pub data_lines : (k : ℕ) → List ℕ → (a n : ℕ) → List (List ℕ)
data_lines zero m a n = []
data_lines (suc k) m a n = line_of 49 a (take (min n 16) (drop a m)) ∷ data_lines k m (a + 16) (n - 16)

-- "then S9 with a PC handed in"; `S9` has no data. [02 §2]
abbrev pub span_lines : List ℕ → (a n pc : ℕ) → List (List ℕ)
span_lines m a n pc = data_lines ((n + 15) / 16) m a n ++ (line_of 57 pc [] ∷ [])

-- the text of n bytes of m from place a, "all in upper case with LF". [02 §2]
abbrev pub span_text : List ℕ → (a n pc : ℕ) → List ℕ
span_text m a n pc = text_of (span_lines m a n pc)

-- its length, a law of the text (span-length)
abbrev pub span_length : ℕ → ℕ
span_length n = 11 * ((n + 15) / 16) + 2 * n + 11
