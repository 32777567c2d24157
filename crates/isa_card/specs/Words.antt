-- All words, for the reference card: how many words mean an operation, and its legal words one after the other.
-- Assumes nothing.
use Rattle.std.specs.Prelude.{ℕ, zero, suc, ◌+◌, ◌-◌, ◌*◌, Bool, cond, List, [], ◌∷◌, eqb, length, Option, Some, None}
use Rattle.isa_ranges.specs.Operation.{operation_of, operation_number}

-- Whether a word means the operation with the number o, 0 being that of the illegal words. [02 §11]
abbrev pub means : ℕ → ℕ → Bool
means o w = eqb (operation_number (operation_of w)) o

-- Those of the n words from w on that mean o, rising: the filter of these words. [02 §11]
unfoldable pub words_from : ℕ → ℕ → ℕ → List ℕ
words_from o w zero = []
words_from o w (suc n) = let rest = words_from o (suc w) n in cond (means o w) (w ∷ rest) rest

-- Those of the 65,536 words. [02 §11]
abbrev pub words_of : ℕ → List ℕ
words_of o = words_from o 0 65536

-- "how many of the 65,536 words mean each operation and how many are illegal". A number that is no operation's is meant
-- by no word. "Counts in §11 stay by operation". [02 §11; 02 §14]
abbrev pub count_of : ℕ → ℕ
count_of o = length (words_of o)

-- The legal words of an operation from w on: an illegal word is no instruction. "its generated lists grow to every
-- legal word". [02 §11; 02 §14]
abbrev pub legal_from : ℕ → ℕ → List ℕ
legal_from o w = cond (eqb o 0) [] (words_from o w (65536 - w))

abbrev pub head_of : List ℕ → Option ℕ
head_of [] = None
head_of (v ∷ rest) = Some v

-- "a call gives the first at or above a given word, or none". [02 §11]
unfoldable pub next_of : ℕ → ℕ → Option ℕ
next_of o w = head_of (legal_from o w)

-- What xm23_count replies: the number of words in bits 31-8. [02 §11]
unfoldable pub count_reply : ℕ → ℕ
count_reply o = count_of o * 0x100

-- What xm23_next replies: 1 in bits 15-8 and the word in bits 31-16, or 0 for none. [02 §11]
abbrev pub found_reply : Option ℕ → ℕ
found_reply (Some v) = 0x100 + v * 0x10000
found_reply None = 0

unfoldable pub next_reply : ℕ → ℕ → ℕ
next_reply o w = found_reply (next_of o w)
