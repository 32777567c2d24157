-- Memory as a list of 65,536 bytes, and a step's change to it as a list of byte writes (document 01, "State and
-- memory").
-- Assumes nothing.
use Rattle.std.specs.Prelude.{ℕ, ◌+◌, ◌*◌, ◌/◌, ◌%◌, Bool, true, false, ◌||◌, List, [], ◌∷◌, eqb, get_or, set}

abbrev pub byte_at : List ℕ → ℕ → ℕ
byte_at m a = get_or m a 0

-- the word that a byte address lies in, counted in words, and a word's first byte. [01 State and memory]
abbrev pub word_number : ℕ → ℕ
word_number a = a / 2

abbrev pub first_byte : ℕ → ℕ
first_byte w = 2 * w

-- "a word access drops bit 0 of its address": the one place of this rule. It is felt by pushes, pulls and vectors; a
-- word that an instruction loads or stores at an odd address is a fault (Step: granted). [01 State and memory; 02 §6]
abbrev pub even : ℕ → ℕ
even a = first_byte (word_number a)

-- words are little-endian. [01 State and memory]
abbrev pub word_at : List ℕ → ℕ → ℕ
word_at m a = byte_at m (even a) + 256 * byte_at m (even a + 1)

-- the low and the high byte of a word. [01 State and memory]
abbrev pub low_byte : ℕ → ℕ
low_byte v = v % 256

abbrev pub high_byte : ℕ → ℕ
high_byte v = v / 256 % 256

-- one byte written. [01 Resumption]
pub record Write : Type 0 where
  pub addr : ℕ
  pub value : ℕ

abbrev pub write : ℕ → ℕ → Write
write a v = record { addr = a; value = v }

-- the two bytes of a word written. [01 State and memory]
abbrev pub word_writes : ℕ → ℕ → List Write
word_writes a v = write (even a) (low_byte v) ∷ write (even a + 1) (high_byte v) ∷ []

-- memory after the writes, first one first. [01 State and memory]
unfoldable pub commit : List Write → List ℕ → List ℕ
commit [] m = m
commit (w ∷ ws) m = commit ws (set m w.addr w.value)

-- is byte a among those written? [01 Resumption]
unfoldable pub writes? : List Write → ℕ → Bool
writes? [] a = false
writes? (w ∷ ws) a = eqb w.addr a || writes? ws a

-- the bytes of an access to address a, and what stands there: one byte, or a word. [01 State and memory]
abbrev pub span : (byte : Bool) → ℕ → List ℕ
span true a = a ∷ []
span false a = even a ∷ (even a + 1) ∷ []

abbrev pub value_at : (byte : Bool) → List ℕ → ℕ → ℕ
value_at true m a = byte_at m a
value_at false m a = word_at m a
