-- What holds of the text of a word, as statements; the proofs folder has a proof of each. Assumes nothing.
use Rattle.std.specs.Prelude.{ℕ, ◌+◌, ◌*◌, ◌/◌, ◌%◌, ◌<◌, ◌≤◌, ◌≡◌, List, [], ◌∷◌, length, ℤ, None, Result, Ok}
use Rattle.std.proofs.lemmas.List.Edits.{sets}
use Rattle.text_lines.specs.Lines as lines
use Rattle.asm_value.specs.declared.Lack.{Lack}
use Rattle.asm_text.specs.Text.{ascii, blank?, after}
use Rattle.asm_line.specs.declared.Statement.{Statement}
use Rattle.asm_line.specs.Line.{line_with, line_of}
use Rattle.asm_write.specs.declared.Layout.TheVariants.{Bytes}
use Rattle.asm_write.specs.Written.{layout_of, number_of}
use Rattle.asm_call.specs.Call.{assembled, assemble_call_of}
use Rattle.asm_print.specs.Print.{text_at, origin_text}

-- ---- a line

-- a line l without a name that begins with no blank, whose statement is the word w at p, with the values that `look`
-- gives. [call text]
pub record Says (look : List ℕ → Result ℤ Lack) (p w : ℕ) (l : List ℕ) : Type 0 where
  pub statement : Statement
  pub reads : line_of look l ≡ line_with 0 None statement
  pub starts : after blank? l 0 ≡ 0
  pub layout : layout_of statement ≡ Bytes 2
  pub number : number_of p statement ≡ Ok w

-- The text of a word says that word, at every place, with any names given. [call text]
abbrev pub TextSays : Type 0
TextSays = (look : List ℕ → Result ℤ Lack) (p w : ℕ) → w < 65536 → Says look p w (text_at p w)

-- ---- a source

-- the texts of words that stand one after the other from p on, a line each, and END. [call text]
unfoldable pub listing_of : (p : ℕ) (ws : List ℕ) → List (List ℕ)
listing_of p [] = ascii "END" ∷ []
listing_of p (w ∷ ws) = text_at p w ∷ listing_of (p + 2) ws

-- a source: ORG and the place, the words' texts, END; LF ends each line. [call text]
abbrev pub source_of : (p : ℕ) (ws : List ℕ) → List ℕ
source_of p ws = lines.text_of (origin_text p ∷ listing_of p ws)

-- the bytes of words: little-endian. [01 State and memory]
abbrev pub word_bytes : List ℕ → List ℕ
word_bytes [] = []
word_bytes (w ∷ ws) = w % 256 ∷ w / 256 ∷ word_bytes ws

-- numbers that are words
abbrev pub Words : List ℕ → Type 0
Words [] = Unit
Words (w ∷ ws) = (w < 65536) × Words ws

-- A listing of any words, from any even place on where they fit, is assembled into any memory without refusal: the
-- words stand at their places, and all other bytes are as they were. [call text]
abbrev pub ListingAssembles : Type 0
ListingAssembles =
    (m : List ℕ) (p : ℕ) (ws : List ℕ) → length m ≡ 65536 → p % 2 ≡ 0 → p < 65536 → p + 2 * length ws ≤ 65536 → Words ws
    → assemble_call_of m (source_of p ws) ≡ assembled 0 (sets m p (word_bytes ws))

-- The same of one word, three lines: writing and reading undo each other. [call text]
abbrev pub TextAssembles : Type 0
TextAssembles =
    (m : List ℕ) (p w : ℕ) → length m ≡ 65536 → p % 2 ≡ 0 → p < 65536 → w < 65536
    → assemble_call_of m (source_of p (w ∷ [])) ≡ assembled 0 (sets m p (w % 256 ∷ w / 256 ∷ []))
