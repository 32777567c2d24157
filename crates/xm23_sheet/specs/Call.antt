-- The whole answer of the call: its reply and the buffer that it leaves, for every input and every length (document 01,
-- "Sheet for the markers"). Assumes nothing.
use Rattle.std.specs.Prelude.{ℕ, ◌*◌, cond, List, ltb, length}
use Rattle.std.proofs.lemmas.List.Edits.{sets}
use Rattle.printed_line.specs.Sheet.{sheet_of}

pub record Sheeted : Type 0 where
  pub reply : ℕ
  pub line : List ℕ

abbrev pub sheeted : ℕ → List ℕ → Sheeted
sheeted r l = record { reply = r; line = l }

-- The input's line stands at the start of the buffer, all other bytes are as they were. The reply: bits 7-0 the refusal
-- (0: none), 31-8 the length of the line, its LF included. An input that breaks a rule is no refusal of this call: its
-- line says so. A buffer of under 80 bytes is refused with 22 and left as it was. [call sheet]
unfoldable pub sheet_call_of : (input line : List ℕ) → Sheeted
sheet_call_of b l =
    cond (ltb (length l) 80) (sheeted 22 l) (sheeted (256 * length (sheet_of b)) (sets l 0 (sheet_of b)))
