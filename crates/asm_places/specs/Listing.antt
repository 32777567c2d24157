-- What stands where in a source: for each line up to and with END its place, its statement and whether it has a name,
-- line by line as placed_from has the statements of the image (document 02, §12); and the eight bytes that tell it
-- (docs/CALLS.md, xm23_places).
-- Assumes nothing.
use Rattle.std.specs.Prelude.{ℕ, ◌-◌, ◌/◌, ◌%◌, Bool, cond, List, [], ◌∷◌, ◌++◌, ℤ, pos, negsuc}
use Rattle.std.specs.Prelude.{Option, Some, None, is_some, Result, Ok, Err}
use mir.Val.{bool_byte}
use Rattle.text_lines.specs.Lines.{lines_of}
use Rattle.asm_value.specs.declared.Lack.{Lack}
use Rattle.asm_line.specs.declared.Statement.{Statement}
use Rattle.asm_line.specs.declared.Statement.TheVariants.{Nothing, Org, Equ, Bss, Byte, Word, End, Fixed, Bl, Branch}
use Rattle.asm_line.specs.declared.Statement.TheVariants.{Constant, SetPri, Svc, Cex, MovImm, Ldr, Str}
use Rattle.asm_line.specs.declared.Line.{Line}
use Rattle.asm_line.specs.Line.{line_of}
use Rattle.asm_write.specs.declared.Layout.{Layout}
use Rattle.asm_write.specs.declared.Layout.TheVariants.{Bytes, Origin, Equal, Space, Stop}
use Rattle.asm_write.specs.Written.{layout_of, size_of}
use Rattle.asm_sweeps.specs.Form.{end?}
use Rattle.asm_sweeps.specs.Uses.{names_of}
use Rattle.asm_image.specs.Image.{place_on}

-- ---- lines

-- a line: whether it has a name, the place before its statement, and the statement
pub record Listed : Type 0 where
  pub named : Bool
  pub place : ℕ
  pub statement : Statement

abbrev pub listing : Bool → ℕ → Statement → Listed
listing named p x = record { named = named; place = p; statement = x }

-- the line that stands at p; a line that fits no statement is not listed (its source is refused). [call places]
abbrev pub listed_at : ℕ → Option Line → List Listed
listed_at p None = []
listed_at p (Some y) = listing (is_some y.name) p y.statement ∷ []

-- the lines up to and with END, the first at p. [call places; 02 §12]
unfoldable pub listed_from : (look : List ℕ → Result ℤ Lack) → List (List ℕ) → ℕ → List Listed
listed_from look [] p = []
listed_from look (l ∷ ls) p =
    let rest = listed_from look ls (place_on p (line_of look l)) in
    listed_at p (line_of look l) ++ cond (end? (line_of look l)) [] rest

-- "at first 0". [02 §12]
abbrev pub listed_with : (look : List ℕ → Result ℤ Lack) → (source : List ℕ) → List Listed
listed_with look s = listed_from look (lines_of s) 0

-- the lines of a source, with all the names that it gives. [call places]
abbrev pub listed_of : (source : List ℕ) → List Listed
listed_of s = listed_with (names_of s) s

-- ---- the eight bytes of a line

-- the 32 bits of a number, two's complement. [call places]
unfoldable pub bits_of : ℤ → ℕ
bits_of (pos n) = n
bits_of (negsuc n) = 4294967295 - n

-- the bits of a value; a value at fault, which no accepted source has, stands as 0
abbrev pub value_bits : Result ℤ Lack → ℕ
value_bits (Ok z) = bits_of z
value_bits (Err e) = 0

-- the place before a statement, of an EQU its value: what a name of the line stands for. [call places; 02 §12]
abbrev pub number_at : ℕ → Layout → ℕ
number_at p (Bytes n) = p
number_at p (Origin v) = p
number_at p (Equal v) = value_bits v
number_at p (Space v) = p
number_at p Stop = p

-- 0 no statement, 1 instruction, 2 BYTE, 3 WORD, 4 ORG, 5 EQU, 6 BSS, 7 END. [call places]
unfoldable pub kind_of : Statement → ℕ
kind_of Nothing = 0
kind_of (Byte v) = 2
kind_of (Word v) = 3
kind_of (Org v) = 4
kind_of (Equ v) = 5
kind_of (Bss v) = 6
kind_of End = 7
kind_of (Fixed j) = 1
kind_of (Bl v) = 1
kind_of (Branch c v) = 1
kind_of (Constant op wb v dst) = 1
kind_of (SetPri v) = 1
kind_of (Svc v) = 1
kind_of (Cex c t f) = 1
kind_of (MovImm op plain v dst) = 1
kind_of (Ldr v wb src dst) = 1
kind_of (Str v wb src dst) = 1

-- 0-3 a number, low byte first, 4 the kind, 5 bytes put into memory, 6 one where the line has a name, 7 zero.
-- [call places]
unfoldable pub eight_of : (number kind size : ℕ) (named : Bool) → List ℕ
eight_of n kind size named =
    (n % 256) ∷ (n / 256 % 256) ∷ (n / 65536 % 256) ∷ (n / 16777216 % 256) ∷
    kind ∷ size ∷ bool_byte named ∷ 0 ∷ []

-- the record of a line. [call places]
abbrev pub record_of : Listed → List ℕ
record_of x =
    let l = layout_of x.statement in
    eight_of (number_at x.place l) (kind_of x.statement) (size_of l) x.named

-- the records of lines, one after the other. [call places]
unfoldable pub records_of : List Listed → List ℕ
records_of [] = []
records_of (x ∷ xs) = record_of x ++ records_of xs
