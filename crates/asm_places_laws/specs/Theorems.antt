-- What holds of the listing of a source, as statements; the proofs folder has a proof of each. assemble_call_of is what
-- the assembler's call answers, places_call_of what the listing's does.
-- Assumes nothing.
use Rattle.std.specs.Prelude.{ℕ, ◌+◌, ◌*◌, ◌≤◌, ◌<◌, ◌≡◌, cond, List, [], ◌∷◌, ◌++◌, eqb, length, drop, get_or}
use Rattle.std.proofs.lemmas.List.Edits.{sets}
use mir.Val.{bool_byte}
use Rattle.text_lines.specs.Lines.{lines_of}
use Rattle.asm_text.specs.Text.{ascii}
use Rattle.std.specs.Prelude.{ℤ, Result, Ok}
use Rattle.std.specs.Result.{result_err}
use Rattle.asm_value.specs.declared.Lack.{Lack}
use Rattle.asm_line.specs.Line.{line_of}
use Rattle.asm_write.specs.Written.{layout_of, bytes_of}
use Rattle.asm_sweeps.specs.Form.{no_names, end?}
use Rattle.asm_sweeps.specs.Uses.{names_of, verdict_of}
use Rattle.asm_image.specs.Image.{Placed, placing, placed_of, image_of}
use Rattle.asm_call.specs.Call.{assemble_call_of}
use Rattle.asm_theorems.specs.Theorems.{Accepted}
use Rattle.asm_labels.specs.Labels.{Given, given_of}
use Rattle.asm_places.specs.Listing.{Listed, listed_with, listed_of, value_bits, number_at, record_of, records_of}
use Rattle.asm_places.specs.Call.{recorded, places_verdict, places_reply, places_call_of}

-- ---- the same statements at the same places

-- lines, as the image has statements
abbrev pub placed_all : List Listed → List Placed
placed_all [] = []
placed_all (x ∷ xs) = placing x.place x.statement ∷ placed_all xs

-- a line is listed for each statement that the image is made of, in the same order and at the same place.
-- [call places; 02 §12]
abbrev pub SameStatements : Type 0
SameStatements = (look : List ℕ → Result ℤ Lack) (s : List ℕ) → placed_all (listed_with look s) ≡ placed_of look s

-- ---- the number of records

-- the lines up to and with END; which line is END depends on no name. [02 §12]
unfoldable pub up_to_end : List (List ℕ) → List (List ℕ)
up_to_end [] = []
up_to_end (l ∷ ls) = let rest = up_to_end ls in l ∷ cond (end? (line_of no_names l)) [] rest

-- a record for each of them, of eight bytes. [call places]
abbrev pub RecordEach : Type 0
RecordEach =
    (s : List ℕ) → verdict_of s ≡ Ok tt
    → (length (listed_of s) ≡ length (up_to_end (lines_of s)))
    × (length (records_of (listed_of s)) ≡ 8 * length (up_to_end (lines_of s)))

-- ---- records with bytes

-- the number in bytes 0-3 of a record, and byte 5
abbrev pub number_in : List ℕ → ℕ
number_in r = get_or r 0 0 + 256 * get_or r 1 0 + 65536 * get_or r 2 0 + 16777216 * get_or r 3 0

abbrev pub size_in : List ℕ → ℕ
size_in r = get_or r 5 0

-- the statements whose records tell of bytes, each at the place that its record tells
abbrev pub written : List Listed → List Placed
written [] = []
written (x ∷ xs) =
    cond (eqb (size_in (record_of x)) 0) (written xs) (placing (number_in (record_of x)) x.statement ∷ written xs)

-- the memory that the assembler leaves is the image of those alone, in their order, at the places of the records.
-- [call places; 02 §12]
abbrev pub WritesTold : Type 0
WritesTold = (m s : List ℕ) → Accepted m s → (assemble_call_of m s).memory ≡ image_of (written (listed_of s)) m

-- byte 5 is the number of bytes that the line's statement has in the image. [call places; 02 §12]
abbrev pub AllSized : List Listed → Type 0
AllSized [] = Unit
AllSized (x ∷ xs) = (length (bytes_of x.place x.statement) ≡ size_in (record_of x)) × AllSized xs

abbrev pub SizesTold : Type 0
SizesTold = (m s : List ℕ) → Accepted m s → AllSized (listed_of s)

-- ---- the call

-- a source that the assembler refuses is refused with the same reply, and the buffer is as it was.
-- [call places; 02 §12]
abbrev pub SameRefusal : Type 0
SameRefusal =
    (m s b : List ℕ) → length m ≡ 65536 → (verdict_of s ≡ Ok tt → ⊥)
    → ((places_call_of s b).reply ≡ (assemble_call_of m s).reply) × ((places_call_of s b).places ≡ b)

-- accepted, the records stand at the buffer's start and the bytes past them are kept. [call places]
abbrev pub RecordsThenKept : Type 0
RecordsThenKept =
    (s b : List ℕ) → verdict_of s ≡ Ok tt → length (records_of (listed_of s)) ≤ length b
    → (places_call_of s b).places ≡ records_of (listed_of s) ++ drop (length (records_of (listed_of s))) b

-- ---- room that is always enough

-- the line feeds of a source
unfoldable pub feeds : List ℕ → ℕ
feeds [] = 0
feeds (b ∷ s) = bool_byte (eqb b 10) + feeds s

-- "8 bytes for each LF of the source and 8 more always suffice": the records fit, so 22 is not given, and the call
-- accepts and tells whole whatever the assembler accepts. [call places]
pub record Enough (s b : List ℕ) : Type 0 where
  pub fits : length (records_of (listed_of s)) ≤ length b
  pub refusal : result_err (places_verdict s b) ≡ result_err (verdict_of s)
  pub accepted : verdict_of s ≡ Ok tt
      → places_call_of s b
      ≡ recorded (places_reply (Ok (length (listed_of s)))) (sets b 0 (records_of (listed_of s)))

abbrev pub EnoughRoom : Type 0
EnoughRoom = (s b : List ℕ) → 8 * feeds s + 8 ≤ length b → Enough s b

-- "A place beyond memory occurs where no byte follows it": what a line puts into memory is in memory. [call places]
abbrev pub AllInside : List Listed → Type 0
AllInside [] = Unit
AllInside (x ∷ xs) = ((size_in (record_of x) ≡ 0 → ⊥) → x.place + size_in (record_of x) ≤ 65536) × AllInside xs

abbrev pub BytesInside : Type 0
BytesInside = (m s : List ℕ) → Accepted m s → AllInside (listed_of s)

-- ---- names

-- the number of a line's record is what its name stands for. [call places; 02 §12]
abbrev pub AllNumbered : (look : List ℕ → Result ℤ Lack) → List Given → Type 0
AllNumbered look [] = Unit
AllNumbered look (y ∷ ys) =
    (number_at y.place (layout_of y.statement) ≡ value_bits (look y.name)) × AllNumbered look ys

abbrev pub NamesTold : Type 0
NamesTold = (s : List ℕ) → verdict_of s ≡ Ok tt → AllNumbered (names_of s) (given_of s)

-- the names are those of the lines whose byte 6 is one, with the same statements at the same places. [call places]
abbrev pub named_in : List ℕ → ℕ
named_in r = get_or r 6 0

abbrev pub named_all : List Listed → List Placed
named_all [] = []
named_all (x ∷ xs) = cond (eqb (named_in (record_of x)) 1) (placing x.place x.statement ∷ named_all xs) (named_all xs)

abbrev pub given_all : List Given → List Placed
given_all [] = []
given_all (y ∷ ys) = placing y.place y.statement ∷ given_all ys

abbrev pub SameNames : Type 0
SameNames = (s : List ℕ) → named_all (listed_of s) ≡ given_all (given_of s)

-- ---- an example that meets the premises

-- nine lines
abbrev pub sample : List ℕ
sample =
    ascii "N EQU #-2\n"
    ++ ascii " ORG $0100\n"
    ++ ascii "L MOVL N,R0\n"
    ++ ascii " BYTE #7 ; c\n"
    ++ ascii "B BSS #3\n"
    ++ ascii "X\n"
    ++ ascii " BRA L\n"
    ++ ascii " END\n"
    ++ ascii "JUNK"

-- and the eight records
abbrev pub sample_records : List ℕ
sample_records =
    254 ∷ 255 ∷ 255 ∷ 255 ∷ 5 ∷ 0 ∷ 1 ∷ 0 ∷
    0 ∷ 0 ∷ 0 ∷ 0 ∷ 4 ∷ 0 ∷ 0 ∷ 0 ∷
    0 ∷ 1 ∷ 0 ∷ 0 ∷ 1 ∷ 2 ∷ 1 ∷ 0 ∷
    2 ∷ 1 ∷ 0 ∷ 0 ∷ 2 ∷ 1 ∷ 0 ∷ 0 ∷
    3 ∷ 1 ∷ 0 ∷ 0 ∷ 6 ∷ 0 ∷ 1 ∷ 0 ∷
    6 ∷ 1 ∷ 0 ∷ 0 ∷ 0 ∷ 0 ∷ 1 ∷ 0 ∷
    6 ∷ 1 ∷ 0 ∷ 0 ∷ 1 ∷ 2 ∷ 0 ∷ 0 ∷
    8 ∷ 1 ∷ 0 ∷ 0 ∷ 7 ∷ 0 ∷ 0 ∷ 0 ∷ []

-- 8 in bits 63-32 of the reply where 64 bytes are lent or more, and 22 where fewer are
abbrev pub Sample : Type 0
Sample =
    (records_of (listed_of sample) ≡ sample_records)
    × ((b : List ℕ) → 64 ≤ length b
    → ((places_call_of sample b).reply ≡ 34359738368) × ((places_call_of sample b).places ≡ sample_records ++ drop 64 b))
    × ((b : List ℕ) → length b < 64 → ((places_call_of sample b).reply ≡ 22) × ((places_call_of sample b).places ≡ b))
