-- A word as the assembler writes it: one statement of its language, upper case, without a line ending (document 02,
-- §12). A text is a list of bytes. Assumes nothing.
use Rattle.std.specs.Prelude.{ℕ, suc, ◌+◌, ◌*◌, ◌/◌, ◌%◌, Bool, cond, ◌&&◌, List, [], ◌∷◌, ◌++◌, ltb, eqb, ℤ, pos, negsuc, get_or}
use Prim.Native.Char.{Char, code}
use Prim.Native.String.{String}
use Rattle.word.specs.Offset.{bits_of}
use Rattle.text.specs.Text.{hex_of, decimal_of}
use Rattle.isa.specs.declared.Instr.{Instr}
use Rattle.isa.specs.declared.Instr.TheVariants.{Illegal, Bl, Branch, Alu, Mov, Swap, Unary, Swpb, Sxt, SetPri}
use Rattle.isa.specs.declared.Instr.TheVariants.{Svc, SetCc, ClrCc, Cex, Ld, St, MovImm, Ldr, Str}
use Rattle.isa.specs.Decode.{decode_of}
use Rattle.asm_text.specs.Text.{ascii}
use Rattle.asm_words.specs.Words.{branches, operations, unaries, moves, conditions}

-- ---- words of the language

-- the first word that stands for n in a table of asm_words
unfoldable pub name_in : List (String × ℕ) → ℕ → List ℕ
name_in [] n = []
name_in (r ∷ rows) n = cond (eqb r.1 n) (ascii r.0) (name_in rows n)

-- a condition's first name. [003 Table 14]
unfoldable pub condition_text : ℕ → List ℕ
condition_text c = name_in conditions c

-- R0 to R4, LR, SP, PC. [003 4]
unfoldable pub register_names : List (String × ℕ)
register_names =
    ("R0", 0) ∷ ("R1", 1) ∷ ("R2", 2) ∷ ("R3", 3) ∷ ("R4", 4) ∷ ("LR", 5) ∷ ("SP", 6) ∷ ("PC", 7) ∷ []

unfoldable pub register_text : ℕ → List ℕ
register_text r = name_in register_names r

-- ---- numbers

-- a number in base ten, of at most two digits: # and its digits, - before them if it is below zero. [call text]
unfoldable pub number_text : ℤ → List ℕ
number_text (pos n) = code "#" ∷ decimal_of 1 n
number_text (negsuc n) = code "#" ∷ code "-" ∷ decimal_of 1 (suc n)

-- a number in base sixteen, with k digits. [call text]
unfoldable pub hex_text : (k n : ℕ) → List ℕ
hex_text k n = code "$" ∷ hex_of k n

-- the constants of ADD to BIS by their fields. [003 14]
abbrev pub constants : List ℤ
constants = pos 0 ∷ pos 1 ∷ pos 2 ∷ pos 4 ∷ pos 8 ∷ pos 16 ∷ pos 32 ∷ negsuc 0 ∷ []

unfoldable pub constant_of : ℕ → ℤ
constant_of n = get_or constants n (pos 0)

-- ---- operands

-- a, a comma and b
abbrev pub with_comma : List ℕ → List ℕ → List ℕ
with_comma a b = a ++ (code "," ∷ b)

-- one letter, where its bit is set
abbrev pub letter_if : (bit : ℕ) → Char → List ℕ
letter_if bit letter = cond (eqb bit 0) [] (code letter ∷ [])

-- the flags that are set, in the order V S N Z C. [003 6.6]
unfoldable pub flags_text : ℕ → List ℕ
flags_text f =
    letter_if (f / 16 % 2) "V" ++ letter_if (f / 8 % 2) "S" ++ letter_if (f / 4 % 2) "N" ++ letter_if (f / 2 % 2) "Z"
    ++ letter_if (f % 2) "C"

-- the address of LD and ST: R, or +R, -R before the access (prpo 1), R+, R- after it. [003 6.1.2]
unfoldable pub address_text : (prpo dec inc r : ℕ) → List ℕ
address_text prpo dec inc r =
    let sign : ℕ = cond (eqb dec 0) (code "+") (code "-") in
    cond (eqb dec inc) (register_text r)
    (cond (eqb prpo 0) (register_text r ++ (sign ∷ [])) (sign ∷ register_text r))

-- an adjustment that moves nothing and is not plain has no notation. [call text; 02 §12; 003 6.1.2]
abbrev pub idle? : (prpo dec inc : ℕ) → Bool
idle? prpo dec inc = eqb dec inc && ltb 0 (prpo + dec)

-- ---- statements

-- .B for a byte form, where wb is 1. [call text]
abbrev pub size_mark : (wb : ℕ) → List ℕ
size_mark wb = cond (eqb wb 0) [] (ascii ".B")

-- a statement: its mnemonic, .B or nothing, a blank, its operands. [call text]
unfoldable pub phrase : (mnemonic : List ℕ) (wb : ℕ) (operands : List ℕ) → List ℕ
phrase mnemonic wb operands = mnemonic ++ (size_mark wb ++ (code " " ∷ operands))

-- WORD and a number. [call text]
unfoldable pub word_text : ℕ → List ℕ
word_text w = ascii "WORD " ++ hex_text 4 w

-- the target of a branch by off words at p: "offsets wrap". [call text; 02 §12; 003 6]
abbrev pub target_of : (p : ℕ) (off : ℤ) → ℕ
target_of p off = (p + 2 + 2 * bits_of 32768 off) % 65536

-- a branch names its target; at an odd place it is a word. [call text]
unfoldable pub branch_text : (mnemonic : List ℕ) (p w : ℕ) (off : ℤ) → List ℕ
branch_text mnemonic p w off = cond (eqb (p % 2) 0) (phrase mnemonic 0 (hex_text 4 (target_of p off))) (word_text w)

-- the text of a word w that means an instruction, at p; WORD where there is no notation for it. [call text]
unfoldable pub text_for : (p w : ℕ) → Instr → List ℕ
text_for p w Illegal = word_text w
text_for p w (Bl off) = branch_text (ascii "BL") p w off
text_for p w (Branch c off) = branch_text (name_in branches c) p w off
text_for p w (Alu op rc wb src dst) =
    phrase (name_in operations op) wb
    (with_comma (cond (eqb rc 0) (register_text src) (number_text (constant_of src))) (register_text dst))
text_for p w (Mov wb src dst) = phrase (ascii "MOV") wb (with_comma (register_text src) (register_text dst))
text_for p w (Swap src dst ignored) =
    cond (eqb ignored 0) (phrase (ascii "SWAP") 0 (with_comma (register_text src) (register_text dst))) (word_text w)
text_for p w (Unary op wb dst) = phrase (name_in unaries op) wb (register_text dst)
text_for p w (Swpb dst ignored) = cond (eqb ignored 0) (phrase (ascii "SWPB") 0 (register_text dst)) (word_text w)
text_for p w (Sxt dst ignored) = cond (eqb ignored 0) (phrase (ascii "SXT") 0 (register_text dst)) (word_text w)
text_for p w (SetPri level) = phrase (ascii "SETPRI") 0 (number_text (pos level))
text_for p w (Svc vector) = phrase (ascii "SVC") 0 (number_text (pos vector))
text_for p w (SetCc flags) = cond (eqb flags 0) (word_text w) (phrase (ascii "SETCC") 0 (flags_text flags))
text_for p w (ClrCc flags) = cond (eqb flags 0) (word_text w) (phrase (ascii "CLRCC") 0 (flags_text flags))
text_for p w (Cex c onTrue onFalse) =
    phrase (ascii "CEX") 0
    (with_comma (condition_text c) (with_comma (number_text (pos onTrue)) (number_text (pos onFalse))))
text_for p w (Ld prpo dec inc wb src dst) =
    cond (idle? prpo dec inc) (word_text w)
    (phrase (ascii "LD") wb (with_comma (address_text prpo dec inc src) (register_text dst)))
text_for p w (St prpo dec inc wb src dst) =
    cond (idle? prpo dec inc) (word_text w)
    (phrase (ascii "ST") wb (with_comma (register_text src) (address_text prpo dec inc dst)))
text_for p w (MovImm op byte dst) = phrase (name_in moves op) 0 (with_comma (hex_text 2 byte) (register_text dst))
text_for p w (Ldr off wb src dst) =
    phrase (ascii "LDR") wb (with_comma (register_text src) (with_comma (number_text off) (register_text dst)))
text_for p w (Str off wb src dst) =
    phrase (ascii "STR") wb (with_comma (register_text src) (with_comma (register_text dst) (number_text off)))

-- the text of a word at a place. [call text]
unfoldable pub text_at : (place w : ℕ) → List ℕ
text_at p w = text_for p w (decode_of w)

-- ---- the first line of a source

-- ORG and a place. [call text]
unfoldable pub origin_text : ℕ → List ℕ
origin_text p = ascii "ORG " ++ hex_text 4 p
