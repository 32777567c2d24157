-- The words of the language, in letters, each with what it stands for. `Word`, `Keyword` and `Valued` are declared in
-- the code; a number in a row is a field of the instruction. Assumes nothing.
use Rattle.std.specs.Prelude.{Bool, true, false, cond, List, [], ◌∷◌, ◌++◌, ℕ, zero, suc, ◌+◌, ◌/◌, ◌%◌, eqb, Option, Some, None}
use Prim.Native.String.{String}
use Rattle.asm_text.specs.Text.{ascii, same}
use Rattle.asm_words.specs.declared.Word.{Word}
use Rattle.asm_words.specs.declared.Word.TheVariants.{Free, Reserved, Begins}
use Rattle.asm_words.specs.declared.Keyword.{Keyword}
use Rattle.asm_words.specs.declared.Keyword.TheVariants as key
use Rattle.asm_words.specs.declared.Valued.{Valued}
use Rattle.asm_words.specs.declared.Valued.TheVariants as val

-- what the first row of a table with the word w says; `none` if there is no such row
unfoldable pub meaning : {A : Type 0} → A → List (String × A) → List ℕ → A
meaning none [] w = none
meaning none (r ∷ rows) w = cond (same (ascii r.0) w) r.1 (meaning none rows w)

-- the same words, with f of what they say
abbrev pub each : {A B : Type 0} → (A → B) → List (String × A) → List (String × B)
each f [] = []
each f (r ∷ rows) = (r.0, f r.1) ∷ each f rows

-- ---- words that begin a statement

-- the branches, by their condition field. [003 14]
unfoldable pub branches : List (String × ℕ)
branches =
    ("BEQ", 0) ∷ ("BZ", 0) ∷ ("BNE", 1) ∷ ("BNZ", 1) ∷ ("BC", 2) ∷ ("BHS", 2) ∷ ("BNC", 3) ∷ ("BLO", 3) ∷ ("BN", 4)
    ∷ ("BGE", 5) ∷ ("BLT", 6) ∷ ("BRA", 7) ∷ []

-- the operations on two registers, or on a constant and a register, by their operation field. [003 14]
unfoldable pub operations : List (String × ℕ)
operations =
    ("ADD", 0) ∷ ("ADDC", 1) ∷ ("SUB", 2) ∷ ("SUBC", 3) ∷ ("DADD", 4) ∷ ("CMP", 5) ∷ ("XOR", 6) ∷ ("AND", 7)
    ∷ ("OR", 8) ∷ ("BIT", 9) ∷ ("BIC", 10) ∷ ("BIS", 11) ∷ []

-- those on one register, in a word or a byte, likewise. [003 14]
unfoldable pub unaries : List (String × ℕ)
unaries = ("SRA", 0) ∷ ("RRC", 1) ∷ ("COMP", 2) ∷ []

-- the moves of a byte, likewise. [003 14]
unfoldable pub moves : List (String × ℕ)
moves = ("MOVL", 0) ∷ ("MOVLZ", 1) ∷ ("MOVLS", 2) ∷ ("MOVH", 3) ∷ []

-- words that one value follows. [02 §12; 003 14]
unfoldable pub valued_words : List (String × Valued)
valued_words =
    ("ORG", val.Org) ∷ ("BSS", val.Bss) ∷ ("BYTE", val.Byte) ∷ ("WORD", val.Word) ∷ ("BL", val.Bl)
    ∷ ("SETPRI", val.SetPri) ∷ ("SVC", val.Svc) ∷ each val.Branch branches

-- the other words that begin a statement. [02 §12; 003 14]
unfoldable pub other_words : List (String × Keyword)
other_words =
    ("EQU", key.Equ) ∷ ("END", key.End) ∷ ("MOV", key.Mov) ∷ ("SWAP", key.Swap) ∷ ("SWPB", key.Swpb) ∷ ("SXT", key.Sxt)
    ∷ ("SETCC", key.SetCc) ∷ ("CLRCC", key.ClrCc) ∷ ("CEX", key.Cex) ∷ ("LD", key.Ld) ∷ ("ST", key.St)
    ∷ ("LDR", key.Ldr) ∷ ("STR", key.Str) ∷ []

unfoldable pub keywords : List (String × Keyword)
keywords =
    each key.Value valued_words ++ each key.Arithmetic operations ++ each key.Unary unaries ++ each key.MovImm moves
    ++ other_words

-- ---- words that begin none, and are no names

-- the registers by number. [003 4]
unfoldable pub registers : List (String × ℕ)
registers =
    ("R0", 0) ∷ ("R1", 1) ∷ ("R2", 2) ∷ ("R3", 3) ∷ ("R4", 4) ∷ ("R5", 5) ∷ ("R6", 6) ∷ ("R7", 7)
    ∷ ("BP", 4) ∷ ("LR", 5) ∷ ("SP", 6) ∷ ("PC", 7) ∷ []

-- the conditions of CEX by their code. [003 Table 14]
unfoldable pub conditions : List (String × ℕ)
conditions =
    ("EQ", 0) ∷ ("NE", 1) ∷ ("CS", 2) ∷ ("HS", 2) ∷ ("CC", 3) ∷ ("LO", 3) ∷ ("MI", 4) ∷ ("PL", 5) ∷ ("VS", 6)
    ∷ ("VC", 7) ∷ ("HI", 8) ∷ ("LS", 9) ∷ ("GE", 10) ∷ ("LT", 11) ∷ ("GT", 12) ∷ ("LE", 13) ∷ ("TR", 14)
    ∷ ("FL", 15) ∷ []

-- 003's emulated mnemonics are not assembled; they stay reserved, so that none is taken for a name. [003 7]
unfoldable pub emulated : List String
emulated =
    "ADC" ∷ "CALL" ∷ "CLC" ∷ "CLN" ∷ "CLS" ∷ "CLV" ∷ "CLZ" ∷ "CLR" ∷ "DADC" ∷ "DEC" ∷ "DECD" ∷ "INC" ∷ "INCD" ∷ "JUMP"
    ∷ "NOP" ∷ "PULL" ∷ "PUSH" ∷ "RET" ∷ "RLC" ∷ "SBC" ∷ "SEC" ∷ "SEN" ∷ "SEV" ∷ "SEZ" ∷ "SLA" ∷ "TST" ∷ []

-- ---- all of them

abbrev pub reserve : List String → List (String × Word)
reserve [] = []
reserve (l ∷ ls) = (l, Reserved) ∷ reserve ls

unfoldable pub words : List (String × Word)
words =
    each Begins keywords ++ each (λ n. Reserved) registers ++ each (λ n. Reserved) conditions ++ reserve emulated

-- what a word is: it begins a statement, is reserved, or is no word of the language, and so free to be a name. [02 §12]
unfoldable pub word_of : List ℕ → Word
word_of w = meaning Free words w

unfoldable pub free? : Word → Bool
free? Free = true
free? Reserved = false
free? (Begins k) = false

-- the register with this name
unfoldable pub register_of : List ℕ → Option ℕ
register_of w = meaning None (each Some registers) w

-- the code of a condition
unfoldable pub condition_of : List ℕ → Option ℕ
condition_of w = meaning None (each Some conditions) w

-- ---- flags

-- the flags by their bits. [003 6.6]
unfoldable pub flags : List (String × ℕ)
flags = ("V", 16) ∷ ("S", 8) ∷ ("N", 4) ∷ ("Z", 2) ∷ ("C", 1) ∷ []

-- the bit of the flag with this letter
unfoldable pub flag_of : ℕ → Option ℕ
flag_of b = meaning None (each Some flags) (b ∷ [])

-- flags f with one bit more, if there is one and they have it not. [02 §12]
unfoldable pub with_bit : ℕ → Option ℕ → Option ℕ
with_bit f None = None
with_bit f (Some bit) = cond (eqb (f / bit % 2) 0) (Some (f + bit)) None

-- flags with the letters of a word; none once one does not fit
unfoldable pub flags_from : Option ℕ → List ℕ → Option ℕ
flags_from None l = None
flags_from (Some f) [] = Some f
flags_from (Some f) (b ∷ l) = flags_from (with_bit f (flag_of b)) l

-- flags of which there is one at least
unfoldable pub some_flag : Option ℕ → Option ℕ
some_flag None = None
some_flag (Some zero) = None
some_flag (Some (suc f)) = Some (suc f)

-- one to five of V S N Z C, each once, in any order. [02 §12]
unfoldable pub flags_of : List ℕ → Option ℕ
flags_of w = some_flag (flags_from (Some 0) w)
