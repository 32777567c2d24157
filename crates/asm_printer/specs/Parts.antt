-- A statement in parts, as the code makes it before it writes it. Assumes nothing.
use Rattle.std.specs.Prelude.{ℕ, ◌≡◌, List, [], ◌∷◌, ◌++◌, Option, Some, None}
use Prim.Native.Char.{code}
use Rattle.isa.specs.declared.Instr.{Instr}
use Rattle.asm_print.specs.Print.{size_mark, text_for}
use Rattle.asm_spellings.specs.Spellings.{letters_of}
use Rattle.asm_printer.specs.declared.Parts.{Parts}

-- Parts (declared in the code): a mnemonic's spelling, whether the statement is a byte form, and the spellings of its
-- one to three operands.

-- a comma and an operand of at most four bytes, or nothing
unfoldable pub behind : Option ℕ → List ℕ
behind None = []
behind (Some q) = code "," ∷ letters_of 4 q

-- one to three operands, the first of at most five bytes
unfoldable pub operands_text : (first : ℕ) (second third : Option ℕ) → List ℕ
operands_text a b c = letters_of 5 a ++ (behind b ++ behind c)

-- the statement
unfoldable pub parts_text : Parts → List ℕ
parts_text x =
    letters_of 6 x.mnemonic ++ (size_mark x.wb ++ (code " " ∷ operands_text x.first x.second x.third))

-- they are the text of a word w that means the instruction j, at every place
abbrev pub Prints : Parts → (w : ℕ) → Instr → Type 0
Prints x w j = (p : ℕ) → parts_text x ≡ text_for p w j
