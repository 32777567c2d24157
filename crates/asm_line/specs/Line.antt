-- A line of a source: at most a name, a statement and a comment, in this order. s is the bytes of the line without its
-- end (linesOf of the source, as in 02 §2), `look` gives the values of names. Assumes nothing.
use Rattle.std.specs.Prelude.{Bool, true, false, cond, not, List, ℕ, drop, ℤ, Option, Some, None, Result}
use Rattle.asm_value.specs.declared.Lack.{Lack}
use Rattle.asm_text.specs.Text.{byte_at, blank?, letter?, name_byte?, after, word}
use Rattle.asm_words.specs.Words.{word_of, free?}
use Rattle.asm_line.specs.declared.Statement.TheVariants.{Nothing}
use Rattle.asm_line.specs.declared.Statement.{Statement}
use Rattle.asm_line.specs.declared.Line.{Line}
use Rattle.asm_text.specs.declared.Read.{Read}
use Rattle.asm_operands.specs.Operands.{over?}
use Rattle.asm_line.specs.Statement.{statement_of}

-- a line whose first byte that is no blank stands at a place, with a name, which stands at a place, or with none, and a
-- statement
abbrev pub line_with : (start : ℕ) → Option ℕ → Statement → Option Line
line_with start name x = Some (record { start = start; name = name; statement = x })

-- a line with a statement, if the line is over after it, else 17. [02 §12]
abbrev pub ended : List ℕ → (start : ℕ) → Option ℕ → Option (Read Statement) → Option Line
ended s start name None = None
ended s start name (Some r) = cond (over? s (after blank? s r.next)) (line_with start name r.value) None

-- a statement whose word stands at i
unfoldable pub statement_at : (List ℕ → Result ℤ Lack) → List ℕ → Bool → ℕ → Option (Read Statement)
statement_at look s named i = statement_of look s named (word_of (word (drop i s))) (after name_byte? s i)

-- what follows a name at q that ends before i
unfoldable pub after_name : (List ℕ → Result ℤ Lack) → List ℕ → (q i : ℕ) → Option Line
after_name look s q i = cond (over? s i) (line_with q (Some q) Nothing) (ended s q (Some q) (statement_at look s true i))

-- a line whose first byte that is no blank stands at q
unfoldable pub line_from : (List ℕ → Result ℤ Lack) → List ℕ → ℕ → Option Line
line_from look s q =
    cond (over? s q) (line_with q None Nothing)
    (cond (not (free? (word_of (word (drop q s))))) (ended s q None (statement_at look s false q))
    (cond (letter? (byte_at s q)) (after_name look s q (after blank? s (after name_byte? s q)))
    None))

-- the line: the place of its first byte that is no blank, its name's place in the line, if it has one, and its statement
-- or Nothing; None is 17. [02 §12]
unfoldable pub line_of : (List ℕ → Result ℤ Lack) → List ℕ → Option Line
line_of look s = line_from look s (after blank? s 0)
