-- "A name .. is the place before its statement .. or the value of EQU" (document 02, §12), of the places at which the
-- image has the statements. Names get their values in the second sweep, with the names given above; statements stand
-- where the fourth finds them, with all names: in a source without a fault the two agree.
-- Assumes nothing.
use Rattle.std.specs.Prelude.{ℕ, ◌≡◌, false, cond, List, [], ◌∷◌, ◌++◌, ℤ, pos, drop, Option, Some, None, Result, Ok}
use Rattle.text_lines.specs.Lines.{lines_of}
use Rattle.asm_value.specs.declared.Lack.{Lack}
use Rattle.asm_text.specs.Text.{ascii, word}
use Rattle.asm_line.specs.declared.Statement.{Statement}
use Rattle.asm_line.specs.declared.Statement.TheVariants.{MovImm}
use Rattle.asm_line.specs.declared.Line.{Line}
use Rattle.asm_line.specs.Line.{line_of}
use Rattle.asm_write.specs.Written.{layout_of, name_value}
use Rattle.asm_sweeps.specs.Form.{end?}
use Rattle.asm_sweeps.specs.Uses.{names_of, verdict_of}
use Rattle.asm_image.specs.Image.{place_on}

-- a name, the statement behind it and that statement's place
pub record Given : Type 0 where
  pub name : List ℕ
  pub place : ℕ
  pub statement : Statement

abbrev pub given : List ℕ → ℕ → Statement → Given
given n p x = record { name = n; place = p; statement = x }

-- the name of a line that stands at p
abbrev pub named_at : (p : ℕ) (l : List ℕ) → (name : Option ℕ) → Statement → List Given
named_at p l None x = []
named_at p l (Some q) x = given (word (drop q l)) p x ∷ []

abbrev pub given_at : (p : ℕ) (l : List ℕ) → Option Line → List Given
given_at p l None = []
given_at p l (Some y) = named_at p l y.name y.statement

-- the names of the lines up to END, the first at p: line by line as placed_from has the statements. [02 §12]
unfoldable pub given_from : (look : List ℕ → Result ℤ Lack) → List (List ℕ) → ℕ → List Given
given_from look [] p = []
given_from look (l ∷ ls) p =
    let rest = given_from look ls (place_on p (line_of look l)) in
    given_at p l (line_of look l) ++ cond (end? (line_of look l)) [] rest

abbrev pub given_of : (source : List ℕ) → List Given
given_of s = given_from (names_of s) (lines_of s) 0

-- a name has the place of its statement, or the value of EQU. [02 §12]
abbrev pub Valued : (look : List ℕ → Result ℤ Lack) → Given → Type 0
Valued look y = look y.name ≡ name_value y.place (layout_of y.statement)

abbrev pub AllValued : (look : List ℕ → Result ℤ Lack) → List Given → Type 0
AllValued look [] = Unit
AllValued look (y ∷ ys) = Valued look y × AllValued look ys

-- every name of a source without a fault. [02 §12]
abbrev pub NamesPlaced : Type 0
NamesPlaced = (s : List ℕ) → verdict_of s ≡ Ok tt → AllValued (names_of s) (given_of s)

-- ---- an example that meets the premise

-- three lines
abbrev pub sample : List ℕ
sample =
    ascii " ORG #256\n"
    ++ ascii "L MOVH L,R0\n"
    ++ ascii " END"

-- L stands at 256 with MOVH, and has that value. [02 §12]
abbrev pub Sample : Type 0
Sample =
    (given_of sample ≡ given (ascii "L") 256 (MovImm 3 false (Ok (pos 256)) 0) ∷ [])
    × AllValued (names_of sample) (given_of sample)
