-- The first sweep over a source's lines: does each fit a statement, and is there an END? (Document 02, §12.)
-- Assumes nothing.
use Rattle.std.specs.Prelude.{ℕ, ◌+◌, Bool, true, false, cond, List, [], ◌∷◌, ℤ, Option, Some, None, Result, Err}
use Rattle.text_lines.specs.Lines.{lines_of}
use Rattle.asm_value.specs.declared.Lack.{Lack}
use Rattle.asm_value.specs.declared.Lack.TheVariants.{Unknown}
use Rattle.asm_line.specs.declared.Line.{Line}
use Rattle.asm_line.specs.Line.{line_of}
use Rattle.asm_write.specs.declared.Layout.{Layout}
use Rattle.asm_write.specs.declared.Layout.TheVariants.{Bytes, Origin, Equal, Space, Stop}
use Rattle.asm_write.specs.Written.{layout_of}

-- no name is known
abbrev pub no_names : List ℕ → Result ℤ Lack
no_names n = Err Unknown

-- whether a line fits no statement: its names do not matter. [02 §12]
abbrev pub faulty? : Option Line → Bool
faulty? None = true
faulty? (Some l) = false

-- whether it is END
abbrev pub stops? : Layout → Bool
stops? (Bytes n) = false
stops? (Origin x) = false
stops? (Equal x) = false
stops? (Space x) = false
stops? Stop = true

abbrev pub end? : Option Line → Bool
end? None = false
end? (Some l) = stops? (layout_of l.statement)

-- "17 when a line fits no statement, brackets go deeper or END is missing; lines after END are not read": the first
-- line at fault of lines of which the first has number k, the line after the last where END is missing; or none.
-- [02 §12]
unfoldable pub form_from : ℕ → List (List ℕ) → Option ℕ
form_from k [] = Some k
form_from k (l ∷ ls) =
    let rest = form_from (k + 1) ls in
    cond (faulty? (line_of no_names l)) (Some k) (cond (end? (line_of no_names l)) None rest)

abbrev pub form_of : (source : List ℕ) → Option ℕ
form_of s = form_from 1 (lines_of s)
