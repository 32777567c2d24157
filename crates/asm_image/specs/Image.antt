-- The fourth sweep: the image (document 02, §12).
-- Assumes nothing.
use Rattle.std.specs.Prelude.{ℕ, ◌+◌, ◌≤◌, ◌≡◌, cond, List, [], ◌∷◌, ◌++◌, ℤ, Option, Some, None, Result}
use Rattle.std.proofs.lemmas.List.Edits.{sets}
use Rattle.text_lines.specs.Lines.{lines_of}
use Rattle.asm_value.specs.declared.Lack.{Lack}
use Rattle.asm_line.specs.declared.Statement.{Statement}
use Rattle.asm_line.specs.declared.Line.{Line}
use Rattle.asm_line.specs.Line.{line_of}
use Rattle.asm_write.specs.Written.{layout_of, next_of, bytes_of}
use Rattle.asm_sweeps.specs.Form.{end?}
use Rattle.asm_sweeps.specs.Uses.{place_after}

-- ---- statements at their places

-- a statement and its place
pub record Placed : Type 0 where
  pub place : ℕ
  pub statement : Statement

abbrev pub placing : ℕ → Statement → Placed
placing p x = record { place = p; statement = x }

-- the statement of a line that stands at p, and the place after it
abbrev pub statements_at : ℕ → Option Line → List Placed
statements_at p None = []
statements_at p (Some y) = placing p y.statement ∷ []

abbrev pub place_on : ℕ → Option Line → ℕ
place_on p None = p
place_on p (Some y) = place_after p (next_of p (layout_of y.statement))

-- the statements of the lines up to END, the first at p. [02 §12]
unfoldable pub placed_from : (look : List ℕ → Result ℤ Lack) → List (List ℕ) → ℕ → List Placed
placed_from look [] p = []
placed_from look (l ∷ ls) p =
    let rest = placed_from look ls (place_on p (line_of look l)) in
    statements_at p (line_of look l) ++ cond (end? (line_of look l)) [] rest

-- "at first 0". [02 §12]
abbrev pub placed_of : (look : List ℕ → Result ℤ Lack) → (source : List ℕ) → List Placed
placed_of look s = placed_from look (lines_of s) 0

-- ---- the image

-- so many bytes at p lie in memory
abbrev pub Room : (p size : ℕ) → Type 0
Room p size = (size ≡ 0 → ⊥) → p + size ≤ 65536

-- "The image holds the encoded instructions and data at the stated addresses; no other byte changes, BSS's included";
-- "On overlap the later statement wins". [02 §12]
unfoldable pub image_of : List Placed → (memory : List ℕ) → List ℕ
image_of [] m = m
image_of (x ∷ xs) m = image_of xs (sets m x.place (bytes_of x.place x.statement))
