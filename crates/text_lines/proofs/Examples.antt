-- Lines worked out. Assumes nothing.
use mathlib.Core.Path.{◌≡◌, refl}
use mathlib.Core.List.{[], ◌∷◌}
use Rattle.text_lines.specs.Lines.{lines_of}

-- LF, CR LF, and an ending that is absent
endings : lines_of (65 ∷ 10 ∷ 66 ∷ 13 ∷ 10 ∷ 67 ∷ []) ≡ (65 ∷ []) ∷ (66 ∷ []) ∷ (67 ∷ []) ∷ []
unfolding lines_of
endings = refl

-- a final LF opens no line, two in a row hold an empty one
empty-line : lines_of (65 ∷ 10 ∷ 10 ∷ []) ≡ (65 ∷ []) ∷ [] ∷ []
unfolding lines_of
empty-line = refl

-- a CR that LF does not follow is a character, at the end too
lone-cr : lines_of (65 ∷ 13 ∷ 66 ∷ 13 ∷ 13 ∷ 10 ∷ 13 ∷ []) ≡ (65 ∷ 13 ∷ 66 ∷ 13 ∷ []) ∷ (13 ∷ []) ∷ []
unfolding lines_of
lone-cr = refl

no_line : lines_of [] ≡ []
unfolding lines_of
no_line = refl
