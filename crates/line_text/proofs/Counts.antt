-- Each digit of the lines is one device's count. Assumes nothing.
use Prim.Native.Nat.{ℕ, ◌+◌, ◌/◌, ◌%◌, ◌^◌}
use mathlib.Core.List.{[], ◌∷◌}
use mathlib.Core.Path.{◌≡◌, refl, ap, ◌∙◌}
use native.Mathlib.Omega.{arith}
use lib.Pow.{shr-shr}
use Rattle.text.specs.Text.{glyph, hex_of}
use Rattle.line_text.specs.Counts.{CountsPrinted}

-- the number from place k on, four places further
next : (l k : ℕ) {q : ℕ} → q ≡ l / 2 ^ k → q / 16 ≡ l / 2 ^ (k + 4)
next l k e = ap (λ (x : ℕ). x / 16) e ∙ shr-shr l k 4

pub counts-printed : CountsPrinted
unfolding hex_of
counts-printed l =
    let q0 : l ≡ l / 2 ^ 0 = omega arith in
    let q1 : l / 16 ≡ l / 2 ^ 4 = refl in
    let q2 = next l 4 q1 in
    let q3 = next l 8 q2 in
    let q4 = next l 12 q3 in
    let q5 = next l 16 q4 in
    let q6 = next l 20 q5 in
    let q7 = next l 24 q6 in
    λ i.
    glyph (q7 i % 16) ∷ glyph (q6 i % 16) ∷ glyph (q5 i % 16) ∷ glyph (q4 i % 16)
    ∷ glyph (q3 i % 16) ∷ glyph (q2 i % 16) ∷ glyph (q1 i % 16) ∷ glyph (q0 i % 16) ∷ []
