-- Numbers as text: ASCII codes, base ten and upper-case base sixteen (document 01, "Sheet for the markers").
-- Assumes nothing.
use Rattle.std.specs.Prelude.{ℕ, zero, suc, ◌+◌, ◌/◌, ◌%◌, ◌≤◌, ◌≡◌, cond, List, [], ◌∷◌, ◌++◌, ltb, take, drop}

-- the code of a digit below 16: `0` to `9`, then `A` to `F`. [01 Sheet for the markers]
abbrev pub glyph : ℕ → ℕ
glyph d = cond (ltb d 10) (48 + d) (55 + d)

-- the last k digits of n in base sixteen, the highest first. [01 Sheet for the markers]
unfoldable pub hex_of : (k n : ℕ) → List ℕ
hex_of zero n = []
hex_of (suc k) n = hex_of k (n / 16) ++ (glyph (n % 16) ∷ [])

-- n in base ten without leading zeros, at most suc k digits. [01 Sheet for the markers]
unfoldable pub decimal_of : (k n : ℕ) → List ℕ
decimal_of zero n = glyph (n % 10) ∷ []
decimal_of (suc k) n = cond (ltb n 10) (glyph n ∷ []) (decimal_of k (n / 10) ++ (glyph (n % 10) ∷ []))

-- a text put into a buffer from place `at` up to `next`: what stands before `at` and from `next` on is as it was
pub record Puts (old : List ℕ) (at : ℕ) (text : List ℕ) (next : ℕ) (new : List ℕ) : Type 0 where
  pub onward : at ≤ next
  pub put : take next new ≡ take at old ++ text
  pub kept : drop next new ≡ drop next old
