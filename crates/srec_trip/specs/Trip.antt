-- "loading them restores that span and touches no other byte" (document 02, §2).
-- Assumes nothing.
use Rattle.std.specs.Prelude.{ℕ, ◌+◌, ◌≤◌, ◌<◌, ◌≡◌, List, [], ◌∷◌, length, get_or}

-- a list of bytes
abbrev pub Bytes : List ℕ → Type 0
Bytes [] = Unit
Bytes (b ∷ bs) = (b < 256) × Bytes bs

-- `after` is `before` with the n bytes from place a as they are in `source`. [02 §2]
pub record Restored (source : List ℕ) (a n : ℕ) (before after : List ℕ) : Type 0 where
  pub length_kept : length after ≡ length before
  pub span : (i : ℕ) → a ≤ i → i < a + n → get_or after i 0 ≡ get_or source i 0
  pub below : (i : ℕ) → i < a → get_or after i 0 ≡ get_or before i 0
  pub above : (i : ℕ) → a + n ≤ i → get_or after i 0 ≡ get_or before i 0
