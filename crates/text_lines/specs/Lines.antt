-- The lines of a text: LF or CR LF ends a line, and the last line's ending may be absent (document 02, §2).
-- Assumes nothing.
use Rattle.std.specs.Prelude.{ℕ, ◌-◌, ◌≤◌, ◌<◌, ◌≡◌, Bool, true, false, cond, ◌&&◌, List, [], ◌∷◌, ◌++◌, eqb, length, take, drop}

-- whether a text goes on with LF
abbrev pub starts_lf : List ℕ → Bool
starts_lf [] = false
starts_lf (b ∷ t) = eqb b 10

-- whether a text goes on with CR LF
abbrev pub starts_cr_lf : List ℕ → Bool
starts_cr_lf [] = false
starts_cr_lf (b ∷ t) = eqb b 13 && starts_lf t

-- a byte put before the first line; where there is none, it is a line
abbrev pub onto : ℕ → List (List ℕ) → List (List ℕ)
onto b [] = (b ∷ []) ∷ []
onto b (l ∷ ls) = (b ∷ l) ∷ ls

-- "lines end in LF or CR LF .. and the last line's ending may be absent": LF ends a line; a CR that LF follows is in no
-- line; every other byte, a lone CR too, is in its line. A final LF opens no further line. [02 §2]
unfoldable pub lines_of : List ℕ → List (List ℕ)
lines_of [] = []
lines_of (b ∷ t) =
    let ls = lines_of t in
    cond (eqb b 10) ([] ∷ ls) (cond (starts_cr_lf (b ∷ t)) ls (onto b ls))

-- a text of lines, each ended by LF
unfoldable pub text_of : List (List ℕ) → List ℕ
text_of [] = []
text_of (l ∷ ls) = l ++ (10 ∷ text_of ls)

-- whether nothing is left
abbrev pub none {ℓ} : {A : Type ℓ} → List A → Bool
none [] = true
none (x ∷ xs) = false

-- what stands from place `at` of a text: its first line ends before `stop`, the others begin at `next`
pub record LineAt (t : List ℕ) (at stop next : ℕ) : Type 0 where
  pub split : lines_of (drop at t) ≡ take (stop - at) (drop at t) ∷ lines_of (drop next t)
  pub from : at ≤ stop
  pub to : stop ≤ next
  pub onward : at < next
  pub within : next ≤ length t
