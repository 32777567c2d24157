-- The waiting lines beside a priority, in the part that the code has, and a line as the code answers it.
-- Assumes nothing.
use Rattle.std.specs.Prelude.{◌≡◌, ℕ, ◌<◌, cond, List, Option, None, Some}
use Rattle.machine.specs.Entry.{best, above}

-- The best waiting line if its priority is above p, else 8. [01 One step, in order, 3; 01 Return]
abbrev pub line_above : List ℕ → (lines p : ℕ) → ℕ
line_above m l p = cond (above m (best l m) p) (best l m) 8

-- The answer of the code for a line of this number, 8 for none. [01 One step, in order, 3]
abbrev pub Line : Option ℕ → ℕ → Type 0
Line None n = n ≡ 8
Line (Some d) n = (d < 8) × (n ≡ d)
