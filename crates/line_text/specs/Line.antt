-- The text of a printed line: of a run, or of a refusal (document 01, "Sheet for the markers").
-- Assumes nothing.
use Rattle.std.specs.Prelude.{ℕ, List, [], ◌∷◌, ◌++◌}
use Rattle.machine.specs.State.{reg}
use Rattle.machine.specs.Run.{Run, reason_of, reason_number}
use Rattle.text.specs.Text.{hex_of, decimal_of}

-- a field after a single space
abbrev pub spaced : List ℕ → List ℕ
spaced t = 32 ∷ t

-- Reason and steps in base ten, then R0 to R7 and PSW (four digits each), CEX (two digits) and the lines: "the two
-- digits of lines give way to eight, device 7 first"; and the deepest count, "the line's last field, in base ten".
-- Ended by LF. [01 Sheet for the markers; 02 §7; 02 §10]
unfoldable pub line_of : Run → (deepest : ℕ) → List ℕ
line_of x deepest =
    let c = x.state.core in
    decimal_of 6 (reason_number (reason_of x))
    ++ spaced (decimal_of 6 x.steps)
    ++ spaced (hex_of 4 (reg c 0))
    ++ spaced (hex_of 4 (reg c 1))
    ++ spaced (hex_of 4 (reg c 2))
    ++ spaced (hex_of 4 (reg c 3))
    ++ spaced (hex_of 4 (reg c 4))
    ++ spaced (hex_of 4 (reg c 5))
    ++ spaced (hex_of 4 (reg c 6))
    ++ spaced (hex_of 4 (reg c 7))
    ++ spaced (hex_of 4 c.psw)
    ++ spaced (hex_of 2 c.cex)
    ++ spaced (hex_of 8 x.state.lines)
    ++ spaced (decimal_of 6 deepest)
    ++ (10 ∷ [])

-- "`R3` for refusal 3 and so on", ended by LF. [01 Sheet for the markers]
abbrev pub refused_line : ℕ → List ℕ
refused_line k = 82 ∷ decimal_of 6 k ++ (10 ∷ [])
