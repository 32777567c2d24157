-- Parts of the line, as single functions write them (document 01, "Sheet for the markers").
-- Assumes nothing.
use Rattle.std.specs.Prelude.{ℕ, List, ◌++◌, get_or}
use Rattle.machine.specs.declared.Machine.{Machine}
use Rattle.text.specs.Text.{hex_of}
use Rattle.line_text.specs.Line.{spaced}

-- four words in a row, each after a space. [01 Sheet for the markers]
abbrev pub words_text : (a b c d : ℕ) → List ℕ
words_text a b c d = spaced (hex_of 4 a) ++ spaced (hex_of 4 b) ++ spaced (hex_of 4 c) ++ spaced (hex_of 4 d)

-- the line between the steps and the deepest count: R0 to R7, PSW, CEX, the lines' counts.
-- [01 Sheet for the markers; 02 §7]
unfoldable pub machine_text : Machine → List ℕ
machine_text m =
    spaced (hex_of 4 (get_or m.regs 0 0))
    ++ spaced (hex_of 4 (get_or m.regs 1 0))
    ++ spaced (hex_of 4 (get_or m.regs 2 0))
    ++ spaced (hex_of 4 (get_or m.regs 3 0))
    ++ spaced (hex_of 4 (get_or m.regs 4 0))
    ++ spaced (hex_of 4 (get_or m.regs 5 0))
    ++ spaced (hex_of 4 (get_or m.regs 6 0))
    ++ spaced (hex_of 4 (get_or m.regs 7 0))
    ++ spaced (hex_of 4 m.rest.psw)
    ++ spaced (hex_of 2 m.rest.cex)
    ++ spaced (hex_of 8 m.rest.lines)
