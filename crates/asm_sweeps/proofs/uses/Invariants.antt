use Rattle.std.proofs.Common.{◌≡◌, ◌+◌, ◌-◌, ◌≤◌, length, drop}
use Rattle.text_lines.specs.Lines.{lines_of}
use Rattle.asm_text.specs.Text.{values_in}
use Rattle.asm_sweeps.specs.Uses.{uses_from, uses_of}
use Rattle.asm_sweeps.proofs.uses.Given as goal

abbrev pub invariant-loop-at : goal.invariant-loop-at
invariant-loop-at l =
    (l.at ≤ length l.source) × (l.t.line ≤ l.at + 1)
    × (uses_from (values_in l.names) (lines_of (drop l.at l.source)) l.t ≡ uses_of (values_in l.names) l.source)

abbrev pub decreases-loop-at : goal.decreases-loop-at
decreases-loop-at l = length l.source - l.at
