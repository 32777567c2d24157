use Rattle.std.proofs.Common.{◌≡◌, ◌+◌, ◌-◌, ◌≤◌, length, drop}
use Rattle.text_lines.specs.Lines.{lines_of}
use Rattle.asm_sweeps.specs.Form.{form_from, form_of}
use Rattle.asm_sweeps.proofs.form.Given as goal

abbrev pub invariant-loop-at : goal.invariant-loop-at
invariant-loop-at l =
    (l.at ≤ length l.source) × (l.number ≤ l.at + 1) × (form_from l.number (lines_of (drop l.at l.source)) ≡ form_of l.source)

abbrev pub decreases-loop-at : goal.decreases-loop-at
decreases-loop-at l = length l.source - l.at
