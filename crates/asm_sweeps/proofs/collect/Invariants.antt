use Rattle.std.proofs.Common.{◌≡◌, ◌+◌, ◌-◌, ◌≤◌, length, drop}
use Rattle.text_lines.specs.Lines.{lines_of}
use Rattle.asm_sweeps.specs.Places.{table_from, table_of}
use Rattle.asm_sweeps.specs.Held.{table_at, Holds}
use Rattle.asm_sweeps.proofs.collect.Given as goal

abbrev pub invariant-loop-at : goal.invariant-loop-at
invariant-loop-at l =
    (l.at ≤ length l.source) × (l.t.line ≤ l.at + 1)
    × (table_from (lines_of (drop l.at l.source)) (table_at l.source l.list l.t) ≡ table_of l.source)
    × Holds l.source l.list l.t

abbrev pub decreases-loop-at : goal.decreases-loop-at
decreases-loop-at l = length l.source - l.at
