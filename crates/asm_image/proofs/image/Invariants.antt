use Rattle.asm_image.specs.Image.{placed_from, placed_of, image_of}
use Rattle.asm_text.specs.Text.{values_in}
use Rattle.text_lines.specs.Lines.{lines_of}
use lib.ListN.{length, drop}
use Prim.Native.Nat.{◌-◌, ◌≤◌}
use mathlib.Core.Path.{◌≡◌}
use Rattle.asm_image.proofs.image.Given as goal

abbrev pub invariant-loop-at : goal.invariant-loop-at
invariant-loop-at l =
    (l.at ≤ length l.source) × (length l.memory ≡ 65536)
    × (image_of (placed_from (values_in l.names) (lines_of (drop l.at l.source)) l.p) l.memory
    ≡ image_of (placed_of (values_in l.names) l.source) l.initial.memory)

abbrev pub decreases-loop-at : goal.decreases-loop-at
decreases-loop-at l = length l.source - l.at
