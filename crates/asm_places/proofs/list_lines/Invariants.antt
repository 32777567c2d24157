use Prim.Native.Nat.{◌+◌, ◌-◌, ◌≤◌}
use mathlib.Core.Path.{◌≡◌}
use lib.ListN.{length, drop}
use lib.Seq.{sets}
use Rattle.text_lines.specs.Lines.{lines_of}
use Rattle.asm_text.specs.Text.{values_in}
use Rattle.asm_places.specs.Listing.{listed_from, listed_with, records_of}
use Rattle.asm_places.proofs.list_lines.Given as goal

abbrev pub invariant-loop-at : goal.invariant-loop-at
invariant-loop-at l =
    (l.at ≤ length l.source) × (length l.list ≡ length l.initial.list)
    × (l.i + length (records_of (listed_from (values_in l.names) (lines_of (drop l.at l.source)) l.p)) ≤ length
    l.initial.list)
    × (sets l.list l.i (records_of (listed_from (values_in l.names) (lines_of (drop l.at l.source)) l.p))
    ≡ sets l.initial.list 0 (records_of (listed_with (values_in l.names) l.source)))

abbrev pub decreases-loop-at : goal.decreases-loop-at
decreases-loop-at l = length l.source - l.at
