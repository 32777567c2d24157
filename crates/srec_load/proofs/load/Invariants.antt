use Prim.Native.Nat.{◌≤◌, ◌-◌}
use mathlib.Core.Path.{◌≡◌}
use lib.ListN.{length, drop}
use Rattle.text_lines.specs.Lines.{lines_of}
use Rattle.srec.specs.Load.{memory_after, pc_after, Sound}
use Rattle.srec_load.proofs.load.Given as goal

abbrev pub invariant-loop-at : goal.invariant-loop-at
invariant-loop-at l = record {
  inside : l.at ≤ length l.text;
  size : length l.memory ≡ length l.initial.memory;
  sound : Sound (lines_of (drop l.at l.text));
  stored : memory_after (lines_of (drop l.at l.text)) l.memory ≡ memory_after (lines_of l.text) l.initial.memory;
  counter : pc_after (lines_of (drop l.at l.text)) l.last ≡ pc_after (lines_of l.text) l.pc;
}

abbrev pub decreases-loop-at : goal.decreases-loop-at
decreases-loop-at l = length l.text - l.at
