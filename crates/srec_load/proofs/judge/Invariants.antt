use Prim.Native.Nat.{◌≤◌, ◌-◌, ◌+◌}
use mathlib.Core.Path.{◌≡◌}
use lib.ListN.{length, drop}
use Rattle.text_lines.specs.Lines.{lines_of}
use Rattle.srec.specs.Load.{verdict_from, verdict_of}
use Rattle.srec_load.proofs.judge.Given as goal

abbrev pub invariant-loop-at : goal.invariant-loop-at
invariant-loop-at l = record {
  inside : l.at ≤ length l.text;
  few : l.number ≤ l.at + 1;
  same : verdict_from l.number (lines_of (drop l.at l.text)) ≡ verdict_of l.text;
}

abbrev pub decreases-loop-at : goal.decreases-loop-at
decreases-loop-at l = length l.text - l.at
