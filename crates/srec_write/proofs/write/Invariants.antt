use Prim.Native.Nat.{◌+◌}
use mathlib.Core.Path.{◌≡◌}
use lib.ListN.{length}
use lib.Seq.{sets}
use Rattle.srec.specs.Write.{span_text, span_length}
use Rattle.srec_write.proofs.write.Given as goal

abbrev pub invariant-loop-left : goal.invariant-loop-left
invariant-loop-left l = record {
  span : l.a + l.left ≡ l.start + l.n;
  size : length l.text ≡ length l.initial.text;
  place : l.at + span_length l.left ≡ span_length l.n;
  written : sets l.text l.at (span_text l.memory l.a l.left l.pc) ≡ sets l.initial.text 0 (span_text l.memory l.start l.n l.pc);
}

abbrev pub decreases-loop-left : goal.decreases-loop-left
decreases-loop-left l = l.left
