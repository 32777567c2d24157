use Prim.Native.Nat.{◌≤◌, ◌+◌, ◌*◌}
use mathlib.Core.Path.{◌≡◌}
use lib.ListN.{drop}
use Rattle.srec.specs.Digits.{sum_of}
use Rattle.srec_write.proofs.sum.Given as goal

abbrev pub invariant-loop-b : goal.invariant-loop-b
invariant-loop-b l = (l.s ≤ 255 * l.b-index) × (l.s + sum_of (drop l.b-index l.bytes) ≡ sum_of l.bytes)
