use Prim.Native.Nat.{◌≤◌, ◌+◌, ◌*◌}
use mathlib.Core.Path.{◌≡◌}
use lib.ListN.{drop}
use Rattle.srec.specs.Digits.{sum_of}
use Rattle.srec.specs.Record.{bytes_of}
use Rattle.srec_load.proofs.line.sum.Given as goal

abbrev pub invariant-loop-k : goal.invariant-loop-k
invariant-loop-k l = (l.s ≤ 255 * l.k) × (l.s + sum_of (drop l.k (bytes_of l.line)) ≡ sum_of (bytes_of l.line))
