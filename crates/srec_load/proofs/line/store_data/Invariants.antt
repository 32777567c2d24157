use Prim.Native.Nat.{◌+◌}
use mathlib.Core.Path.{◌≡◌}
use lib.ListN.{drop}
use lib.Seq.{sets}
use Rattle.srec_load.proofs.Laws.{stored}
use Rattle.srec_load.proofs.line.store_data.Given as goal

abbrev pub invariant-loop-k : goal.invariant-loop-k
invariant-loop-k l = sets l.memory (l.a + l.k) (drop l.k (stored l.line l.n)) ≡ sets l.initial.memory l.a (stored l.line l.n)
