use Prim.Native.Nat.{◌≤◌}
use Rattle.event_rules.proofs.Risen.{Risen}
use Rattle.event_rules.proofs.rising.Given as goal

abbrev pub invariant-loop-k : goal.invariant-loop-k
invariant-loop-k l = (l.least ≤ 4294967296) × Risen l.events l.k l.least
