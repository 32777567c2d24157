use Prim.Native.Nat.{suc, ◌≤◌}
use mathlib.Core.Bool.{true}
use mathlib.Core.Path.{◌≡◌}
use Rattle.machine.specs.Refusal.{in_order_below}
use Rattle.event_rules.proofs.records_in_order.Given as goal

abbrev pub invariant-loop-k : goal.invariant-loop-k
invariant-loop-k l = (l.k ≤ suc l.n) × (in_order_below l.events l.k ≡ true)
