use Prim.Native.Nat.{◌-◌}
use mathlib.Core.Path.{◌≡◌}
use Rattle.stack_need.specs.Need.{sum_above}
use Rattle.stack_bytes.proofs.sum_above.Given as goal

abbrev pub invariant-loop-level : goal.invariant-loop-level
invariant-loop-level l = l.sum ≡ sum_above l.h.vectors.now l.h.devices l.h.uses.now (l.level - 1) l.p
